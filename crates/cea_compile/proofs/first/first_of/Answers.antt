use Rattle.std.proofs.Common.{sym, subst, length}
use Rattle.query_leaves.specs.Shapes.{tree_of_shape}
use Rattle.cea_compile.specs.Found.{AreBelow}
use Rattle.cea_compile.proofs.Below.{numbered_below}
use Rattle.cea_compile.proofs.first.first_of.Goals as goal

pub put_first-requires-clause-below : goal.put_first-requires-clause-below
put_first-requires-clause-below c = subst (λ list. AreBelow (length list) (tree_of_shape c.args.leaves.now.shape)) (sym c.as_slice-size.ensures) (numbered_below c.args.leaves.now c.requires)
