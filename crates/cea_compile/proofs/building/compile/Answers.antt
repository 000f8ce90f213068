use Rattle.std.proofs.Common.{refl, sym, subst, length}
use Rattle.query_leaves.specs.Shapes.{tree_of_shape}
use Rattle.cea_compile.specs.Found.{AreBelow}
use Rattle.cea_compile.proofs.Built.{built, well_formed}
use Rattle.cea_compile.proofs.Below.{numbered_below}
use Rattle.cea_compile.proofs.building.compile.Goals as goal

pub returns-clause-automaton : goal.returns-clause-automaton
returns-clause-automaton c = built c.args.leaves.now record { size = length c.as_slice-list.result.now; first = c.in_ok-ends.ends.first; last = c.in_ok-ends.ends.last; near = c.ends_of.new.followers.near; far = c.ends_of.new.followers.far; marked = c.in_ok-marked.field-0; strict = c.args.leaves.now.strict } c.as_slice-list.result.now c.in_ok-followers.followers c.ends_of.new.followers c.as_slice-list.ensures refl c.in_ok-ends.ensures.first c.in_ok-ends.ensures.last c.in_ok-followers.ensures.empty c.in_ok-ends.ensures.pairs (λ j k. refl) (λ j k. refl) c.in_ok-marked.ensures.members

pub returns-clause-well_formed : goal.returns-clause-well_formed
returns-clause-well_formed c = well_formed c.args.leaves.now record { size = length c.as_slice-list.result.now; first = c.in_ok-ends.ends.first; last = c.in_ok-ends.ends.last; near = c.ends_of.new.followers.near; far = c.ends_of.new.followers.far; marked = c.in_ok-marked.field-0; strict = c.args.leaves.now.strict } c.as_slice-list.result.now c.in_ok-followers.followers c.ends_of.new.followers c.in_ok-ends.ends (numbered_below c.args.leaves.now c.requires) c.as_slice-list.ensures refl refl refl c.in_ok-ends.ensures.ends c.in_ok-ends.ensures.first c.in_ok-ends.ensures.last c.in_ok-followers.ensures.empty c.in_ok-ends.ensures.pairs c.in_ok-ends.ensures.room refl refl c.in_ok-marked.ensures.room c.in_ok-marked.ensures.members

pub ends_of-requires-clause-below : goal.ends_of-requires-clause-below
ends_of-requires-clause-below c = subst (λ list. AreBelow (length list) (tree_of_shape c.args.leaves.now.shape)) (sym c.as_slice-list.ensures) (numbered_below c.args.leaves.now c.requires)
