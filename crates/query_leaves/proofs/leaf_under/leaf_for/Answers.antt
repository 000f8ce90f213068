use Rattle.std.proofs.Common.{sym, subst}
use Rattle.query_leaves.specs.Numbering.{occurrence_under, AreMadeUnder}
use Rattle.query_leaves.proofs.Above.{copied}
use Rattle.query_leaves.proofs.leaf_under.leaf_for.Goals as goal

pub returns-in-Some-clause-leaf : goal.returns-in-Some-clause-leaf
returns-in-Some-clause-leaf c are =
    let schema = c.args.schema.now in
    let above = c.args.above.now in
    copied schema (occurrence_under above c.args.name.now) c.copy_of.result c.in-Some.leaf.now
    (c.in-Some.ensures schema above (subst (AreMadeUnder schema above) (sym c.as_slice.ensures.value) are))
    c.copy_of.ensures
