use Rattle.std.proofs.Common.{ap, sym, subst, ◌∙◌}
use Rattle.stream_schema.specs.Names.{attr_at}
use Rattle.cel_terms.specs.declared.Pred.{Cmp}
use Rattle.query_leaves.specs.Tests.{IsTestOf}
use Rattle.query_leaves.proofs.Tested.{compared, not_compared}
use Rattle.query_leaves.proofs.test_of.is_comparison.Goals as goal

pub returns-in-Some : goal.returns-in-Some
returns-in-Some c is =
    let schema = c.args.schema.now in
    let named = c.is_named.ensures is in
    subst (IsTestOf schema c.args.ty (Cmp c.args.name.now c.args.op c.args.literal.now)) (sym c.in-Some.ensures)
    (compared schema c.args.ty c.args.name.now c.args.op c.args.literal.now (record { index = c.in-Some.place; kind = named.0 })
    (sym named.1 ∙ ap (attr_at schema c.args.ty) c.as_str-in-Some.ensures))

pub returns-in-No : goal.returns-in-No
returns-in-No c is =
    let schema = c.args.schema.now in
    subst (IsTestOf schema c.args.ty (Cmp c.args.name.now c.args.op c.args.literal.now)) (sym c.in-No.is)
    (not_compared schema c.args.ty c.args.name.now c.args.op c.args.literal.now
    (sym (c.lacks.ensures is) ∙ ap (attr_at schema c.args.ty) c.as_str.ensures))
