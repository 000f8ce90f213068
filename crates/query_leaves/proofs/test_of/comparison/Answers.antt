use Rattle.std.proofs.Common.{ap, sym, ◌∙◌}
use Rattle.stream_schema.specs.Names.{attr_at}
use Rattle.query_leaves.proofs.Tested.{not_compared}
use Rattle.query_leaves.proofs.test_of.comparison.Goals as goal

pub returns-in-None : goal.returns-in-None
returns-in-None c =
    not_compared c.args.schema.now c.args.ty c.args.name.now c.args.op c.args.literal.now
    (sym c.in-None.is ∙ c.attr.ensures.place ∙ ap (attr_at c.args.schema.now c.args.ty) c.as_str.ensures)
