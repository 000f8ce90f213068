use Rattle.std.proofs.Common.{refl}
use Rattle.event_reader.proofs.CommonFields.{whole_found}
use Rattle.event_reader.proofs.common.read_common.Goals as goal

pub returns : goal.returns
returns c =
    whole_found c.args.schema.now c.args.line.now c.in-Some.end c.read_typed.result c.read_typed.new.values.items (c.if-not-has_no_mark.ensures refl) c.requires.line_feed c.in-Some.ensures.cell c.read_typed.ensures.begins c.read_typed.ensures.plain c.read_typed.ensures.event
