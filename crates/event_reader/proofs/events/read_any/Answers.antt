use Rattle.std.proofs.Common.{length, sym}
use Rattle.event_reader.proofs.QuotedFields.{some_left}
use Rattle.event_reader.proofs.RefusedLines.{tells_refusal}
use Rattle.event_reader.proofs.events.read_any.Goals as goal

pub returns-in-None : goal.returns-in-None
returns-in-None c =
    tells_refusal c.args.schema.now c.args.line.now c.read_quoted.new.values.items c.refusal.result (some_left (length c.args.line.now) c.if-is_empty.ensures) (sym c.if-is_bad.ensures) c.refusal.ensures
