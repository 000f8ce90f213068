use Rattle.std.proofs.Common.{◌≡◌, length, ◌∙◌, arith}
use Rattle.std.proofs.lemmas.Grind.{common_steps}
use Rattle.checkpoint_text.proofs.Lines.{line_told, line_refused, text_ends, no_further}
use Rattle.checkpoint_text.proofs.ParseState.{some_more, spelled_at_end}
use Rattle.checkpoint_text.proofs.reading.read_on.Goals as goal

pub returns-in-Ok-End-clause-text : goal.returns-in-Ok-End-clause-text
returns-in-Ok-End-clause-text g c = λ bytes given.
    let inv = c.loop-lines.invariant in
    let moved = rw c.in-Ok-End.field-0-is at c.in-Ok-End.ensures.moves in
    let long : length c.loop-lines.events.items ≡ c.len.result = grind (arith, common_steps, c.len.ensures) in
    text_ends c.args.schema.now c.args.queries.now c.loop-lines.lines c.next.new.self bytes (g.Q.Source.left c.loop-lines.source) (g.Q.Source.left c.next.new.source) (record { stand = c.loop-lines.stand; events = c.loop-lines.events.items }) c.number.result c.loop-lines.events.items c.at_end.result
    (moved.budget ∙ inv.budget) (c.number.ensures ∙ moved.number_is) ((rw c.in-Ok-End.field-0-is at c.in-Ok-End.ensures.lines) bytes) (inv.told bytes given) (c.at_end.ensures c.loop-lines.events.items long)

pub returns-in-Ok-End-clause-spelled : goal.returns-in-Ok-End-clause-spelled
returns-in-Ok-End-clause-spelled g c =
    let long : length c.loop-lines.events.items ≡ c.len.result = grind (arith, common_steps, c.len.ensures) in
    spelled_at_end c.args.schema.now c.args.queries.now c.number.result (record { stand = c.loop-lines.stand; events = c.loop-lines.events.items }) c.at_end.result c.loop-lines.invariant.so_far (c.at_end.ensures c.loop-lines.events.items long)

pub returns-in-Err-clause-text : goal.returns-in-Err-clause-text
returns-in-Err-clause-text g c = λ bytes given.
    let inv = c.loop-lines.invariant in
    rw c.fault_of.ensures
    (no_further c.args.schema.now c.args.queries.now c.loop-lines.lines c.next.new.self bytes (g.Q.Source.left c.loop-lines.source) (g.Q.Source.left c.next.new.source) (record { stand = c.loop-lines.stand; events = c.loop-lines.events.items }) c.number-in-Err.result c.loop-lines.events.items c.in-Err.fault
    (c.in-Err.ensures.moves.budget ∙ inv.budget) (c.number-in-Err.ensures ∙ c.in-Err.ensures.moves.number_is) (c.in-Err.ensures.lines bytes) (inv.told bytes given))

pub loop-lines-preserved : goal.loop-lines-preserved
loop-lines-preserved g c =
    let inv = c.loop-lines.invariant in
    let moved = rw c.in-Ok-Line.field-0-is at c.in-Ok-Line.ensures.moves in
    record {
      open_is = moved.1.closed_is;
      budget = moved.1.budget ∙ inv.budget;
      few = omega (arith, moved.0, moved.1.number_is, moved.1.room_within, inv.few);
      faults = c.in-Ok-Line.ensures.cause ∙ inv.faults;
      lasts = c.in-Ok.ensures.lasts;
      told = λ bytes given.
          line_told c.args.schema.now c.args.queries.now c.loop-lines.lines c.next.new.self bytes (g.Q.Source.left c.loop-lines.source) (g.Q.Source.left c.next.new.source) (record { stand = c.loop-lines.stand; events = c.loop-lines.events.items }) (record { stand = c.take_line.new.stand; events = c.take_line.new.events.items }) c.text.result.now c.text.ensures.value
          ((rw c.in-Ok-Line.field-0-is at c.in-Ok-Line.ensures.lines) bytes) c.in-Ok.ensures.told (inv.told bytes given);
      so_far = some_more c.args.schema.now c.args.queries.now (record { stand = c.loop-lines.stand; events = c.loop-lines.events.items }) (record { stand = c.take_line.new.stand; events = c.take_line.new.events.items }) c.text.result.now c.in-Ok.ensures.told inv.so_far;
    }

pub returns-in-Err-Fault-clause-text : goal.returns-in-Err-Fault-clause-text
returns-in-Err-Fault-clause-text g c = λ bytes given.
    let inv = c.loop-lines.invariant in
    let moved = rw c.in-Ok-Line.field-0-is at c.in-Ok-Line.ensures.moves in
    rw c.in-Err-Fault.field-0-is
    (line_refused c.args.schema.now c.args.queries.now c.loop-lines.lines c.next.new.self bytes (g.Q.Source.left c.loop-lines.source) (g.Q.Source.left c.next.new.source) (record { stand = c.loop-lines.stand; events = c.loop-lines.events.items }) c.number-line.result c.in-Err-Fault.fault c.text.result.now c.text.ensures.value
    (moved.1.budget ∙ inv.budget) c.number-line.ensures ((rw c.in-Ok-Line.field-0-is at c.in-Ok-Line.ensures.lines) bytes) (rw c.in-Err-Fault.field-0-is at c.in-Err-Fault.ensures.refused) (inv.told bytes given))
