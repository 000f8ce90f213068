use Rattle.std.proofs.Common.{◌≡◌, Bool, Some, Ok}
use Rattle.std.proofs.lemmas.Result.{err_from_is_err_and}
use Rattle.event_reader.specs.Events.{event_of_line}
use Rattle.event_run.proofs.RanOut.{wants_this, wants_none}
use Rattle.event_run.proofs.taking.give_line.Goals as goal

pub returns-in_err-give_event-in-Ok-true-clause-wanting_steps : goal.returns-in_err-give_event-in-Ok-true-clause-wanting_steps
returns-in_err-give_event-in-Ok-true-clause-wanting_steps g c = λ events stands.
    let p = err_from_is_err_and c.from_residual.result c.from_residual.ensures.1 in
    let told = rw c.in-Ok-true.field-0-test at c.in-Ok-true.ensures.event in
    let schema = c.schema.ensures in
    let text = c.text.ensures.value in
    let event = c.event.ensures in
    let is : event_of_line c.args.engine.now.schema c.args.lines.now.text ≡ Ok (Some c.event.result.now) = cc in
    rw (p.1, p.2) (wants_this (Unit {0}) Bool _ _ c.args.lines.now.text events c.event.result.now _ _ c.in_err-give_event-in-Ok-true.field-0.0 is (c.in_err-give_event-in-Ok-true.ensures.wanting_steps events stands))

pub returns-in-Err-clause-wanting_steps : goal.returns-in-Err-clause-wanting_steps
returns-in-Err-clause-wanting_steps g c = λ events stands. wants_none Bool _ _ events _ _ c.in-Err.stop
