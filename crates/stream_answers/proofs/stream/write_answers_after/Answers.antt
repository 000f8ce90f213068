use Rattle.std.proofs.Common.{◌≡◌, ℕ, List, [], length, Option, Result, refl, subst, arith}
use Rattle.cer_base.specs.declared.OrMemory.{OrMemory}
use Rattle.stream_schema.specs.declared.Event.{Event}
use Rattle.query_engine.specs.Engine.{EngineState}
use Rattle.event_run.specs.Runs.{RunsAfter}
use Rattle.event_run.specs.Taking.{AreEventsReadAfter}
use Rattle.event_run.proofs.Given.{room_within}
use Rattle.stream_answers.specs.declared.StreamFault.{StreamFault}
use Rattle.stream_answers.specs.Counting.{RunEnded}
use Rattle.stream_answers.specs.Schedules.{Timing}
use Rattle.stream_answers.specs.Streams.{RunRequest, asked_by}
use Rattle.stream_answers.proofs.RunEnds.{on_end}
use Rattle.stream_answers.proofs.Wholes.{wrote_none, begins_as}
use Rattle.stream_answers.proofs.Totals.{bounded_first, counts_none}
use Rattle.stream_answers.proofs.stream.write_answers_after.Goals as goal

-- the bytes that are too many, as the reader tells them
by_budget : {T : Type 0} (earlier : List Event) (engine : EngineState) (timing : Timing) (peaks : ℕ → ℕ) (a : RunRequest) (source left before after : Option (List ℕ)) (last : EngineState) (first now : ℕ) (result : Result T (OrMemory StreamFault)) (budget most : ℕ) → budget ≡ most →
    RunEnded (RunsAfter earlier engine.schema engine.queries budget) (λ l lines events. AreEventsReadAfter earlier engine.schema engine.queries budget lines l events) timing peaks earlier a source left before after last first now result →
    RunEnded (RunsAfter earlier engine.schema engine.queries most) (λ l lines events. AreEventsReadAfter earlier engine.schema engine.queries most lines l events) timing peaks earlier a source left before after last first now result
by_budget earlier engine timing peaks a source left before after last first now result budget most same ended =
    subst (λ (n : ℕ). RunEnded (RunsAfter earlier engine.schema engine.queries n) (λ l lines events. AreEventsReadAfter earlier engine.schema engine.queries n lines l events) timing peaks earlier a source left before after last first now result) same ended

pub returns-in-Err-clause-wrote : goal.returns-in-Err-clause-wrote
returns-in-Err-clause-wrote g c = λ peaks earlier f. wrote_none earlier _ _ _

pub returns-in-Err-clause-steps : goal.returns-in-Err-clause-steps
returns-in-Err-clause-steps g c = λ peaks earlier begun f paid bytes same.
    let t : Timing = record { every = c.args.options.compact_every; first = length earlier } in
    counts_none t earlier _ bytes begun c.args.steps.now (bounded_first t c.args.engine.now earlier begun c.args.steps.now c.args.steps.now f.stands f.dense paid (λ most meet few. omega arith))

pub write_events-requires-clause-goes_on : goal.write_events-requires-clause-goes_on
write_events-requires-clause-goes_on g c = c.in-Ok.ensures.open

pub write_events-requires-clause-room : goal.write_events-requires-clause-room
write_events-requires-clause-room g c = let room = c.requires.room in let budget = c.in-Ok.ensures.budget in let within = room_within c.in-Ok.events.lines c.in-Ok.ensures.given in omega (arith, room, budget, within)

pub write_events-requires-clause-given : goal.write_events-requires-clause-given
write_events-requires-clause-given g c = λ earlier bytes. record { texts = []; given = c.in-Ok.ensures.given bytes; good = refl }

pub write_events-requires-clause-begins : goal.write_events-requires-clause-begins
write_events-requires-clause-begins g c = λ earlier bytes. begins_as earlier c.args.engine.now.schema c.args.engine.now.queries c.in-Ok.events.lines.budget bytes

pub returns-clause-wrote : goal.returns-clause-wrote
returns-clause-wrote g c = λ peaks earlier f.
    (by_budget earlier c.args.engine.now _ peaks (asked_by c.args.options c.args.engine.now) _ _ _ _ _ _ _ c.write_events.result c.in-Ok.events.lines.budget c.args.options.most_bytes c.in-Ok.ensures.budget
    (c.write_events.ensures.ended peaks earlier c.args.steps.now f (λ most meet. omega arith))).wrote

pub returns-clause-steps : goal.returns-clause-steps
returns-clause-steps g c = λ peaks earlier begun f paid.
    (by_budget earlier c.args.engine.now _ peaks (asked_by c.args.options c.args.engine.now) _ _ _ _ _ _ _ c.write_events.result c.in-Ok.events.lines.budget c.args.options.most_bytes c.in-Ok.ensures.budget
    (c.write_events.ensures.ended peaks earlier begun f paid)).steps

pub returns-clause-stands : goal.returns-clause-stands
returns-clause-stands g c = on_end c.write_events.result _ (λ well peaks earlier f.
    well _ (by_budget earlier c.args.engine.now _ peaks (asked_by c.args.options c.args.engine.now) _ _ _ _ _ _ _ c.write_events.result c.in-Ok.events.lines.budget c.args.options.most_bytes c.in-Ok.ensures.budget
    (c.write_events.ensures.ended peaks earlier c.args.steps.now f (λ most meet. omega arith))).stands)
