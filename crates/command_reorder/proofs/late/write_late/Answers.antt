use Rattle.std.proofs.Common.{◌≡◌, ℕ, List, [], Option, Result, ap, subst, arith}
use Rattle.cer_base.specs.declared.OrMemory.{OrMemory}
use Rattle.stream_schema.specs.declared.Event.{Event}
use Rattle.cel_terms.specs.declared.Query.{Query}
use Rattle.query_engine.specs.Engine.{EngineState, peak_of}
use Rattle.stream_answers.specs.declared.StreamFault.{StreamFault}
use Rattle.stream_answers.specs.Counting.{RunEnded}
use Rattle.stream_answers.specs.Schedules.{Timing}
use Rattle.stream_answers.specs.Streams.{RunRequest, asked_by}
use Rattle.stream_answers.proofs.Wholes.{wrote_none_of}
use Rattle.stream_answers.proofs.Totals.{bounded_none, counts_none_of}
use Rattle.stream_answers.proofs.Windows.{follows_none}
use Rattle.command_reorder.specs.Late.{LateRequest, Feed, feed_for, TakesFed, RunsLate}
use Rattle.command_reorder.specs.LateOutput.{asked, feed_by, ReadsFed}
use Rattle.command_reorder.proofs.Gating.{same_feed, begins_none, may_begin, lets_none_go}
use Rattle.command_reorder.proofs.late.write_late.Goals as goal

-- how the run ended, in the words of what was asked
late_ended : {T : Type 0} (f asked_feed : Feed) (queries : List Query) (timing : Timing) (peaks : ℕ → ℕ) (a : RunRequest) (source left before after : Option (List ℕ)) (last : EngineState) (first now : ℕ) (result : Result T (OrMemory StreamFault)) → f ≡ asked_feed →
    RunEnded (TakesFed f queries []) (ReadsFed f queries []) timing peaks [] a source left before after last first now result → RunEnded (TakesFed asked_feed queries []) (ReadsFed asked_feed queries []) timing peaks [] a source left before after last first now result
late_ended f asked_feed queries timing peaks a source left before after last first now result same ended =
    subst (λ (d : Feed). RunEnded (TakesFed d queries []) (ReadsFed d queries []) timing peaks [] a source left before after last first now result) same ended

pub returns-in-Err-clause-wrote : goal.returns-in-Err-clause-wrote
returns-in-Err-clause-wrote g c =
    let a : LateRequest = feed_by c.args.options c.args.clock.now c.args.late c.args.engine.now in
    wrote_none_of (RunsLate a) [] (asked a) _ _ (λ lines. begins_none (feed_for a) a.queries [] lines)

pub returns-in-Err-clause-steps : goal.returns-in-Err-clause-steps
returns-in-Err-clause-steps g c = λ bytes told.
    let a : LateRequest = feed_by c.args.options c.args.clock.now c.args.late c.args.engine.now in
    let t : Timing = record { every = c.args.options.compact_every; first = 0 } in
    counts_none_of t (RunsLate a) [] (asked a) bytes c.args.steps.now c.args.steps.now (begins_none (feed_for a) a.queries [] bytes) (bounded_none t a.schema a.queries [] [] c.args.steps.now)

pub write_events-requires-clause-goes_on : goal.write_events-requires-clause-goes_on
write_events-requires-clause-goes_on g c = may_begin c.args.engine.now.schema c.in-Ok.events c.in-Ok.ensures.open c.in-Ok.ensures.none

pub write_events-requires-clause-room : goal.write_events-requires-clause-room
write_events-requires-clause-room g c = let none = c.requires.none in let room = c.in-Ok.ensures.room in omega (arith, none, room)

pub write_events-requires-clause-given : goal.write_events-requires-clause-given
write_events-requires-clause-given g c = λ earlier bytes. lets_none_go c.args.engine.now.schema c.args.engine.now.queries earlier c.in-Ok.events bytes c.in-Ok.ensures.going c.in-Ok.ensures.stands (c.in-Ok.ensures.given bytes)

pub write_events-requires-clause-begins : goal.write_events-requires-clause-begins
write_events-requires-clause-begins g c = λ earlier bytes. begins_none _ _ earlier bytes

pub returns-clause-wrote : goal.returns-clause-wrote
returns-clause-wrote g c =
    (late_ended _ (feed_for (feed_by c.args.options c.args.clock.now c.args.late c.args.engine.now)) c.args.engine.now.queries _ (peak_of c.args.engine.now) (asked_by c.args.options c.args.engine.now) _ _ _ _ _ _ _ c.write_events.result
    (same_feed (feed_for (feed_by c.args.options c.args.clock.now c.args.late c.args.engine.now)) c.in-Ok.events.lines c.in-Ok.events.gate (record { clock = ap (λ k (e : ℕ × Event). k e.1) (rw c.schema.ensures at c.in-Ok.ensures.clock).clock; late = c.in-Ok.ensures.late }) c.in-Ok.ensures.budget)
    (c.write_events.ensures.ended (peak_of c.args.engine.now) [] c.args.steps.now (follows_none c.args.engine.now c.requires.fresh) (λ most meet. omega arith))).wrote

pub returns-clause-steps : goal.returns-clause-steps
returns-clause-steps g c =
    (late_ended _ (feed_for (feed_by c.args.options c.args.clock.now c.args.late c.args.engine.now)) c.args.engine.now.queries _ (peak_of c.args.engine.now) (asked_by c.args.options c.args.engine.now) _ _ _ _ _ _ _ c.write_events.result
    (same_feed (feed_for (feed_by c.args.options c.args.clock.now c.args.late c.args.engine.now)) c.in-Ok.events.lines c.in-Ok.events.gate (record { clock = ap (λ k (e : ℕ × Event). k e.1) (rw c.schema.ensures at c.in-Ok.ensures.clock).clock; late = c.in-Ok.ensures.late }) c.in-Ok.ensures.budget)
    (c.write_events.ensures.ended (peak_of c.args.engine.now) [] c.args.steps.now (follows_none c.args.engine.now c.requires.fresh) (λ most meet. omega arith))).steps

pub returns-clause-stands : goal.returns-clause-stands
returns-clause-stands g c =
    (late_ended _ (feed_for (feed_by c.args.options c.args.clock.now c.args.late c.args.engine.now)) c.args.engine.now.queries _ (peak_of c.args.engine.now) (asked_by c.args.options c.args.engine.now) _ _ _ _ _ _ _ c.write_events.result
    (same_feed (feed_for (feed_by c.args.options c.args.clock.now c.args.late c.args.engine.now)) c.in-Ok.events.lines c.in-Ok.events.gate (record { clock = ap (λ k (e : ℕ × Event). k e.1) (rw c.schema.ensures at c.in-Ok.ensures.clock).clock; late = c.in-Ok.ensures.late }) c.in-Ok.ensures.budget)
    (c.write_events.ensures.ended (peak_of c.args.engine.now) [] c.args.steps.now (follows_none c.args.engine.now c.requires.fresh) (λ most meet. omega arith))).stands
