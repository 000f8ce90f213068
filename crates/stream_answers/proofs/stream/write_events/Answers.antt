use Rattle.std.proofs.Common.{◌≡◌, ◌+◌, ◌≤◌, ℕ, List, [], length, Option, Some, sym, ap, subst, ◌∙◌, arith}
use Rattle.stream_schema.specs.Types.{Declared}
use Rattle.stream_schema.specs.declared.Event.{Event}
use Rattle.cel_terms.specs.declared.Query.{Query}
use Rattle.answer_text.specs.declared.Order.{Order}
use Rattle.query_engine.specs.Engine.{EngineState, SameQueries}
use Rattle.stream_answers.specs.Counting.{HasBegun, RunEnded}
use Rattle.stream_answers.specs.Events.{Begins}
use Rattle.stream_answers.specs.Schedules.{Timing, Plan, WithNoNumber, saved, first_compaction, IsOnTime}
use Rattle.stream_answers.specs.Steps.{AreBoundedBy}
use Rattle.stream_answers.specs.Windows.{FollowsEvents}
use Rattle.stream_answers.proofs.Running.{in_words}
use Rattle.stream_answers.proofs.Wholes.{wrote_none_of}
use Rattle.stream_answers.proofs.Totals.{bounded_first, counts_none_of}
use Rattle.stream_answers.proofs.stream.write_events.Goals as goal

-- the timing, where the events before are counted otherwise
timing_is : (t : Timing) (every : Option ℕ) (count n : ℕ) → t ≡ (let r : Timing = record { every = every; first = count } in r) → t.first ≡ n → t ≡ (let r : Timing = record { every = every; first = n } in r)
timing_is t every count n is behind = is ∙ ap (λ (m : ℕ). (let r : Timing = record { every = every; first = m } in r)) (sym (ap (λ (r : Timing). r.first) is) ∙ behind)

-- how the run begins
begins : (plan : Plan) (every : Option ℕ) (count : ℕ) (peaks : ℕ → ℕ) (events : List Event) (engine : EngineState) → plan.timing ≡ (let r : Timing = record { every = every; first = count } in r) → FollowsEvents peaks engine events →
    plan.timing.first ≡ length events → WithNoNumber every (IsOnTime plan engine events) → HasBegun plan peaks events engine
begins plan every count peaks events engine is follows first on_time = record {
  follows = follows;
  first = first;
  on_time = subst (λ (t : Timing). WithNoNumber t.every (IsOnTime plan engine events)) (sym is) on_time;
}

-- the steps in the words of the engine that was compacted first
bounded_as : (timing : Timing) (old new : EngineState) (events : List Event) (first now : ℕ) → SameQueries old new → AreBoundedBy timing old.schema old.queries events [] first now → AreBoundedBy timing new.schema new.queries events [] first now
bounded_as timing old new events first now same bounded = in_words (λ s qs. AreBoundedBy timing s qs events [] first now) old.schema new.schema old.queries new.queries (sym same.0) (sym same.1) bounded

-- the first compaction, where the number is told by the timing
first_as : (was every : Option ℕ) (queries events : ℕ) (most : ℕ → ℕ) (before now : ℕ) → was ≡ every → now ≤ before + first_compaction every queries most events → now ≤ before + first_compaction was queries most events
first_as was every queries events most before now is paid = subst (λ (e : Option ℕ). now ≤ before + first_compaction e queries most events) (sym is) paid

pub returns-in-Err-clause-ended : goal.returns-in-Err-clause-ended
returns-in-Err-clause-ended g c = λ peaks earlier begun f paid.
    let t : Timing = record { every = c.args.options.compact_every; first = length earlier } in record {
      wrote = wrote_none_of _ earlier _ _ _ (c.requires.begins earlier);
      steps = λ bytes told.
          counts_none_of t _ earlier _ bytes begun c.new.new.steps (c.requires.begins earlier bytes) (bounded_first t c.args.engine.now earlier begun c.args.steps.now c.new.new.steps f.stands f.dense paid (λ most meet few. c.in-Err.ensures.wanting_steps earlier most f.stands meet few));
      stands = tt;
    }

pub answer_events-requires-clause-goes_on : goal.answer_events-requires-clause-goes_on
answer_events-requires-clause-goes_on g c = subst (g.E.Events.goes_on c.args.events.now) (sym c.new.ensures.same.0) c.requires.goes_on

pub answer_events-requires-clause-room : goal.answer_events-requires-clause-room
answer_events-requires-clause-room g c = let room = c.requires.room in let kept = c.new.ensures.count in omega (arith, room, kept)

pub answer_events-requires-clause-given : goal.answer_events-requires-clause-given
answer_events-requires-clause-given g c = λ earlier bytes.
    in_words (λ s qs. g.E.Events.gives c.args.events.now s qs earlier (Some bytes) bytes earlier) _ _ _ _ (sym c.new.ensures.same.0) (sym c.new.ensures.same.1) (c.requires.given earlier bytes)

pub answer_events-requires-clause-begins : goal.answer_events-requires-clause-begins
answer_events-requires-clause-begins g c = λ earlier bytes.
    in_words (λ s qs. Begins (g.E.Events.takes c.args.events.now s qs earlier) bytes earlier) _ _ _ _ (sym c.new.ensures.same.0) (sym c.new.ensures.same.1) (c.requires.begins earlier bytes)

pub answer_events-requires-clause-bases : goal.answer_events-requires-clause-bases
answer_events-requires-clause-bases g c = c.in-Ok.ensures.bases ∙ ap length (sym c.new.ensures.same.1)

pub returns-clause-ended : goal.returns-clause-ended
returns-clause-ended g c = λ peaks earlier begun f paid.
    let did = c.in-Ok.ensures in
    let plan = c.in-Ok.schedule in
    let has_begun = begins plan c.args.options.compact_every _ peaks earlier c.new.new.engine did.timing (did.follows peaks earlier f) (did.first earlier f.stands) (did.on_time earlier f.stands f.dense) in
    let t : Timing = record { every = c.args.options.compact_every; first = length earlier } in
    let is : plan.timing ≡ t = timing_is plan.timing c.args.options.compact_every _ (length earlier) did.timing (did.first earlier f.stands) in
    let now : ℕ = c.new.new.steps + saved plan c.new.new.engine in
    let so_far = bounded_as plan.timing c.args.engine.now c.new.new.engine earlier begun now did.same (
    bounded_first plan.timing c.args.engine.now earlier begun c.args.steps.now now f.stands f.dense paid (λ most meet few.
    first_as plan.timing.every c.args.options.compact_every (length c.args.engine.now.queries) (length earlier) most c.args.steps.now now (ap (λ (r : Timing). r.every) did.timing) (did.steps earlier most f.stands meet few))) in
    let ended = c.answer_events.ensures.ended peaks earlier begun c.args.options.most_bytes has_begun so_far in
    let Told : Order → Timing → Declared → List Query → Type 0 = λ o r s qs.
    RunEnded (g.E.Events.takes c.args.events.now s qs earlier) (g.E.Events.reads c.args.events.now s qs earlier) r peaks earlier (record { order = o; schema = s; queries = qs; most_bytes = c.args.options.most_bytes })
    (g.Q.Source.left c.args.source.now) (g.Q.Source.left c.answer_events.new.source) (g.K.Sink.taken c.args.out.now) (g.K.Sink.taken c.answer_events.new.out) c.answer_events.new.engine begun c.answer_events.new.steps c.answer_events.result in
    in_words (Told c.args.options.order t) c.new.new.engine.schema c.args.engine.now.schema c.new.new.engine.queries c.args.engine.now.queries did.same.0 did.same.1 (
    subst (λ (r : Timing). Told c.args.options.order r c.new.new.engine.schema c.new.new.engine.queries) is (
    subst (λ (o : Order). Told o plan.timing c.new.new.engine.schema c.new.new.engine.queries) (ap (λ o. o.order) c.new-output.ensures) ended))
