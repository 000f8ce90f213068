-- Queries that are compacted as they grow: what is put by for that, and how much is kept of each.
use Rattle.std.proofs.Common.{◌≡◌, ℕ, zero, suc, ◌+◌, ◌-◌, ◌*◌, ◌<◌, ◌≤◌, ◌⊎◌, inl, inr, List, [], ◌∷◌, ◌++◌, length, Option, Some, None, sym, ap, subst, ◌∙◌, arith, length-append}
use Rattle.std.proofs.Math.Nat.{mul-le-mul_right}
use Rattle.stream_schema.specs.declared.Event.{Event}
use Rattle.cel_terms.specs.declared.Query.{Query}
use Rattle.query_engine.specs.declared.sizes.Size.{Size}
use Rattle.query_engine.specs.Bounds.{update_bound, for_each_query}
use Rattle.query_engine.specs.Counts.{MeetMost, event_bound, compaction_bound}
use Rattle.query_engine.specs.Engine.{EngineState, Open, StandsFor, SameQueries, found_of}
use Rattle.query_engine.specs.Keys.{HasAddedKeys}
use Rattle.query_engine.specs.Sizes.{steady_bound, AreTended, AreKeptSmall, IsCompactedNow, IsLeftAlone}
use Rattle.query_engine.specs.Windows.{HasAdded}
use Rattle.query_engine.proofs.Counting.{each_at_most, each_of_both}
use Rattle.query_engine.proofs.SmallSizes.{event_puts_by, event_keeps_small, tending_keeps_small}
use Rattle.stream_answers.specs.declared.schedule.TheConstants.{LEAST_SIZE}
use Rattle.stream_answers.specs.Schedules.{Plan, WithNoNumber, pace, saved_by, first_compaction, events_before_look, events_between, IsGoingOn, IsOnTime, KeepsUp}

-- WHERE NO NUMBER IS GIVEN

pub with_none : (every : Option ℕ) (P Q : Type 0) → (P → Q) → WithNoNumber every P → WithNoNumber every Q
with_none None P Q follows p = follows p
with_none (Some n) P Q follows p = tt

pub given_both : (every : Option ℕ) (P Q : Type 0) → WithNoNumber every (P → Q) → WithNoNumber every P → WithNoNumber every Q
given_both None P Q follows p = follows p
given_both (Some n) P Q follows p = tt

pub in_any_case : (every : Option ℕ) (P : Type 0) → P → WithNoNumber every P
in_any_case None P p = p
in_any_case (Some n) P p = tt

-- THE STEPS

-- what an event takes without what it puts by
pub pace_least : (every : Option ℕ) (queries : ℕ) (most : ℕ → ℕ) → event_bound queries most ≤ pace every queries most
pace_least None queries most = each_at_most queries (λ k. 2 * update_bound (most k) + 1) (λ k. 29 * update_bound (most k) + 1) (λ j less. omega arith)
pace_least (Some n) queries most = omega arith

-- an event that was taken, with what is put by after it
pub event_pays : (every : Option ℕ) (old new : EngineState) (events : List Event) (event : Event) (bases : List Size) (most : ℕ → ℕ) →
    SameQueries old new → StandsFor new (events ++ event ∷ []) → HasAdded old new event → HasAddedKeys old new event → MeetMost new.schema new.queries (events ++ event ∷ []) most →
    event_bound (length new.queries) most + saved_by every new bases ≤ saved_by every old bases + pace every (length new.queries) most
event_pays None old new events event bases most same stands added keys meet = event_puts_by old new events event bases most same stands added keys meet
event_pays (Some n) old new events event bases most same stands added keys meet = omega arith

-- the first compaction, after events that put nothing by
none_of_each : (n : ℕ) (f : ℕ → ℕ) → ((k : ℕ) → f k ≡ 0) → for_each_query n f ≡ 0
none_of_each n f none = let twice = each_of_both n f f f (λ j. let z = none j in omega arith) in omega arith

compacted_by_events : (queries events : ℕ) (most : ℕ → ℕ) → compaction_bound queries most events + events * event_bound queries most ≤ events * steady_bound queries most
compacted_by_events queries zero most =
    let none = none_of_each queries (λ k. 9 * update_bound (most k) * 0) (λ k. omega arith) in
    omega arith
compacted_by_events queries (suc n) most =
    let before = compacted_by_events queries n most in
    let one = each_of_both queries (λ k. 9 * update_bound (most k) * n) (λ k. 9 * update_bound (most k)) (λ k. 9 * update_bound (most k) * suc n) (λ j. omega arith) in
    let taken = each_of_both queries (λ k. 2 * update_bound (most k) + 1) (λ k. 9 * update_bound (most k)) (λ k. 11 * update_bound (most k) + 1) (λ j. omega arith) in
    let within = each_at_most queries (λ k. 11 * update_bound (most k) + 1) (λ k. 29 * update_bound (most k) + 1) (λ j less. omega arith) in
    let e = event_bound queries most in
    let s = steady_bound queries most in
    let lefts : suc n * e ≡ n * e + e = omega arith in
    let rights : suc n * s ≡ n * s + s = omega arith in
    omega (arith, before, one, taken, within, lefts, rights)

pub paced_first : (every : Option ℕ) (queries events : ℕ) (most : ℕ → ℕ) → first_compaction every queries most events + events * event_bound queries most ≤ events * pace every queries most
paced_first None queries events most = compacted_by_events queries events most
paced_first (Some n) queries events most = omega arith

-- THE SIZES

-- an event was taken
pub goes_on : (plan : Plan) (old new : EngineState) (events : List Event) (event : Event) → SameQueries old new → HasAdded old new event → HasAddedKeys old new event → IsOnTime plan old events → IsGoingOn plan new (events ++ event ∷ [])
goes_on plan old new events event same added keys t =
    let g = t.going_on in
    let count : length (events ++ event ∷ []) ≡ length events + 1 = length-append events (event ∷ []) in
    let behind = g.looked in
    record {
      count = g.count ∙ ap length (sym same.1);
      looked = omega arith;
      next = subst (λ (qs : List Query). plan.next ≤ plan.looked + events_before_look (length qs)) (sym same.1) g.next;
      small = event_keeps_small old new plan.bases events event LEAST_SIZE plan.looked behind same added keys g.small;
    }

-- what is left alone under a lower limit may be so under a higher one
still_small : (size least more twice : ℕ) → least ≤ more → (size < least) ⊎ (size < twice) → (size < more) ⊎ (size < twice)
still_small size least more twice within (inl less) = inl (omega arith)
still_small size least more twice within (inr less) = inr less

still_alone : (least more : ℕ) (old new : EngineState) (events : List Event) (held : List Open) (before after : List Size) (k : ℕ) (q : Query) → least ≤ more → IsCompactedNow new events held after k q ⊎ IsLeftAlone least old new before after k →
    IsCompactedNow new events held after k q ⊎ IsLeftAlone more old new before after k
still_alone least more old new events held before after k q within (inl now) = inl now
still_alone least more old new events held before after k q within (inr alone) = inr (record { noted = alone.noted; same = alone.same; small = still_small _ _ _ _ within alone.small })

pub tended_by_more : (least more : ℕ) (old new : EngineState) (events : List Event) (held : List Open) (before after : List Size) → least ≤ more → AreTended least old new events held before after → AreTended more old new events held before after
tended_by_more least more old new events held before after within tended k q there = still_alone least more old new events held before after k q within (tended k q there)

-- the queries were looked at
pub looked_at : (plan now : Plan) (old new : EngineState) (events : List Event) → SameQueries old new → ((query : ℕ) → found_of new query ≡ found_of old query) → AreTended LEAST_SIZE old new events [] plan.bases now.bases →
    length now.bases ≡ length plan.bases → now.looked ≡ length events → now.next ≤ now.looked + events_before_look (length new.queries) → now.looked ≤ now.next → IsGoingOn plan old events → IsOnTime now new events
looked_at plan now old new events same found tended count looked next until g = record {
  going_on = record {
    count = count ∙ g.count ∙ ap length (sym same.1);
    looked = omega arith;
    next = next;
    small = subst (λ (n : ℕ). AreKeptSmall LEAST_SIZE n new now.bases events) (sym looked) (tending_keeps_small old new plan.bases now.bases events LEAST_SIZE plan.looked same found tended g.small);
  };
  until = omega arith;
}

-- all queries were compacted
pub on_time_at_first : (plan : Plan) (engine : EngineState) (events : List Event) → length plan.bases ≡ length engine.queries → plan.looked ≡ length events → plan.next ≤ plan.looked + events_before_look (length engine.queries) → plan.looked ≤ plan.next →
    AreKeptSmall LEAST_SIZE (length events) engine plan.bases events → IsOnTime plan engine events
on_time_at_first plan engine events count looked next until small = record {
  going_on = record {
    count = count;
    looked = omega arith;
    next = next;
    small = subst (λ (n : ℕ). AreKeptSmall LEAST_SIZE n engine plan.bases events) (sym looked) small;
  };
  until = omega arith;
}

-- so each query is kept small
pub keeps_up : (plan : Plan) (engine : EngineState) (events : List Event) → IsOnTime plan engine events → KeepsUp engine events
keeps_up plan engine events t k q at =
    let s = t.going_on.small k q at in
    let b = update_bound (found_of engine (k + 1)) + 8 in
    let until = t.until in
    let next = t.going_on.next in
    let few : length events - plan.looked ≤ events_between engine = omega arith in
    let less : (length events - plan.looked) * b ≤ events_between engine * b = mul-le-mul_right b few in
    let size = s.size in
    record {
      first = s.first;
      among = s.among;
      needed = s.needed;
      window = s.window;
      size = omega (arith, size, less);
    }
