-- What follows where the nodes are dense: how many there are, and how many there were at most. For callers of the crate too.
use Rattle.std.proofs.Common.{◌≡◌, ℕ, zero, suc, ◌+◌, ◌-◌, ◌*◌, ◌<◌, ◌≤◌, ◌⊎◌, inl, inr, List, [], ◌∷◌, ◌++◌, length, refl, sym, subst, ◌∙◌, Contains, Option, Some, None, slice_get, arith}
use Rattle.std.specs.Prelude.{max}
use Rattle.std.specs.Option.{option_map_or}
use Rattle.std.proofs.Math.Nat.{mul-le-mul_left, mul-le-mul_right}
use Rattle.std.proofs.lemmas.Bool.{cases_lt}
use Rattle.std.proofs.lemmas.List.Elements.{All-weaker, All-contains}
use Rattle.stream_schema.specs.Types.{Declared}
use Rattle.stream_schema.specs.declared.Event.{Event}
use Rattle.cel_terms.specs.declared.Query.{Query}
use Rattle.arena_compact.specs.Moves.{later}
use Rattle.query_standing.specs.Bounds.{update_bound}
use Rattle.query_standing.specs.Clocks.{HasClockAt}
use Rattle.query_standing.specs.Kept.{QueryState}
use Rattle.query_engine.specs.Counts.{MeetMost, HasFewNodes}
use Rattle.query_engine.specs.Engine.{EngineState, StandsFor, SameQueries, found_of, len_of, peak_of}
use Rattle.query_engine.specs.Peaks.{PeaksFollow}
use Rattle.query_engine.specs.Skipping.{KeepsAll}
use Rattle.query_engine.specs.Windows.{later_of, IsBoundedBy, IsReadFrom, IsDense, IsRecentAt, FollowsWindowSince, HasAdded}
use Rattle.query_engine.proofs.Counting.{bound_grows, found_are_met}
use Rattle.query_engine.proofs.Finite.{few}
use Rattle.query_engine.proofs.Windows.{later_whole, still_clock, bounded_on, clock_inside}

-- every node has its greatest start at position 0 or later
all_later : (o : Option QueryState) → option_map_or (λ (x : QueryState). later 0 x.nodes) o 0 ≡ option_map_or (λ (x : QueryState). length x.nodes) o 0
all_later None = refl
all_later (Some query_state) = later_whole 0 query_state.nodes (λ j n at. omega arith)

pub later_all : (engine : EngineState) (query : ℕ) → later_of engine query 0 ≡ len_of engine query
unfolding later_of len_of
later_all engine query = all_later (slice_get engine.query_states (query - 1))

pub dense_nodes : (engine : EngineState) (events : List Event) → IsDense engine events → (k : ℕ) (q : Query) → slice_get engine.queries k ≡ Some q → IsBoundedBy (IsReadFrom engine.schema q events 0) engine (k + 1) (len_of engine (k + 1))
dense_nodes engine events dense k q at = subst (IsBoundedBy (IsReadFrom engine.schema q events 0) engine (k + 1)) (later_all engine (k + 1)) (dense k q 0 at)

-- so they follow the windows where no compaction was made
pub dense_follows : (engine : EngineState) (events : List Event) → IsDense engine events → FollowsWindowSince 0 engine events
dense_follows engine events dense k q at =
    let h = dense_nodes engine events dense k q at in
    record {
      positions = h.positions;
      distinct = h.distinct;
      each = All-weaker (IsReadFrom engine.schema q events 0) (IsRecentAt engine.schema q events 0) (λ x r. record { clock = r.clock; has = r.has; recent = inl (omega arith) }) h.positions h.each;
      bounded = h.bounded;
    }

-- FEW NODES

-- the numbers below one
abbrev below : ℕ → List ℕ
below zero = []
below (suc n) = n ∷ below n

below_has : (n x : ℕ) → x < n → Contains (below n) x
below_has zero x less = absurd (omega arith)
below_has (suc n) x less = elim (cases_lt x n) [
  | inl inside ↦ (let h = below_has n x inside in (suc h.0, (let w = h.1 in omega arith), h.2))
  | inr least ↦ (let same : n ≡ x = omega (arith, less, least) in (0, omega arith, same))
]

below_long : (n : ℕ) → length (below n) ≡ n
below_long zero = refl
below_long (suc n) = let l = below_long n in omega arith

pub dense_has_few : (engine : EngineState) (events : List Event) (most : ℕ → ℕ) → StandsFor engine events → IsDense engine events → MeetMost engine.schema engine.queries events most → HasFewNodes engine (length events) most
dense_has_few engine events most stands dense meet k q at =
    let h = dense_nodes engine events dense k q at in
    let inside : (x : ℕ) → Contains h.positions x → Contains (below (length events)) x =
    λ x has. (let r = All-contains (IsReadFrom engine.schema q events 0) h.positions x h.each has in below_has (length events) x (clock_inside engine.schema q events x r.clock r.has)) in
    let long = below_long (length events) in
    let less = few h.positions (below (length events)) h.distinct inside in
    let positions : length h.positions ≤ length events = omega (arith, less, long) in
    let bound = bound_grows (found_of engine (k + 1)) (most (k + 1)) (found_are_met engine events k q (most (k + 1)) stands at (meet k q at)) in
    let one = mul-le-mul_left (length h.positions) bound in
    let two : length h.positions * update_bound (most (k + 1)) ≤ length events * update_bound (most (k + 1)) = mul-le-mul_right (update_bound (most (k + 1))) positions in
    let b = h.bounded in
    omega (arith, b, one, two)

-- PEAKS

-- at first they are those that there were
pub peaks_at_first : (before : ℕ → ℕ) (engine : EngineState) (events : List Event) → ((query : ℕ) → peak_of engine query ≤ before query) → PeaksFollow before engine events
peaks_at_first before engine events same k q at = inl (same (k + 1))

most_is : (n m : ℕ) → n < m → max n m ≡ m
most_is n m less = omega arith

most_stays : (n m : ℕ) → m ≤ n → max n m ≡ n
most_stays n m le = omega arith

module _ (before : ℕ → ℕ) (old new : EngineState) (events more : List Event) (same : SameQueries old new) where
  was_asked : (k : ℕ) (q : Query) → slice_get new.queries k ≡ Some q → slice_get old.queries k ≡ Some q
  was_asked k q at = subst (λ (qs : List Query). slice_get qs k ≡ Some q) same.1 at

  -- a peak that there was is one still
  peak_stays : (k : ℕ) (q : Query) → found_of old (k + 1) ≤ found_of new (k + 1) → peak_of new (k + 1) ≤ peak_of old (k + 1) →
      (peak_of old (k + 1) ≤ before (k + 1)) ⊎ IsBoundedBy (IsReadFrom old.schema q events 0) old (k + 1) (peak_of old (k + 1)) →
      (peak_of new (k + 1) ≤ before (k + 1)) ⊎ IsBoundedBy (IsReadFrom new.schema q (events ++ more) 0) new (k + 1) (peak_of new (k + 1))
  peak_stays k q found less (inl was) = inl (omega (arith, less, was))
  peak_stays k q found less (inr had) = inr (
      bounded_on (IsReadFrom old.schema q events 0) (IsReadFrom new.schema q (events ++ more) 0) old new (k + 1) (peak_of old (k + 1)) (peak_of new (k + 1)) (length events)
      (λ x r. record { clock = r.clock; has = subst (λ (s : Declared). HasClockAt s q (events ++ more) x r.clock) (sym same.0) (still_clock old.schema q events more x r.clock r.has); from = r.from })
      (λ x r. clock_inside old.schema q events x r.clock r.has) found (inl less) had)

  -- where positions are skipped
  pub peaks_skip : KeepsAll old new → PeaksFollow before old events → PeaksFollow before new (events ++ more)
  peaks_skip kept peaks k q at =
      let found = kept.found (k + 1) in
      let peak = kept.peak (k + 1) in
      peak_stays k q (omega arith) (omega arith) (peaks k q (was_asked k q at))

  -- where events are taken
  pub peaks_on : (event : Event) → HasAdded old new event → IsDense new (events ++ more) → PeaksFollow before old events → PeaksFollow before new (events ++ more)
  peaks_on event added dense peaks k q at =
      let peak = added.peak (k + 1) in
      elim (cases_lt (peak_of old (k + 1)) (len_of new (k + 1))) [
        | inl less ↦ inr (subst (IsBoundedBy (IsReadFrom new.schema q (events ++ more) 0) new (k + 1)) (sym (peak ∙ most_is (peak_of old (k + 1)) (len_of new (k + 1)) less)) (dense_nodes new (events ++ more) dense k q at))
        | inr least ↦
            let stays = peak ∙ most_stays (peak_of old (k + 1)) (len_of new (k + 1)) least in
            peak_stays k q (added.found (k + 1)) (omega arith) (peaks k q (was_asked k q at))
      ]
