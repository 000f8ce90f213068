-- The query states as they are kept, and what they are after so many events.
use Rattle.std.proofs.Common.{◌≡◌, ℕ, ◌-◌, ◌<◌, ◌≤◌, ℤ, List, [], ◌∷◌, map, drop, length, refl, sym, ap, ap₂, subst, ◌∙◌, All, Option, None, slice_get, slice_index_or, arith}
use Rattle.std.specs.Prelude.{max}
use Rattle.std.proofs.lemmas.Option.{slice_get-get_or}
use Rattle.std.proofs.lemmas.List.Elements.{All-nil, All-cons, All-head, All-tail}
use Rattle.stream_schema.specs.Types.{Declared}
use Rattle.stream_schema.specs.declared.Event.{Event}
use Rattle.cel_terms.specs.declared.Query.{Query}
use Rattle.cel_terms.specs.Checked.{IsChecked}
use Rattle.all_or_none.specs.Phases.{Phase, IsIdle, HasNoAnswer, StandsAt}
use Rattle.all_or_none.specs.Dormancy.{phase_at}
use Rattle.query_state.specs.QueryStates.{woken, HasEvents}
use Rattle.query_state.proofs.Fresh.{fresh_seen}
use Rattle.query_engine.specs.Engine.{EngineState, IsNumber}
use Rattle.query_engine.specs.Times.{with_clock, with_clocks, query_states_at, IsAfter, AreClocksOf}
use Rattle.query_engine.specs.Running.{IsRunning, IsKeeping, IsFirst, raised}
use Rattle.query_engine.proofs.Standing.{state, length_map, map_at, all_at, all_by}
use Rattle.query_engine.proofs.Clocked.{clocked_length, clocked_at, clocked_there, clocked_map, clocked_schemas, unclocked_schemas, clocked_idle, unclocked_idle, clocked_quiet, unclocked_quiet, clocked_stands}
use Rattle.query_engine.proofs.Asking.{number_inside, query_state_there}

-- a fact of the schema or of what is ready does not change
pub seen_schemas : (schema : Declared) (f : Phase → Phase) (query_states : List Phase) → ((p : Phase) → (f p).schema ≡ p.schema) → All (λ (p : Phase). p.schema ≡ schema) query_states → All (λ (p : Phase). p.schema ≡ schema) (map f query_states)
seen_schemas schema f [] same h = All-nil (λ (p : Phase). p.schema ≡ schema)
seen_schemas schema f (p ∷ query_states) same h = All-cons (λ (x : Phase). x.schema ≡ schema) (f p) (map f query_states) (same p ∙ All-head (λ (x : Phase). x.schema ≡ schema) p query_states h) (seen_schemas schema f query_states same (All-tail (λ (x : Phase). x.schema ≡ schema) p query_states h))

pub seen_idle : (f : Phase → Phase) (query_states : List Phase) → ((p : Phase) → (f p).ready ≡ p.ready) → All IsIdle query_states → All IsIdle (map f query_states)
seen_idle f [] same h = All-nil IsIdle
seen_idle f (p ∷ query_states) same h = All-cons IsIdle (f p) (map f query_states) (same p ∙ All-head IsIdle p query_states h) (seen_idle f query_states same (All-tail IsIdle p query_states h))

pub seen_length : (count : ℕ) (query_states : List Phase) (clocks : List (Option ℤ)) → length (query_states_at count query_states clocks) ≡ length query_states
seen_length count query_states clocks = clocked_length (map (phase_at count) query_states) clocks ∙ length_map (phase_at count) query_states

-- what the query states are after so many events runs
pub running : (schema : Declared) (count : ℕ) (clocks : List (Option ℤ)) (query_states : List Phase) (peaks : List ℕ) → IsKeeping schema count clocks query_states peaks → IsRunning schema count (query_states_at count query_states clocks) peaks
running schema count clocks query_states peaks k = record {
  schemas = clocked_schemas schema (map (phase_at count) query_states) clocks (seen_schemas schema (phase_at count) query_states (λ p. refl) k.schemas);
  idle = clocked_idle (map (phase_at count) query_states) clocks (seen_idle (phase_at count) query_states (λ p. refl) k.idle);
  run = k.run;
  quiet = clocked_quiet count (map (phase_at count) query_states) clocks k.quiet;
  peaks_are = k.peaks_are ∙ sym (seen_length count query_states clocks);
}

back_schemas : (schema : Declared) (count : ℕ) (query_states : List Phase) → All (λ (p : Phase). p.schema ≡ schema) (map (phase_at count) query_states) → All (λ (p : Phase). p.schema ≡ schema) query_states
back_schemas schema count [] h = All-nil (λ (p : Phase). p.schema ≡ schema)
back_schemas schema count (p ∷ query_states) h = All-cons (λ (x : Phase). x.schema ≡ schema) p query_states (All-head (λ (x : Phase). x.schema ≡ schema) (phase_at count p) (map (phase_at count) query_states) h) (back_schemas schema count query_states (All-tail (λ (x : Phase). x.schema ≡ schema) (phase_at count p) (map (phase_at count) query_states) h))

back_idle : (count : ℕ) (query_states : List Phase) → All IsIdle (map (phase_at count) query_states) → All IsIdle query_states
back_idle count [] h = All-nil IsIdle
back_idle count (p ∷ query_states) h = All-cons IsIdle p query_states (All-head IsIdle (phase_at count p) (map (phase_at count) query_states) h) (back_idle count query_states (All-tail IsIdle (phase_at count p) (map (phase_at count) query_states) h))

pub keeping : (schema : Declared) (count : ℕ) (clocks : List (Option ℤ)) (query_states : List Phase) (peaks : List ℕ) → IsRunning schema count (query_states_at count query_states clocks) peaks → IsKeeping schema count clocks query_states peaks
keeping schema count clocks query_states peaks r = record {
  schemas = back_schemas schema count query_states (unclocked_schemas schema (map (phase_at count) query_states) clocks r.schemas);
  idle = back_idle count query_states (unclocked_idle (map (phase_at count) query_states) clocks r.idle);
  run = r.run;
  quiet = unclocked_quiet count (map (phase_at count) query_states) clocks r.quiet;
  peaks_are = r.peaks_are ∙ seen_length count query_states clocks;
}

pub seen_queries : (count : ℕ) (query_states : List Phase) → map (λ (p : Phase). p.query) (map (phase_at count) query_states) ≡ map (λ (p : Phase). p.query) query_states
seen_queries count [] = refl
seen_queries count (p ∷ query_states) = ap (λ qs. p.query ∷ qs) (seen_queries count query_states)

-- the queries are those of the query states
pub query_states_queries : (count : ℕ) (query_states : List Phase) (clocks : List (Option ℤ)) → map (λ (p : Phase). p.query) (query_states_at count query_states clocks) ≡ map (λ (p : Phase). p.query) query_states
query_states_queries count query_states clocks = clocked_map (λ (p : Phase). p.query) (map (phase_at count) query_states) clocks (λ c p. refl) ∙ seen_queries count query_states

pub fresh_quiet : (count : ℕ) (query_states : List Phase) → All (λ (p : Phase). p.upto ≡ count) query_states → All (HasNoAnswer count) query_states
fresh_quiet count [] h = All-nil (HasNoAnswer count)
fresh_quiet count (p ∷ query_states) h = All-cons (HasNoAnswer count) p query_states (λ stale. absurd (stale (All-head (λ (x : Phase). x.upto ≡ count) p query_states h))) (fresh_quiet count query_states (All-tail (λ (x : Phase). x.upto ≡ count) p query_states h))

pub woken_upto : (count : ℕ) (query_states : List Phase) → All (λ (p : Phase). p.upto ≡ count) (map (woken count) query_states)
woken_upto count [] = All-nil (λ (p : Phase). p.upto ≡ count)
woken_upto count (p ∷ query_states) = All-cons (λ (x : Phase). x.upto ≡ count) (woken count p) (map (woken count) query_states) refl (woken_upto count query_states)

-- settled query states, with their clocks
abbrev pub woken_at : ℕ → List Phase → List (Option ℤ) → List Phase
woken_at count query_states clocks = with_clocks (map (woken count) query_states) clocks

-- are what they were after so many events
woken_stands : (count : ℕ) (query_states : List Phase) (clocks : List (Option ℤ)) (events : List Event) → All (IsAfter events) (query_states_at count query_states clocks) → All (IsAfter events) (woken_at count query_states clocks)
woken_stands count [] clocks events h = All-nil (IsAfter events)
woken_stands count (p ∷ query_states) clocks events h =
    All-cons (IsAfter events) (with_clock (slice_index_or clocks 0 None) (woken count p)) (woken_at count query_states (drop 1 clocks)) (All-head (IsAfter events) (with_clock (slice_index_or clocks 0 None) (phase_at count p)) (query_states_at count query_states (drop 1 clocks)) h) (woken_stands count query_states (drop 1 clocks) events (All-tail (IsAfter events) (with_clock (slice_index_or clocks 0 None) (phase_at count p)) (query_states_at count query_states (drop 1 clocks)) h))

pub woken_running : (schema : Declared) (count : ℕ) (clocks : List (Option ℤ)) (query_states : List Phase) (peaks : List ℕ) → IsKeeping schema count clocks query_states peaks → IsRunning schema count (woken_at count query_states clocks) peaks
woken_running schema count clocks query_states peaks k = record {
  schemas = clocked_schemas schema (map (woken count) query_states) clocks (seen_schemas schema (woken count) query_states (λ p. refl) k.schemas);
  idle = clocked_idle (map (woken count) query_states) clocks (seen_idle (woken count) query_states (λ p. refl) k.idle);
  run = record { events = k.run.events; length_is = k.run.length_is; stands = woken_stands count query_states clocks k.run.events k.run.stands };
  quiet = clocked_quiet count (map (woken count) query_states) clocks (fresh_quiet count (map (woken count) query_states) (woken_upto count query_states));
  peaks_are = k.peaks_are ∙ sym (clocked_length (map (woken count) query_states) clocks ∙ length_map (woken count) query_states);
}

pub woken_length : (count : ℕ) (query_states : List Phase) (clocks : List (Option ℤ)) → length (woken_at count query_states clocks) ≡ length query_states
woken_length count query_states clocks = clocked_length (map (woken count) query_states) clocks ∙ length_map (woken count) query_states

woken_query : (count : ℕ) (query_states : List Phase) (clocks : List (Option ℤ)) → map (λ (p : Phase). p.query) (woken_at count query_states clocks) ≡ map (λ (p : Phase). p.query) (query_states_at count query_states clocks)
woken_query count [] clocks = refl
woken_query count (p ∷ query_states) clocks = ap (λ qs. p.query ∷ qs) (woken_query count query_states (drop 1 clocks))

woken_kept : (count : ℕ) (query_states : List Phase) (clocks : List (Option ℤ)) → map (λ (p : Phase). p.kept) (woken_at count query_states clocks) ≡ map (λ (p : Phase). p.kept) (query_states_at count query_states clocks)
woken_kept count [] clocks = refl
woken_kept count (p ∷ query_states) clocks = ap (λ ks. (with_clock (slice_index_or clocks 0 None) (phase_at count p)).kept ∷ ks) (woken_kept count query_states (drop 1 clocks))

pub woken_queries : (count : ℕ) (query_states : List Phase) (clocks : List (Option ℤ)) → map (λ (p : Phase). p.query) (woken_at count query_states clocks) ≡ map (λ (p : Phase). p.query) query_states
woken_queries count query_states clocks = woken_query count query_states clocks ∙ query_states_queries count query_states clocks

-- so the engine is the same
pub woken_state : (schema : Declared) (count : ℕ) (clocks : List (Option ℤ)) (query_states : List Phase) (peaks : List ℕ) → state schema count (woken_at count query_states clocks) peaks ≡ state schema count (query_states_at count query_states clocks) peaks
woken_state schema count clocks query_states peaks = (λ i. record { schema = schema; queries = woken_query count query_states clocks i; count = count; query_states = woken_kept count query_states clocks i; peaks = peaks })

-- query states for which the last event was not a no-op are what they are kept as
pub fresh_all : (count : ℕ) (query_states : List Phase) → All (λ (p : Phase). p.upto ≡ count) query_states → map (phase_at count) query_states ≡ query_states
fresh_all count [] h = refl
fresh_all count (p ∷ query_states) h = ap₂ (λ a b. a ∷ b) (fresh_seen count p (All-head (λ (x : Phase). x.upto ≡ count) p query_states h)) (fresh_all count query_states (All-tail (λ (x : Phase). x.upto ≡ count) p query_states h))

-- the peaks are raised by how many nodes there are, which are the same
pub raised_seen : (count : ℕ) (peaks : List ℕ) (query_states : List Phase) (clocks : List (Option ℤ)) → raised peaks query_states ≡ raised peaks (woken_at count query_states clocks)
raised_seen count [] query_states clocks = refl
raised_seen count (x ∷ xs) [] clocks = refl
raised_seen count (x ∷ xs) (p ∷ query_states) clocks = ap (λ zs. max x (length p.kept.nodes) ∷ zs) (raised_seen count xs query_states (drop 1 clocks))

-- the query state as it is after so many events, with its clock
abbrev pub query_state_at : ℕ → List (Option ℤ) → ℕ → Phase → Phase
query_state_at count clocks k p = with_clock (slice_index_or clocks k None) (phase_at count p)

pub seen_here : (count : ℕ) (query_states : List Phase) (k : ℕ) (p : Phase) → k < length query_states → p ≡ slice_index_or query_states k p → phase_at count p ≡ slice_index_or (map (phase_at count) query_states) k (phase_at count p)
seen_here count query_states k p inside here =
    let at = map_at (phase_at count) query_states k p (query_state_there query_states k p inside here) in
    let e = slice_get-get_or (map (phase_at count) query_states) k (phase_at count p) (let l = length_map (phase_at count) query_states in omega arith) in
    (let both = sym at ∙ e in cc)

pub seen_there : (count : ℕ) (clocks : List (Option ℤ)) (query_states : List Phase) (k : ℕ) (p : Phase) → k < length query_states → p ≡ slice_index_or query_states k p → query_state_at count clocks k p ≡ slice_index_or (query_states_at count query_states clocks) k (query_state_at count clocks k p)
seen_there count clocks query_states k p inside here =
    clocked_there (map (phase_at count) query_states) clocks k (phase_at count p) (let l = length_map (phase_at count) query_states in omega arith) (seen_here count query_states k p inside here)

pub number_within : (schema : Declared) (count : ℕ) (clocks : List (Option ℤ)) (query_states : List Phase) (peaks : List ℕ) (s : EngineState) (query : ℕ) → state schema count (query_states_at count query_states clocks) peaks ≡ s → IsNumber s query → query - 1 < length query_states
number_within schema count clocks query_states peaks s query is number =
    let inside = number_inside schema count (query_states_at count query_states clocks) peaks s query is number in
    let l = seen_length count query_states clocks in
    omega arith

-- a query state of an engine stands for some events, with its clock, and has no answer
pub query_state_stands : (schema : Declared) (count : ℕ) (clocks : List (Option ℤ)) (query_states : List Phase) (peaks : List ℕ) (k : ℕ) (p : Phase) (keeps : IsKeeping schema count clocks query_states peaks) → k < length query_states → p ≡ slice_index_or query_states k p → IsAfter keeps.run.events (query_state_at count clocks k p)
query_state_stands schema count clocks query_states peaks k p keeps inside here =
    all_at (IsAfter keeps.run.events) (query_states_at count query_states clocks) k (query_state_at count clocks k p) keeps.run.stands (clocked_at (map (phase_at count) query_states) clocks k (phase_at count p) (map_at (phase_at count) query_states k p (query_state_there query_states k p inside here)))

pub query_state_events : (schema : Declared) (count : ℕ) (clocks : List (Option ℤ)) (query_states : List Phase) (peaks : List ℕ) (k : ℕ) (p : Phase) → IsKeeping schema count clocks query_states peaks → k < length query_states → p ≡ slice_index_or query_states k p → HasEvents (phase_at count p)
query_state_events schema count clocks query_states peaks k p keeps inside here = record {
  events = keeps.run.events;
  stands = (slice_index_or clocks k None, query_state_stands schema count clocks query_states peaks k p keeps inside here);
}

pub query_state_idle : (schema : Declared) (count : ℕ) (clocks : List (Option ℤ)) (query_states : List Phase) (peaks : List ℕ) (k : ℕ) (p : Phase) → IsKeeping schema count clocks query_states peaks → k < length query_states → p ≡ slice_index_or query_states k p → IsIdle p
query_state_idle schema count clocks query_states peaks k p keeps inside here = all_at IsIdle query_states k p keeps.idle (query_state_there query_states k p inside here)

pub query_state_quiet : (schema : Declared) (count : ℕ) (clocks : List (Option ℤ)) (query_states : List Phase) (peaks : List ℕ) (k : ℕ) (p : Phase) → IsKeeping schema count clocks query_states peaks → k < length query_states → p ≡ slice_index_or query_states k p → HasNoAnswer count (phase_at count p)
query_state_quiet schema count clocks query_states peaks k p keeps inside here = all_at (HasNoAnswer count) (map (phase_at count) query_states) k (phase_at count p) keeps.quiet (map_at (phase_at count) query_states k p (query_state_there query_states k p inside here))

first_seen : (schema : Declared) (query_states : List Phase) → All (IsFirst schema) query_states → All (StandsAt []) (map (phase_at 0) query_states)
first_seen schema [] h = All-nil (StandsAt [])
first_seen schema (p ∷ query_states) h =
    let one = All-head (IsFirst schema) p query_states h in
    All-cons (StandsAt []) (phase_at 0 p) (map (phase_at 0) query_states) (subst (StandsAt []) (sym (fresh_seen 0 p one.upto)) one.stands) (first_seen schema query_states (All-tail (IsFirst schema) p query_states h))

pub first_schemas : (schema : Declared) (query_states : List Phase) → All (IsFirst schema) query_states → All (λ (p : Phase). p.schema ≡ schema) query_states
first_schemas schema [] h = All-nil (λ (p : Phase). p.schema ≡ schema)
first_schemas schema (p ∷ query_states) h = All-cons (λ (x : Phase). x.schema ≡ schema) p query_states (All-head (IsFirst schema) p query_states h).schema_is (first_schemas schema query_states (All-tail (IsFirst schema) p query_states h))

-- their queries are checked
pub first_checked : (schema : Declared) (queries : List Query) (query_states : List Phase) → map (λ (p : Phase). p.query) query_states ≡ queries → All (IsChecked schema) queries → All (λ (p : Phase). IsChecked schema p.query) query_states
first_checked schema queries query_states is checked =
    all_by (λ (p : Phase). IsChecked schema p.query) query_states (λ k p at. all_at (IsChecked schema) queries k p.query checked (ap (λ qs. slice_get qs k) (sym is) ∙ map_at (λ (x : Phase). x.query) query_states k p at))

-- before any event they stand with the clocks of no event
pub first_after : (schema : Declared) (query_states : List Phase) (clocks : List (Option ℤ)) → All (IsFirst schema) query_states → AreClocksOf schema (map (λ (p : Phase). p.query) query_states) [] clocks → All (IsAfter []) (query_states_at 0 query_states clocks)
first_after schema query_states clocks first are =
    clocked_stands schema [] (map (phase_at 0) query_states) clocks (seen_schemas schema (phase_at 0) query_states (λ p. refl) (first_schemas schema query_states first)) (subst (λ (qs : List Query). AreClocksOf schema qs [] clocks) (sym (seen_queries 0 query_states)) are) (first_seen schema query_states first)

pub first_quiet : (schema : Declared) (query_states : List Phase) → All (IsFirst schema) query_states → All (HasNoAnswer 0) (map (phase_at 0) query_states)
first_quiet schema [] h = All-nil (HasNoAnswer 0)
first_quiet schema (p ∷ query_states) h = All-cons (HasNoAnswer 0) (phase_at 0 p) (map (phase_at 0) query_states) (λ stale. absurd (stale (All-head (IsFirst schema) p query_states h).upto)) (first_quiet schema query_states (All-tail (IsFirst schema) p query_states h))

-- where no query state has changed, neither has what they run
pub kept_back : (schema : Declared) (count : ℕ) (clocks : List (Option ℤ)) (old mut found raw : List Phase) (ps : List ℕ) → IsKeeping schema count clocks old ps → mut ≡ old → raw ≡ found → map (phase_at count) found ≡ map (phase_at count) mut → IsKeeping schema count clocks raw ps
kept_back schema count clocks old mut found raw ps keeps mut_is raw_is same =
    keeping schema count clocks raw ps (subst (λ zs. IsRunning schema count (with_clocks zs clocks) ps) (sym (ap (map (phase_at count)) raw_is ∙ (same ∙ ap (map (phase_at count)) mut_is))) (running schema count clocks old ps keeps))

pub state_back : (schema : Declared) (count : ℕ) (clocks : List (Option ℤ)) (old mut found raw : List Phase) (ps : List ℕ) (s : EngineState) → state schema count (query_states_at count old clocks) ps ≡ s → mut ≡ old → raw ≡ found → map (phase_at count) found ≡ map (phase_at count) mut → state schema count (query_states_at count raw clocks) ps ≡ s
state_back schema count clocks old mut found raw ps s is mut_is raw_is same =
    ap (λ zs. state schema count (with_clocks zs clocks) ps) (ap (map (phase_at count)) raw_is ∙ (same ∙ ap (map (phase_at count)) mut_is)) ∙ is

pub woken_small : (count : ℕ) (query_states : List Phase) (room : ℕ) → All (λ (p : Phase). length p.kept.nodes ≤ room) query_states → All (λ (p : Phase). length p.kept.nodes ≤ room) (map (woken count) query_states)
woken_small count [] room h = All-nil (λ (p : Phase). length p.kept.nodes ≤ room)
woken_small count (p ∷ query_states) room h = All-cons (λ (x : Phase). length x.kept.nodes ≤ room) (woken count p) (map (woken count) query_states) (All-head (λ (x : Phase). length x.kept.nodes ≤ room) p query_states h) (woken_small count query_states room (All-tail (λ (x : Phase). length x.kept.nodes ≤ room) p query_states h))
