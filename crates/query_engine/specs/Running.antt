-- What the engine keeps between two calls.
use Rattle.std.specs.Prelude.{◌≡◌, ℕ, ◌+◌, ◌-◌, ◌<◌, ◌≤◌, ℤ, max, Bool, true, false, List, [], ◌∷◌, length, map, All, Option, Some, slice_get}
use Rattle.stream_schema.specs.Types.{Declared}
use Rattle.stream_schema.specs.declared.Event.{Event}
use Rattle.cel_terms.specs.declared.Query.{Query}
use Rattle.cel_terms.specs.Answers.{AreAnswersAt}
use Rattle.all_or_none.specs.Phases.{Phase, IsIdle, HasNoAnswer, StandsAt, MayAnswer}
pub use Rattle.all_or_none.specs.Phases.{is_among, AreRising}
use Rattle.all_or_none.specs.Dormancy.{phase_at}
use Rattle.query_engine.specs.Times.{IsAfter, query_states_at}
use Rattle.query_engine.specs.Engine.{EngineState, StandsFor, IsNumber}

-- For some events, so many, each query state is as it is, with its clock.
pub record HaveRun (count : ℕ) (query_states : List Phase) : Type 0 where
  pub events : List Event
  pub length_is : length events ≡ count
  pub stands : All (IsAfter events) query_states

-- The query states, with their clocks, are of the schema and idle, they are as they are for some events, and there is a peak for each.
pub record IsRunning (schema : Declared) (count : ℕ) (query_states : List Phase) (peaks : List ℕ) : Type 0 where
  pub schemas : All (λ (p : Phase). p.schema ≡ schema) query_states
  pub idle : All IsIdle query_states
  pub run : HaveRun count query_states
  pub quiet : All (HasNoAnswer count) query_states
  pub peaks_are : length peaks ≡ length query_states

-- The query states as they are kept, for some of which the last events were no-ops and which have no clocks, are those of a running engine.
pub record IsKeeping (schema : Declared) (count : ℕ) (clocks : List (Option ℤ)) (query_states : List Phase) (peaks : List ℕ) : Type 0 where
  pub schemas : All (λ (p : Phase). p.schema ≡ schema) query_states
  pub idle : All IsIdle query_states
  pub run : HaveRun count (query_states_at count query_states clocks)
  pub quiet : All (HasNoAnswer count) (map (phase_at count) query_states)
  pub peaks_are : length peaks ≡ length query_states

-- What a query state is before any event.
pub record IsFirst (schema : Declared) (p : Phase) : Type 0 where
  pub schema_is : p.schema ≡ schema
  pub idle : IsIdle p
  pub upto : p.upto ≡ 0
  pub none : p.kept.nodes ≡ []
  pub stands : StandsAt [] p

-- each peak is the greater of what it was and how many nodes its query state has
abbrev pub raised : List ℕ → List Phase → List ℕ
raised [] query_states = []
raised (x ∷ xs) [] = x ∷ xs
raised (x ∷ xs) (p ∷ query_states) = max x (length p.kept.nodes) ∷ raised xs query_states

-- The numbers, from 1 and rising, are of the first so many elements, and each of these that is not named has the property.
pub record AreNamed {A : Type 0} (Others : A → Type 0) (count : ℕ) (xs : List A) (numbers : List ℕ) : Type 0 where
  pub rising : AreRising numbers
  pub within : (n : ℕ) → is_among numbers n ≡ true → (1 ≤ n) × (n ≤ count)
  pub others : (k : ℕ) (x : A) → k < count → slice_get xs k ≡ Some x → is_among numbers (k + 1) ≡ false → Others x

-- What is known of the queries by their numbers: once an event was taken, which may have an answer; and all of them.
pub record IsNoted (queries : List Query) (query_states : List Phase) (told : Bool) (touched all : List ℕ) : Type 0 where
  pub answering : told ≡ true → MayAnswer touched query_states
  pub every : AreNamed (λ (q : Query). ⊥) (length queries) queries all

-- The numbers, from 1 and rising, are of queries, and no query but these has an answer at the last position.
pub record AreAnswering (engine : EngineState) (numbers : List ℕ) : Type 0 where
  pub rising : AreRising numbers
  pub within : (n : ℕ) → is_among numbers n ≡ true → IsNumber engine n
  pub others : (k : ℕ) (q : Query) (events : List Event) → slice_get engine.queries k ≡ Some q → is_among numbers (k + 1) ≡ false → StandsFor engine events → AreAnswersAt engine.schema q events (length events - 1) []
