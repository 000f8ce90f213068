-- The clocks of the events that a query reads, and from which clock on a start is in the window.
use Rattle.std.specs.Prelude.{◌≡◌, ℕ, ◌-◌, ◌<◌, ◌≤◌, ℤ, ◌≤ℤ◌, ◌<ℤ◌, List, length, Contains, Some, slice_get}
use Rattle.stream_schema.specs.Types.{Declared}
use Rattle.stream_schema.specs.declared.Event.{Event}
use Rattle.cel_terms.specs.declared.Query.{Query}
use Rattle.cel_terms.specs.Answers.{query_types, HasClock}
pub use Rattle.window_clock.specs.Clocks.{least, low_of}

-- the query reads the event's type
abbrev pub Reads : Declared → Query → Event → Type 0
Reads schema q event = Contains (query_types schema q.streams) event.ty

-- The query reads the event at the position, and its clock there is this.
pub record HasClockAt (schema : Declared) (q : Query) (events : List Event) (position : ℕ) (clock : ℤ) : Type 0 where
  pub event : Event
  pub at : slice_get events position ≡ Some event
  pub read : Reads schema q event
  pub clock_is : HasClock schema q.window event position clock

-- Along the events that the query reads, in all partitions together, the clock does not fall.
abbrev pub NeverFalls : Declared → Query → List Event → Type 0
NeverFalls schema q events = (i j : ℕ) (before now : ℤ) → i ≤ j → HasClockAt schema q events i before → HasClockAt schema q events j now → before ≤ℤ now

-- the clock of the last event that the query reads
pub record IsLastClock (schema : Declared) (q : Query) (events : List Event) (clock : ℤ) : Type 0 where
  pub position : ℕ
  pub has : HasClockAt schema q events position clock
  pub last : (p : ℕ) (event : Event) → position < p → slice_get events p ≡ Some event → Reads schema q event → ⊥

-- With the event as the next one, the query's clock would fall.
pub record FallsBack (schema : Declared) (q : Query) (events : List Event) (event : Event) (before now : ℤ) : Type 0 where
  pub reads : Reads schema q event
  pub last : IsLastClock schema q events before
  pub now_is : HasClock schema q.window event (length events) now
  pub falls : now <ℤ before

-- no query's clock would fall
abbrev pub NoneFallsBack : Declared → List Query → List Event → Event → Type 0
NoneFallsBack schema queries events event = (k : ℕ) (q : Query) (before now : ℤ) → slice_get queries k ≡ Some q → FallsBack schema q events event before now → ⊥

-- The clock of the query with this number, from 1, would fall, and of no query before it.
pub record IsFirstToFall (schema : Declared) (queries : List Query) (events : List Event) (event : Event) (query : ℕ) (before now : ℤ) : Type 0 where
  pub falling : Query
  pub numbered : 1 ≤ query
  pub at : slice_get queries (query - 1) ≡ Some falling
  pub falls : FallsBack schema falling events event before now
  pub first : (k : ℕ) (q : Query) (b n : ℤ) → k < query - 1 → slice_get queries k ≡ Some q → FallsBack schema q events event b n → ⊥
