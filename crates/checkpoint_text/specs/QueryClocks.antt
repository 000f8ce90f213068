-- The clocks of the queries along events that have their positions.
use Rattle.std.specs.Prelude.{◌≡◌, ℤ, int_lt, Bool, false, if◌then◌else◌, List, [], ◌∷◌, ◌++◌, fold, Option, Some, None}
use Rattle.std.specs.List.{list_any}
use Rattle.stream_schema.specs.Types.{Declared}
use Rattle.cel_terms.specs.declared.Query.{Query}
use Rattle.cel_terms.specs.EventsRead.{query_reads}
use Rattle.window_clock.specs.Clocks.{clock_of}
use Rattle.checkpoint_text.specs.declared.history.EventAt.{EventAt}

-- the event's clock, where the query reads it
abbrev pub clock_at : Declared → Query → EventAt → Option ℤ
clock_at schema q e = if query_reads schema q e.event then clock_of schema q.window e.event e.position else None

-- the later clock, where there is one
abbrev pub later_clock : Option ℤ → Option ℤ → Option ℤ
later_clock last None = last
later_clock last (Some now) = Some now

-- the clock of the last event that the query reads
abbrev pub last_clock : Declared → Query → List EventAt → Option ℤ
last_clock schema q events = fold (λ last e. later_clock last (clock_at schema q e)) None events

-- both are there, and the second is below the first
abbrev pub is_back : Option ℤ → Option ℤ → Bool
is_back (Some before) (Some now) = int_lt now before
is_back _ _ = false

-- the query's clock falls with the event after the others
abbrev pub falls_with : Declared → List EventAt → EventAt → Query → Bool
falls_with schema events e q = is_back (last_clock schema q events) (clock_at schema q e)

-- the clock of some query does
abbrev pub some_falls : Declared → List Query → List EventAt → EventAt → Bool
some_falls schema queries events e = list_any (falls_with schema events e) queries

-- With none of the events does the clock of a query fall, after these and those between.
abbrev pub NoneFallsAfter : Declared → List Query → List EventAt → List EventAt → Type 0
NoneFallsAfter schema queries before [] = Unit {0}
NoneFallsAfter schema queries before (e ∷ events) =
    (some_falls schema queries before e ≡ false) × NoneFallsAfter schema queries (before ++ e ∷ []) events

-- No query's clock falls along the events.
abbrev pub NoneFalls : Declared → List Query → List EventAt → Type 0
NoneFalls schema queries events = NoneFallsAfter schema queries [] events
