-- How many steps an event, and a compaction, may take of all queries, by the states that the runs over all events meet.
use Rattle.std.specs.Prelude.{◌≡◌, ℕ, ◌+◌, ◌*◌, ◌≤◌, List, [], ◌∷◌, ◌++◌, length, Some, slice_get}
use Rattle.stream_schema.specs.Types.{Declared}
use Rattle.stream_schema.specs.declared.Event.{Event}
use Rattle.cel_terms.specs.declared.Query.{Query}
use Rattle.query_engine.specs.Bounds.{update_bound, for_each_query, MeetAtMost}
use Rattle.query_engine.specs.Engine.{EngineState, StandsFor, SameQueries, found_of, len_of, update_bounds}

-- The runs over the events meet at most so many states of each query, by its number, from 1.
abbrev pub MeetMost : Declared → List Query → List Event → (ℕ → ℕ) → Type 0
MeetMost schema queries events most = (k : ℕ) (q : Query) → slice_get queries k ≡ Some q → MeetAtMost schema q events (most (k + 1))

-- An event's steps for all queries, but for those to its answers: it is taken, a cursor is opened, and the cursor's end is met.
abbrev pub event_bound : ℕ → (ℕ → ℕ) → ℕ
event_bound queries most = for_each_query queries (λ k. 2 * update_bound (most k) + 1)

-- the query state of them that cursors take, by the states found so far
abbrev pub cursor_bound : EngineState → ℕ → ℕ
cursor_bound engine k = update_bound (found_of engine k) + 1

abbrev pub cursor_bounds : EngineState → ℕ
cursor_bounds engine = for_each_query (length engine.queries) (cursor_bound engine)

-- What was found for a query are states that runs over the events meet.
abbrev pub FoundAreMet : Type 0
FoundAreMet = (engine : EngineState) (events : List Event) (k : ℕ) (q : Query) (n : ℕ) →
    StandsFor engine events → slice_get engine.queries k ≡ Some q → MeetAtMost engine.schema q events n → found_of engine (k + 1) ≤ n

-- The runs over the first events meet no more than those over all.
abbrev pub FirstEventsMeetFewer : Type 0
FirstEventsMeetFewer = (schema : Declared) (queries : List Query) (events more : List Event) (most : ℕ → ℕ) →
    MeetMost schema queries (events ++ more) most → MeetMost schema queries events most

-- An event that was taken took no more than its bound, and leaves enough of it for the cursors.
abbrev pub EventIsBounded : Type 0
EventIsBounded = (engine : EngineState) (events : List Event) (most : ℕ → ℕ) →
    StandsFor engine events → MeetMost engine.schema engine.queries events most →
    update_bounds engine + cursor_bounds engine ≤ event_bound (length engine.queries) most

-- The runs of a query meet no more than some number of states, whatever the events.
abbrev pub SomeNumberIsMost : Type 0
SomeNumberIsMost = (schema : Declared) (q : Query) → (n : ℕ) × ((events : List Event) → MeetAtMost schema q events n)

-- No query has more nodes than so many events may add.
abbrev pub HasFewNodes : EngineState → ℕ → (ℕ → ℕ) → Type 0
HasFewNodes engine events most = (k : ℕ) (q : Query) → slice_get engine.queries k ≡ Some q → len_of engine (k + 1) ≤ events * update_bound (most (k + 1))

-- A compaction's steps for all queries, after so many events: nine for each node that these may have added.
abbrev pub compaction_bound : ℕ → (ℕ → ℕ) → ℕ → ℕ
compaction_bound queries most events = for_each_query queries (λ k. 9 * update_bound (most k) * events)

-- An engine that took no event has no node.
abbrev pub FirstHasNoNode : Type 0
FirstHasNoNode = (engine : EngineState) (most : ℕ → ℕ) → StandsFor engine [] → HasFewNodes engine 0 most

-- An event that was taken adds no more than its bound.
abbrev pub EventAddsFew : Type 0
EventAddsFew = (old new : EngineState) (events : List Event) (event : Event) (most : ℕ → ℕ) →
    SameQueries old new → StandsFor new (events ++ event ∷ []) → MeetMost new.schema new.queries (events ++ event ∷ []) most →
    ((query : ℕ) → len_of new query ≤ len_of old query + update_bound (found_of new query)) →
    HasFewNodes old (length events) most → HasFewNodes new (length (events ++ event ∷ [])) most
