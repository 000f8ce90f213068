-- An engine and its open cursors as callers may think of them: the events so far, and of each cursor the answers that it has not given yet. This project's own.
use Rattle.std.specs.Prelude.{◌≡◌, ℕ, ◌-◌, ◌<◌, ◌≤◌, ℤ, List, [], ◌∷◌, ◌++◌, length, map, get_or, remove, Some, slice_get, slice_set}
use Rattle.std.specs.List.{AllZip}
use Rattle.std.specs.List.Sorted.{IsPermutation}
use Rattle.stream_schema.specs.Types.{Declared}
use Rattle.stream_schema.specs.declared.Event.{Event}
use Rattle.cel_terms.specs.declared.Query.{Query}
use Rattle.cel_terms.specs.Answers.{Answer, AreAnswersAt}
use Rattle.cer_base.specs.declared.node.Stamp.{Stamp}
use Rattle.query_engine.specs.Clocks.{NoneFallsBack, IsFirstToFall}
use Rattle.query_engine.specs.Holding.{answer_of}
use Rattle.query_engine.specs.Engine.{EngineState, Open, StandsFor, count_of, Fits, rest, KeepsCursors, IsKept}

-- an open cursor: its query's number, from 1, the position at which it was opened, and the answers that it has not given yet
pub record OpenCursor : Type 0 where
  pub query : ℕ
  pub position : ℕ
  pub left : List Answer

-- the events so far, and the open cursors, by their numbers from 0
pub record EngineModel : Type 0 where
  pub events : List Event
  pub cursors : List OpenCursor

-- what it is told
pub data Command : Type 0 where
  Take : Event → Command
  Begin : ℕ → Command
  Pull : ℕ → Command
  Drop : ℕ → Command
  Compact : Command

-- what it answers: it is done, the clock of a query would fall, an answer, no answer is left, or memory ran out
pub data Reply : Type 0 where
  Done : Reply
  Falls : ℕ → ℤ → ℤ → Reply
  Gives : Answer → Reply
  NoneLeft : Reply
  Wants : Reply

abbrev pub with_event : EngineModel → Event → EngineModel
with_event m event = record m { events = m.events ++ event ∷ [] }

abbrev pub with_cursor : EngineModel → ℕ → List Answer → EngineModel
with_cursor m query answers = record m { cursors = m.cursors ++ record { query = query; position = length m.events - 1; left = answers } ∷ [] }

-- the cursor of this number has these answers left
abbrev pub with_left : EngineModel → ℕ → OpenCursor → List Answer → EngineModel
with_left m k cursor answers = record m { cursors = slice_set m.cursors k (record cursor { left = answers }) }

abbrev pub without_cursor : EngineModel → ℕ → EngineModel
without_cursor m k = record m { cursors = remove m.cursors k }

-- What each command makes of it, and what is answered. A cursor is begun once an event was taken, with a number of a query, and is to give the answers of that query at the last position, each once; a pull gives one of them, which is then no longer left.
pub data IsStep (schema : Declared) (queries : List Query) : EngineModel → Command → Reply → EngineModel → Type 0 where
  Taken : (m : EngineModel) (event : Event) → NoneFallsBack schema queries m.events event → IsStep schema queries m (Take event) Done (with_event m event)
  Refused : (m : EngineModel) (event : Event) (query : ℕ) (before now : ℤ) → IsFirstToFall schema queries m.events event query before now → IsStep schema queries m (Take event) (Falls query before now) m
  Begun : (m : EngineModel) (query : ℕ) (q : Query) (answers : List Answer) → 1 ≤ query → slice_get queries (query - 1) ≡ Some q → 0 < length m.events → AreAnswersAt schema q m.events (length m.events - 1) answers →
      IsStep schema queries m (Begin query) Done (with_cursor m query answers)
  Given : (m : EngineModel) (k : ℕ) (cursor : OpenCursor) (answer : Answer) (others : List Answer) → slice_get m.cursors k ≡ Some cursor → IsPermutation cursor.left (answer ∷ others) →
      IsStep schema queries m (Pull k) (Gives answer) (with_left m k cursor others)
  Ended : (m : EngineModel) (k : ℕ) (cursor : OpenCursor) → slice_get m.cursors k ≡ Some cursor → cursor.left ≡ [] → IsStep schema queries m (Pull k) NoneLeft m
  Dropped : (m : EngineModel) (k : ℕ) → k < length m.cursors → IsStep schema queries m (Drop k) Done (without_cursor m k)
  Compacted : (m : EngineModel) → IsStep schema queries m Compact Done m
  Wanted : (m : EngineModel) (command : Command) → IsStep schema queries m command Wants m

-- The cursor fits the engine, and is of the query and still to give the answers.
pub record IsCursor (engine : EngineState) (held : Open) (cursor : OpenCursor) : Type 0 where
  pub fits : Fits engine held
  pub query : cursor.query ≡ held.query
  pub left : cursor.left ≡ map answer_of (rest engine held)

-- The engine stands for the events, and the cursors that are held are those of the model, in order.
pub record IsEngineModel (engine : EngineState) (held : List Open) (m : EngineModel) : Type 0 where
  pub stands : StandsFor engine m.events
  pub cursors : AllZip (IsCursor engine) held m.cursors

-- By what they promise, the calls of an engine are steps of the model.
-- at first
abbrev pub FirstIsMachine : Type 0
FirstIsMachine = (engine : EngineState) → StandsFor engine [] → IsEngineModel engine [] (record { events = []; cursors = [] })

-- an event that is taken
abbrev pub EventIsStep : Type 0
EventIsStep = (old new : EngineState) (held : List Open) (m : EngineModel) (event : Event) → IsEngineModel old held m →
    StandsFor new (m.events ++ event ∷ []) → KeepsCursors old new → NoneFallsBack old.schema old.queries m.events event →
    IsStep old.schema old.queries m (Take event) Done (with_event m event) × IsEngineModel new held (with_event m event)

-- a call that is refused
abbrev pub RefusalIsStep : Type 0
RefusalIsStep = (old new : EngineState) (held : List Open) (m : EngineModel) (event : Event) (query : ℕ) (before now : ℤ) → IsEngineModel old held m →
    new ≡ old → IsFirstToFall old.schema old.queries m.events event query before now →
    IsStep old.schema old.queries m (Take event) (Falls query before now) m × IsEngineModel new held m

abbrev pub WantIsStep : Type 0
WantIsStep = (old new : EngineState) (before after : List Open) (m : EngineModel) (command : Command) → IsEngineModel old before m →
    new ≡ old → after ≡ before → IsStep old.schema old.queries m command Wants m × IsEngineModel new after m

-- a cursor that is opened
abbrev pub CursorIsStep : Type 0
CursorIsStep = (engine : EngineState) (held : List Open) (m : EngineModel) (query : ℕ) (q : Query) (cursor : Open) → IsEngineModel engine held m →
    0 < count_of engine → slice_get engine.queries (query - 1) ≡ Some q → cursor.query ≡ query → Fits engine cursor →
    AreAnswersAt engine.schema q m.events (length m.events - 1) (map answer_of (rest engine cursor)) →
    (next : EngineModel) × IsStep engine.schema engine.queries m (Begin query) Done next × IsEngineModel engine (held ++ cursor ∷ []) next

-- a pull that gives an answer, and one that gives none
abbrev pub PullIsStep : Type 0
PullIsStep = (engine : EngineState) (held : List Open) (m : EngineModel) (k : ℕ) (before after : Open) (start : Stamp) → IsEngineModel engine held m →
    slice_get held k ≡ Some before → Fits engine after → after.query ≡ before.query →
    rest engine before ≡ record { start = start; positions = after.path } ∷ rest engine after →
    (next : EngineModel) × IsStep engine.schema engine.queries m (Pull k) (Gives (answer_of (record { start = start; positions = after.path }))) next
    × IsEngineModel engine (slice_set held k after) next

abbrev pub LastPullIsStep : Type 0
LastPullIsStep = (engine : EngineState) (held : List Open) (m : EngineModel) (k : ℕ) (before after : Open) → IsEngineModel engine held m →
    slice_get held k ≡ Some before → Fits engine after → after.query ≡ before.query → rest engine before ≡ [] → rest engine after ≡ [] →
    IsStep engine.schema engine.queries m (Pull k) NoneLeft m × IsEngineModel engine (slice_set held k after) m

-- a cursor that is dropped
abbrev pub DropIsStep : Type 0
DropIsStep = (engine : EngineState) (held : List Open) (m : EngineModel) (k : ℕ) → IsEngineModel engine held m → k < length held →
    IsStep engine.schema engine.queries m (Drop k) Done (without_cursor m k) × IsEngineModel engine (remove held k) (without_cursor m k)

-- a compaction that is made
abbrev pub CompactionIsStep : Type 0
CompactionIsStep = (old new : EngineState) (before after : List Open) (m : EngineModel) → IsEngineModel old before m →
    StandsFor new m.events → length after ≡ length before → ((k : ℕ) (d : Open) → k < length before → IsKept old new (get_or before k d) (get_or after k d)) →
    IsStep old.schema old.queries m Compact Done m × IsEngineModel new after m
