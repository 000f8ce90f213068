-- What an engine is while the events of a history are taken into it.
use Rattle.std.specs.Prelude.{◌≡◌, ℕ, ◌+◌, List, [], ◌∷◌, ◌++◌, length, Some, take, slice_get}
use Rattle.stream_schema.specs.Types.{Declared}
use Rattle.stream_schema.specs.declared.Event.{Event}
use Rattle.query_engine.specs.Clocks.{NoneFallsBack}
use Rattle.query_engine.specs.Engine.{EngineState, StandsFor, count_of}
use Rattle.query_engine.specs.Skipping.{AreBlanks}
use Rattle.query_engine.specs.Windows.{IsDense}
use Rattle.checkpoint_text.specs.declared.history.EventAt.{EventAt}
use Rattle.checkpoint_text.specs.Streams.{AreEventsFrom}

-- The engine is at the position of an event of a history, and stands for all events before it.
pub record StandsForFirst (schema : Declared) (events : List EventAt) (engine : EngineState) : Type 0 where
  pub count : ℕ
  pub next : EventAt
  pub at : slice_get events count ≡ Some next
  pub place : count_of engine ≡ next.position
  pub stands : (stream : List Event) → AreEventsFrom schema 0 next.position (take count events) stream → StandsFor engine stream

-- It stands for all of them up to this position, and its nodes follow them.
pub record Replayed (schema : Declared) (events : List EventAt) (positions : ℕ) (engine : EngineState) : Type 0 where
  pub count : count_of engine ≡ positions
  pub stands : (stream : List Event) → AreEventsFrom schema 0 positions events stream → StandsFor engine stream
  pub dense : (stream : List Event) → AreEventsFrom schema 0 positions events stream → IsDense engine stream

-- where the positions of the events end, the first of which is no less than so much
abbrev pub reached : ℕ → List EventAt → ℕ
reached from [] = from
reached from (e ∷ events) = reached (e.position + 1) events

-- With the event at its position, after blank ones, no clock falls.
pub record IsInTime (engine : EngineState) (at : EventAt) : Type 0 where
  pub events : List Event
  pub blanks : List Event
  pub stands : StandsFor engine events
  pub are : AreBlanks engine.schema (length events) at.position blanks
  pub time : NoneFallsBack engine.schema engine.queries (events ++ blanks) at.event
