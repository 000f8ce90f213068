-- What a compaction of a service leaves.
use Rattle.std.specs.Prelude.{◌≡◌, ℕ, List, length}
use Rattle.stream_schema.specs.declared.Event.{Event}
use Rattle.query_engine.specs.Engine.{EngineState, StandsFor, SameQueries, count_of, len_of, peak_of, found_of}
use Rattle.core_service.specs.declared.Sizes.{Sizes}
use Rattle.core_service.specs.Answering.{SameLeft}
use Rattle.core_service.specs.Holding.{SameHeld}
use Rattle.core_service.specs.Services.{ServiceState}

-- The service serves the same events, the same rows are left, and held cursors have the same left.
pub record IsCompacted (old new : ServiceState) : Type 0 where
  pub same : SameQueries old.engine new.engine
  pub lines : new.lines ≡ old.lines
  pub stands : (events : List Event) → StandsFor old.engine events → StandsFor new.engine events
  pub left : SameLeft old.engine new.engine old.answers new.answers
  pub positions : new.answers.positions ≡ old.answers.positions
  pub held : SameHeld old.engine new.engine old.held new.held

-- The sizes are those of the query with this number.
pub record AreSizesOf (engine : EngineState) (query : ℕ) (sizes : Sizes) : Type 0 where
  pub events : sizes.events ≡ count_of engine
  pub queries : sizes.queries ≡ length engine.queries
  pub nodes : sizes.nodes ≡ len_of engine query
  pub peak : sizes.peak ≡ peak_of engine query
  pub states : sizes.states ≡ found_of engine query
