-- For every feed and file the run is one thing.
use Rattle.std.specs.Prelude.{◌≡◌, ℕ, List}
use Rattle.stream_schema.specs.declared.Event.{Event as StreamEvent}
use Rattle.event_run.specs.Runs.{RunStop}
use Rattle.command_reorder.specs.Late.{LateRequest, RunsLate}

-- The queries take one list of events of a file, and stop in one way.
abbrev pub LateRunsAreOne : Type 0
LateRunsAreOne = (a : LateRequest) (bytes : List ℕ) (events again : List StreamEvent) (halt other : RunStop) →
    RunsLate a bytes events halt → RunsLate a bytes again other → (events ≡ again) × (halt ≡ other)

-- Every file has a run.
abbrev pub SomeLateRunIs : Type 0
SomeLateRunIs = (a : LateRequest) (bytes : List ℕ) → (events : List StreamEvent) × (halt : RunStop) × RunsLate a bytes events halt
