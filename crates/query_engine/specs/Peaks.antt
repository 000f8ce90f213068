-- How many nodes an engine has, and had at most, while no compaction is made.
use Rattle.std.specs.Prelude.{◌≡◌, ℕ, ◌+◌, ◌≤◌, ◌⊎◌, List, ◌∷◌, [], ◌++◌, length, Some, slice_get}
use Rattle.stream_schema.specs.declared.Event.{Event}
use Rattle.cel_terms.specs.declared.Query.{Query}
use Rattle.query_engine.specs.Counts.{MeetMost, HasFewNodes}
use Rattle.query_engine.specs.Engine.{EngineState, StandsFor, SameQueries, peak_of}
use Rattle.query_engine.specs.Windows.{IsBoundedBy, IsReadFrom, IsDense, HasAdded}

-- No query had more nodes than its events so far allow, or than it had had before any of them: these were the peaks then.
abbrev pub PeaksFollow : (ℕ → ℕ) → EngineState → List Event → Type 0
PeaksFollow before engine events = (k : ℕ) (q : Query) → slice_get engine.queries k ≡ Some q →
    (peak_of engine (k + 1) ≤ before (k + 1)) ⊎ IsBoundedBy (IsReadFrom engine.schema q events 0) engine (k + 1) (peak_of engine (k + 1))

-- Where the nodes follow the events, they are no more than so many events may add.
abbrev pub DenseNodesAreFew : Type 0
DenseNodesAreFew = (engine : EngineState) (events : List Event) (most : ℕ → ℕ) →
    StandsFor engine events → IsDense engine events → MeetMost engine.schema engine.queries events most → HasFewNodes engine (length events) most

-- An event that is taken leaves the peaks so.
abbrev pub EventKeepsPeaks : Type 0
EventKeepsPeaks = (before : ℕ → ℕ) (old new : EngineState) (events : List Event) (event : Event) →
    SameQueries old new → HasAdded old new event → IsDense new (events ++ event ∷ []) → PeaksFollow before old events → PeaksFollow before new (events ++ event ∷ [])
