-- When the engine of a run is compacted: after every N-th event, or where no N is given as its queries grow.
use Rattle.std.specs.Prelude.{◌≡◌, ℕ, ◌+◌, ◌*◌, ◌≤◌, max, Bool, List, length, Option, Some, None, slice_get}
use Rattle.stream_schema.specs.declared.Event.{Event}
use Rattle.cel_terms.specs.declared.Query.{Query}
use Rattle.query_engine.specs.declared.sizes.Size.{Size}
use Rattle.query_engine.specs.Bounds.{update_bound}
use Rattle.query_engine.specs.Counts.{event_bound, compaction_bound}
use Rattle.query_engine.specs.Engine.{EngineState, found_of}
use Rattle.query_engine.specs.Sizes.{put_by, size_of, steady_bound, IsInWindowAfter, IsSizedBy, AreKeptSmall}
use Rattle.stream_answers.specs.declared.schedule.TheConstants.{LEAST_SIZE, EVENTS_A_QUERY, FEWEST_EVENTS}
use Rattle.stream_answers.specs.Windows.{is_due_after}

-- A compaction of all queries is due after every so many events, of which the first so many do not count; without such a number each query is compacted when it has grown.
pub record Timing : Type 0 where
  pub every : Option ℕ
  pub first : ℕ

-- whether a compaction of all queries is due after so many events
abbrev pub due_by : Timing → ℕ → Bool
due_by timing = is_due_after timing.every timing.first

-- What contracts see of a schedule: its timing, and without a number after how many events the queries were looked at last, after how many they are next, and what was kept of each once it was compacted last.
pub record Plan : Type 0 where
  pub timing : Timing
  pub looked : ℕ
  pub next : ℕ
  pub bases : List Size

-- what a fact says where no number is given
abbrev pub WithNoNumber : Option ℕ → Type 0 → Type 0
WithNoNumber None P = P
WithNoNumber (Some n) P = Unit {0}

-- THE STEPS

-- what an event may take of all queries, but for its answers; where no number is given, with what it puts by
abbrev pub pace : Option ℕ → ℕ → (ℕ → ℕ) → ℕ
pace None queries most = steady_bound queries most
pace (Some n) queries most = event_bound queries most

-- what is put by
abbrev pub saved_by : Option ℕ → EngineState → List Size → ℕ
saved_by None engine bases = put_by engine bases
saved_by (Some n) engine bases = 0

abbrev pub saved : Plan → EngineState → ℕ
saved plan engine = saved_by plan.timing.every engine plan.bases

-- a schedule that has no number begins with a compaction, after so many events
abbrev pub first_compaction : Option ℕ → ℕ → (ℕ → ℕ) → ℕ → ℕ
first_compaction None queries most events = compaction_bound queries most events
first_compaction (Some n) queries most events = 0

-- THE SIZES

-- how many events come between two looks at so many queries
abbrev pub events_before_look : ℕ → ℕ
events_before_look queries = max (EVENTS_A_QUERY * queries) FEWEST_EVENTS

abbrev pub events_between : EngineState → ℕ
events_between engine = events_before_look (length engine.queries)

-- It took events since it was looked at last, no more than come between two looks.
pub record IsGoingOn (plan : Plan) (engine : EngineState) (events : List Event) : Type 0 where
  pub count : length plan.bases ≡ length engine.queries
  pub looked : plan.looked ≤ length events
  pub next : plan.next ≤ plan.looked + events_between engine
  pub small : AreKeptSmall LEAST_SIZE plan.looked engine plan.bases events

-- The engine is kept by the plan after these events.
pub record IsOnTime (plan : Plan) (engine : EngineState) (events : List Event) : Type 0 where
  pub going_on : IsGoingOn plan engine events
  pub until : length events ≤ plan.next

-- After some first events the query's window needed so much. What is kept of it is at most twice that, and what a few events may add: nodes, and keys as eight of them each.
pub record IsSmall (engine : EngineState) (events : List Event) (k : ℕ) (q : Query) : Type 0 where
  pub first : ℕ
  pub among : first ≤ length events
  pub needed : ℕ
  pub window : IsSizedBy (IsInWindowAfter engine events first q) engine (k + 1) needed
  pub size : size_of engine (k + 1) ≤ LEAST_SIZE + 2 * needed + events_between engine * (update_bound (found_of engine (k + 1)) + 8)

-- each query is kept small
abbrev pub KeepsUp : EngineState → List Event → Type 0
KeepsUp engine events = (k : ℕ) (q : Query) → slice_get engine.queries k ≡ Some q → IsSmall engine events k q
