-- How much is kept of a query, and what is put by for its next compaction.
use Rattle.std.specs.Prelude.{◌≡◌, ℕ, ◌+◌, ◌-◌, ◌*◌, ◌≤◌, ◌<◌, ◌⊎◌, ℤ, ◌≤ℤ◌, Bool, ◌&&◌, nat_le, List, [], ◌∷◌, ◌++◌, length, take, All, Some, slice_get, slice_index_or}
use Rattle.stream_schema.specs.declared.Event.{Event}
use Rattle.cel_terms.specs.declared.Query.{Query}
use Rattle.cer_base.specs.Repeats.{HasNoRepeats}
use Rattle.query_engine.specs.declared.sizes.Size.{Size}
use Rattle.query_engine.specs.Bounds.{update_bound, for_each_query}
use Rattle.query_engine.specs.Clocks.{HasClockAt, IsLastClock, low_of}
use Rattle.query_engine.specs.Counts.{MeetMost, event_bound}
use Rattle.query_engine.specs.Engine.{EngineState, Open, StandsFor, SameQueries, MayStartAt, found_of, len_of}
use Rattle.query_engine.specs.Keys.{keys_of, HasAddedKeys, KeysFollowWindow}
use Rattle.query_engine.specs.Windows.{HasAdded, IsHeld, FollowsWindow}

-- a key weighs as much as eight nodes
abbrev pub weight : Size → ℕ
weight size = size.nodes + 8 * size.keys

-- what is kept of the query with this number, from 1
abbrev pub size_of : EngineState → ℕ → ℕ
size_of engine query = len_of engine query + 8 * keys_of engine query

-- what was kept of it after its last compaction, as it was noted
abbrev pub base_of : List Size → ℕ → ℕ
base_of bases query = weight (slice_index_or bases (query - 1) (record { nodes = 0; keys = 0 }))

-- it is so much at least, and at least twice what it was then
abbrev pub has_grown : ℕ → ℕ → ℕ → Bool
has_grown least base now = nat_le least now && nat_le (2 * base) now

-- The notes are what is kept of each query now.
pub record AreSizes (engine : EngineState) (bases : List Size) : Type 0 where
  pub count : length bases ≡ length engine.queries
  pub each : (k : ℕ) (q : Query) → slice_get engine.queries k ≡ Some q → base_of bases (k + 1) ≡ size_of engine (k + 1)

-- THE STEPS

-- what is put by for the next compaction of each query: 24 steps for each node that came since the last one, and for each key as for eight
abbrev pub put_by : EngineState → List Size → ℕ
put_by engine bases = for_each_query (length engine.queries) (λ k. 24 * (size_of engine k - base_of bases k))

-- an event's steps for all queries, but for those to its answers, and what is put by at it
abbrev pub steady_bound : ℕ → (ℕ → ℕ) → ℕ
steady_bound queries most = for_each_query queries (λ k. 29 * update_bound (most k) + 1)

-- An event that was taken puts by no more than the rest of this bound.
abbrev pub EventPutsBy : Type 0
EventPutsBy = (old new : EngineState) (events : List Event) (event : Event) (bases : List Size) (most : ℕ → ℕ) →
    SameQueries old new → StandsFor new (events ++ event ∷ []) → HasAdded old new event → HasAddedKeys old new event → MeetMost new.schema new.queries (events ++ event ∷ []) most →
    event_bound (length new.queries) most + put_by new bases ≤ put_by old bases + steady_bound (length new.queries) most

-- Where the notes are the sizes of now, nothing is put by.
abbrev pub NothingIsPutBy : Type 0
NothingIsPutBy = (engine : EngineState) (bases : List Size) → AreSizes engine bases → put_by engine bases ≡ 0

-- THE SIZES

-- There are different positions that are such, for each of them the nodes of an update and a key, and one key more.
pub record IsSizedBy (Are : ℕ → Type 0) (engine : EngineState) (query size : ℕ) : Type 0 where
  pub positions : List ℕ
  pub distinct : HasNoRepeats positions
  pub each : All Are positions
  pub bounded : size ≤ length positions * (update_bound (found_of engine query) + 8) + 8

-- What is kept of the query is bounded by the events at which an answer may start that it will have, but for nodes that a held cursor of it still needs.
pub record IsSized (engine : EngineState) (events : List Event) (held : List Open) (k : ℕ) (q : Query) : Type 0 where
  pub number : ℕ
  pub bounded : IsSizedBy (MayStartAt engine events q) engine (k + 1) number
  pub others : List ℕ
  pub distinct : HasNoRepeats others
  pub each : All (IsHeld engine held k) others
  pub whole : size_of engine (k + 1) ≤ number + length others

-- The query was compacted, its note is its size, and that follows its window; or it has not grown enough, and it is as it was.
pub record IsCompactedNow (engine : EngineState) (events : List Event) (held : List Open) (bases : List Size) (k : ℕ) (q : Query) : Type 0 where
  pub noted : base_of bases (k + 1) ≡ size_of engine (k + 1)
  pub window : IsSized engine events held k q

pub record IsLeftAlone (least : ℕ) (old new : EngineState) (before after : List Size) (k : ℕ) : Type 0 where
  pub noted : base_of after (k + 1) ≡ base_of before (k + 1)
  pub same : size_of new (k + 1) ≡ size_of old (k + 1)
  pub small : (size_of new (k + 1) < least) ⊎ (size_of new (k + 1) < 2 * base_of before (k + 1))

abbrev pub AreTended : ℕ → EngineState → EngineState → List Event → List Open → List Size → List Size → Type 0
AreTended least old new events held before after = (k : ℕ) (q : Query) → slice_get new.queries k ≡ Some q →
    IsCompactedNow new events held after k q ⊎ IsLeftAlone least old new before after k

-- The query reads the event at the position among the first so many, and it is in the window of the last of these that it reads.
pub record IsInWindowAfter (engine : EngineState) (events : List Event) (first : ℕ) (q : Query) (position : ℕ) : Type 0 where
  pub clock : ℤ
  pub has : HasClockAt engine.schema q (take first events) position clock
  pub now : ℤ
  pub last : IsLastClock engine.schema q (take first events) now
  pub recent : low_of q.window now ≤ℤ clock

-- After some first events the query's window needed so much; then it was compacted last, or the engine was begun. What is kept is at most twice that, so much in any case, and what events may have added since one was looked at.
pub record IsKeptSmall (least looked : ℕ) (engine : EngineState) (bases : List Size) (events : List Event) (k : ℕ) (q : Query) : Type 0 where
  pub first : ℕ
  pub among : first ≤ length events
  pub needed : ℕ
  pub window : IsSizedBy (IsInWindowAfter engine events first q) engine (k + 1) needed
  pub base : base_of bases (k + 1) ≤ needed
  pub size : size_of engine (k + 1) ≤ least + 2 * needed + (length events - looked) * (update_bound (found_of engine (k + 1)) + 8)

abbrev pub AreKeptSmall : ℕ → ℕ → EngineState → List Size → List Event → Type 0
AreKeptSmall least looked engine bases events = (k : ℕ) (q : Query) → slice_get engine.queries k ≡ Some q → IsKeptSmall least looked engine bases events k q

-- A compaction of all queries leaves them so, where their sizes are noted then.
abbrev pub CompactedAreSmall : Type 0
CompactedAreSmall = (engine : EngineState) (bases : List Size) (events : List Event) (least : ℕ) →
    StandsFor engine events → FollowsWindow engine events [] → KeysFollowWindow engine events → AreSizes engine bases → AreKeptSmall least (length events) engine bases events

-- An event that is taken leaves them so.
abbrev pub EventKeepsSmall : Type 0
EventKeepsSmall = (old new : EngineState) (bases : List Size) (events : List Event) (event : Event) (least looked : ℕ) → looked ≤ length events →
    SameQueries old new → HasAdded old new event → HasAddedKeys old new event → AreKeptSmall least looked old bases events → AreKeptSmall least looked new bases (events ++ event ∷ [])

-- And so does a look at all of them, with no cursor held.
abbrev pub TendingKeepsSmall : Type 0
TendingKeepsSmall = (old new : EngineState) (before after : List Size) (events : List Event) (least looked : ℕ) →
    SameQueries old new → ((query : ℕ) → found_of new query ≡ found_of old query) → AreTended least old new events [] before after → AreKeptSmall least looked old before events → AreKeptSmall least (length events) new after events
