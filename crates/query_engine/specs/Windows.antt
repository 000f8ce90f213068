-- How many nodes are kept of a query: at most the bound of an update for each of its events at which an answer may still start, and those that a held cursor still needs.
use Rattle.std.specs.Prelude.{◌≡◌, ℕ, ◌+◌, ◌-◌, ◌*◌, ◌≤◌, ◌⊎◌, ℤ, ◌≤ℤ◌, max, List, [], ◌∷◌, ◌++◌, length, take, All, Contains, Some, slice_get}
use Rattle.std.specs.Option.{option_map_or}
use Rattle.stream_schema.specs.Types.{Declared}
use Rattle.stream_schema.specs.declared.Event.{Event}
use Rattle.cel_terms.specs.declared.Query.{Query}
use Rattle.cer_base.specs.Repeats.{HasNoRepeats}
use Rattle.arena_compact.specs.Moves.{later}
use Rattle.query_standing.specs.Kept.{QueryState}
use Rattle.query_engine.specs.Bounds.{update_bound}
use Rattle.query_engine.specs.Clocks.{Reads, HasClockAt, IsLastClock, low_of}
use Rattle.query_engine.specs.Engine.{EngineState, Open, StandsFor, SameQueries, found_of, len_of, peak_of, MayStartAt, NeedsNode}

-- how many nodes of the query with this number have their greatest start at the position or later
unfoldable pub later_of : EngineState → ℕ → ℕ → ℕ
later_of engine query position = option_map_or (λ (p : QueryState). later position p.nodes) (slice_get engine.query_states (query - 1)) 0

-- For each of different positions that are such there is the bound of an update, by the states found for the query, and the number is no greater.
pub record IsBoundedBy (Are : ℕ → Type 0) (engine : EngineState) (query number : ℕ) : Type 0 where
  pub positions : List ℕ
  pub distinct : HasNoRepeats positions
  pub each : All Are positions
  pub bounded : number ≤ length positions * update_bound (found_of engine query)

-- The query reads the event at the position, which is the first one asked for or a later one.
pub record IsReadFrom (schema : Declared) (q : Query) (events : List Event) (first position : ℕ) : Type 0 where
  pub clock : ℤ
  pub has : HasClockAt schema q events position clock
  pub from : first ≤ position

-- Whatever the position, the nodes with their greatest start there or later are bounded by the events that the query reads from there on.
abbrev pub IsDense : EngineState → List Event → Type 0
IsDense engine events = (k : ℕ) (q : Query) (p : ℕ) → slice_get engine.queries k ≡ Some q →
    IsBoundedBy (IsReadFrom engine.schema q events p) engine (k + 1) (later_of engine (k + 1) p)

-- A held cursor of the query, whose number is one more than k, still needs the node.
pub record IsHeld (engine : EngineState) (held : List Open) (k id : ℕ) : Type 0 where
  pub cursor : Open
  pub among : Contains held cursor
  pub query : cursor.query ≡ k + 1
  pub needs : NeedsNode engine cursor id

-- The nodes are bounded by the events at which an answer may start that the query will have, but for such as a held cursor of it still needs.
pub record IsFollowed (engine : EngineState) (events : List Event) (held : List Open) (k : ℕ) (q : Query) : Type 0 where
  pub number : ℕ
  pub bounded : IsBoundedBy (MayStartAt engine events q) engine (k + 1) number
  pub others : List ℕ
  pub distinct : HasNoRepeats others
  pub each : All (IsHeld engine held k) others
  pub whole : len_of engine (k + 1) ≤ number + length others

-- it is so for each query
abbrev pub FollowsWindow : EngineState → List Event → List Open → Type 0
FollowsWindow engine events held = (k : ℕ) (q : Query) → slice_get engine.queries k ≡ Some q → IsFollowed engine events held k q

-- The query reads the event at the position, which came after the first so many or is in the window of the last of these that it reads.
pub record IsRecentAt (schema : Declared) (q : Query) (events : List Event) (first position : ℕ) : Type 0 where
  pub clock : ℤ
  pub has : HasClockAt schema q events position clock
  pub recent : (first ≤ position) ⊎ ((now : ℤ) → IsLastClock schema q (take first events) now → low_of q.window now ≤ℤ clock)

-- All nodes are bounded by the events after the first so many, and those in the windows that these leave.
abbrev pub FollowsWindowSince : ℕ → EngineState → List Event → Type 0
FollowsWindowSince first engine events = (k : ℕ) (q : Query) → slice_get engine.queries k ≡ Some q →
    IsBoundedBy (IsRecentAt engine.schema q events first) engine (k + 1) (len_of engine (k + 1))

-- What an event that was taken has added: states and nodes, no more nodes than the states allow, none to a query that does not read it; the older nodes stay, with their greatest starts.
pub record HasAdded (old new : EngineState) (event : Event) : Type 0 where
  pub found : (query : ℕ) → found_of old query ≤ found_of new query
  pub growth : (query : ℕ) → len_of new query ≤ len_of old query + update_bound (found_of new query)
  pub unread : (k : ℕ) (q : Query) → slice_get old.queries k ≡ Some q → (Reads old.schema q event → ⊥) → len_of new (k + 1) ≡ len_of old (k + 1)
  pub later : (query position : ℕ) → later_of new query position + len_of old query ≤ later_of old query position + len_of new query
  pub peak : (query : ℕ) → peak_of new query ≡ max (peak_of old query) (len_of new query)

-- An engine that took no event has no node.
abbrev pub FirstFollowsWindow : Type 0
FirstFollowsWindow = (engine : EngineState) → StandsFor engine [] → IsDense engine [] × FollowsWindowSince 0 engine []

-- An event that the query reads pays for the nodes that it adds.
abbrev pub EventKeepsDense : Type 0
EventKeepsDense = (old new : EngineState) (events : List Event) (event : Event) →
    SameQueries old new → StandsFor new (events ++ event ∷ []) → HasAdded old new event → IsDense old events → IsDense new (events ++ event ∷ [])

abbrev pub EventKeepsWindow : Type 0
EventKeepsWindow = (old new : EngineState) (events : List Event) (event : Event) (first : ℕ) → first ≤ length events →
    SameQueries old new → StandsFor new (events ++ event ∷ []) → HasAdded old new event → FollowsWindowSince first old events → FollowsWindowSince first new (events ++ event ∷ [])

-- With no cursor held, a compaction leaves what the windows after all events so far ask for.
abbrev pub CompactedFollowsWindow : Type 0
CompactedFollowsWindow = (engine : EngineState) (events : List Event) → StandsFor engine events → FollowsWindow engine events [] → FollowsWindowSince (length events) engine events
