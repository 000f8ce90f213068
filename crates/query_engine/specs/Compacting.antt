-- What a compaction makes of an engine's query states and of the cursors that are held over it, and how many steps it takes.
use Rattle.std.specs.Prelude.{◌≡◌, ℕ, ◌+◌, ◌-◌, ◌*◌, ◌<◌, ◌≤◌, Bool, true, false, cond, Some, List, [], ◌∷◌, length, map, get_or, All, slice_get, slice_index_or}
use Rattle.std.specs.Option.{option_map_or}
use Rattle.stream_schema.specs.declared.Event.{Event}
use Rattle.cel_terms.specs.declared.Query.{Query}
use Rattle.cer_base.specs.declared.node.Node.{Node}
use Rattle.tecs_enumerate.specs.Remaining.{CursorState}
use Rattle.tecs_enumerate.specs.Remaining as walks
use Rattle.query_standing.specs.Kept.{QueryState, low_at}
use Rattle.all_or_none.specs.Phases.{Phase, IsIdle}
use Rattle.arena_compact.specs.Moves.{later}
use Rattle.arena_compact.specs.Roots.{places}
use Rattle.arena_compact.specs.Compacted.{IsLeftFor}
use Rattle.query_state.specs.Compacting.{AreRecent}
use Rattle.query_state.specs.Dropping.{HaveListsButOne}
use Rattle.query_state.specs.Matches.{HasStatesOnce}
use Rattle.query_state.specs.QueryStates.{HasEvents}
use Rattle.query_engine.specs.Bounds.{for_each_query}
use Rattle.query_engine.specs.Engine.{EngineState, len_of}
use Rattle.query_engine.specs.Times.{IsAfter}

-- how many entries the lists of the query's keys have
unfoldable pub places_of : EngineState → ℕ → ℕ
places_of engine query = option_map_or (λ (p : QueryState). places p.rows) (slice_get engine.query_states (query - 1)) 0

-- eight steps for each node of each query, and four for each entry of a list
abbrev pub compact_bounds : EngineState → ℕ
compact_bounds engine = for_each_query (length engine.queries) (λ k. 8 * len_of engine k + 4 * places_of engine k)

-- the steps that one query state may take
abbrev pub cost : Phase → ℕ
cost p = 8 * length p.kept.nodes + 4 * places p.kept.rows

-- WHICH QUERY STATES ARE COMPACTED
-- A list of flags tells it, by the query states' numbers from 0.

abbrev pub is_chosen : List Bool → ℕ → Bool
is_chosen chosen k = slice_index_or chosen k false

-- the steps that a compaction of these may take
abbrev pub cost_of : List Bool → List Phase → ℕ
cost_of chosen [] = 0
cost_of [] (p ∷ query_states) = 0
cost_of (flag ∷ chosen) (p ∷ query_states) = cond flag (cost p) 0 + cost_of chosen query_states

-- What is asked of a query state: it is idle, as it is for some events.
pub record CanCompact (p : Phase) : Type 0 where
  pub idle : IsIdle p
  pub events : HasEvents p

-- there is room for the nodes of each of the first k query states that is chosen
abbrev pub HaveRoomTo : List Bool → ℕ → ℕ → List Phase → Type 0
HaveRoomTo chosen room k query_states = (j : ℕ) (p : Phase) → j < k → slice_get query_states j ≡ Some p → is_chosen chosen j ≡ true → length p.kept.nodes ≤ room

-- and of all of them
abbrev pub HaveRoom : List Bool → ℕ → List Phase → Type 0
HaveRoom chosen room query_states = HaveRoomTo chosen room (length query_states) query_states

-- of the first k query states, in the lists of each one's keys no state stood twice, where it is chosen
abbrev pub AreOnce : List Bool → ℕ → List Phase → Type 0
AreOnce chosen k query_states = (j : ℕ) (p : Phase) → j < k → slice_get query_states j ≡ Some p → is_chosen chosen j ≡ true → All HasStatesOnce p.kept.rows

-- those of the first k query states that are not chosen are as they were
abbrev pub OthersStay : List Bool → ℕ → List Phase → List Phase → Type 0
OthersStay chosen k old new = (j : ℕ) (p : Phase) → j < k → slice_get old j ≡ Some p → is_chosen chosen j ≡ false → slice_get new j ≡ Some p

-- The query state of the same query is idle and stands for the same events, with the same states and no more nodes, also of those that start at a position or later. Both have their clocks.
pub record IsCompacted (old new : Phase) : Type 0 where
  pub schema : new.schema ≡ old.schema
  pub query : new.query ≡ old.query
  pub idle : IsIdle new
  pub upto : new.upto ≡ old.upto
  pub stands : (events : List Event) → IsAfter events old → IsAfter events new
  pub table : new.kept.table ≡ old.kept.table
  pub fewer : length new.kept.nodes ≤ length old.kept.nodes
  pub fewer_later : (position : ℕ) → later position new.kept.nodes ≤ later position old.kept.nodes

-- the nodes of the query state of this number, from 1
abbrev pub nodes_of : List Phase → ℕ → List Node
nodes_of query_states query = option_map_or (λ (p : QueryState). p.nodes) (slice_get (map (λ (p : Phase). p.kept) query_states) (query - 1)) []

-- the cursor is of a query state, and fits its nodes
abbrev pub FitsQueryState : List Phase → CursorState → Type 0
FitsQueryState query_states w = (1 ≤ w.query) × (w.query ≤ length (map (λ (p : Phase). p.kept) query_states)) × walks.Fits w (nodes_of query_states w.query)

-- Once the first k query states are compacted, a cursor of one of them fits, with the same left; the others are as they were.
pub record IsCarried (k : ℕ) (old new : List Phase) (w v : CursorState) : Type 0 where
  pub same : v ≡ record w { stack = v.stack }
  pub fits : w.query ≤ k → walks.Fits v (nodes_of new w.query)
  pub rest : w.query ≤ k → walks.rest v (nodes_of new w.query) ≡ walks.rest w (nodes_of old w.query)
  pub ahead : k < w.query → v ≡ w

-- Each node of the query state of this number, which has its clock, is left for its lists, and recent for its low clock, or for what a held cursor of it has left, and recent for this one. Each entry of a list is from the low clock on, and each key has a list, but for one at most.
pub record IsTrimmed (query : ℕ) (held : List CursorState) (q : Query) (p : QueryState) : Type 0 where
  pub left : (id : ℕ) → id < length p.nodes → IsLeftFor query (low_at q p.clock) p.nodes p.rows held id
  pub entries : AreRecent (low_at q p.clock) p.rows
  pub keys : HaveListsButOne p.rows

-- each of the first k query states that is chosen is trimmed
abbrev pub AreTrimmed : List Bool → ℕ → List CursorState → List Phase → Type 0
AreTrimmed chosen k held query_states = (j : ℕ) (p : Phase) → j < k → slice_get query_states j ≡ Some p → is_chosen chosen j ≡ true → IsTrimmed (j + 1) held p.query p.kept

-- Of each query only such nodes are left as its lists need from its low clock on, or a held cursor from its own on, of its entries those from its low clock on, and of its keys those that have a list, but for one at most.
abbrev pub IsLeft : EngineState → List CursorState → Type 0
IsLeft engine held = (k : ℕ) (q : Query) (p : QueryState) → slice_get engine.queries k ≡ Some q → slice_get engine.query_states k ≡ Some p → IsTrimmed (k + 1) held q p

-- likewise of those queries that are chosen
abbrev pub IsLeftOf : List Bool → EngineState → List CursorState → Type 0
IsLeftOf chosen engine held = (k : ℕ) (q : Query) (p : QueryState) → slice_get engine.queries k ≡ Some q → slice_get engine.query_states k ≡ Some p → is_chosen chosen k ≡ true → IsTrimmed (k + 1) held q p

-- the steps of a compaction of these: eight for each node, and four for each entry of a list
abbrev pub chosen_bounds : List Bool → EngineState → ℕ
chosen_bounds chosen engine = for_each_query (length engine.queries) (λ k. cond (is_chosen chosen (k - 1)) (8 * len_of engine k + 4 * places_of engine k) 0)

-- what is kept of the others is as it was
abbrev pub OthersAreKept : List Bool → EngineState → EngineState → Type 0
OthersAreKept chosen old new = (k : ℕ) (q : Query) → slice_get old.queries k ≡ Some q → is_chosen chosen k ≡ false → slice_get new.query_states k ≡ slice_get old.query_states k

-- As many cursors, in their order, each carried over.
pub record AreCarried (k : ℕ) (old new : List Phase) (ws vs : List CursorState) : Type 0 where
  pub count : length vs ≡ length ws
  pub each : (j : ℕ) (d : CursorState) → j < length ws → IsCarried k old new (get_or ws j d) (get_or vs j d)
