-- What the engine keeps of a query, over nodes: what it is that this stands for the events. After "CORE: a Complex Event Recognition Engine" (PVLDB 2022).
use Rattle.std.specs.Prelude.{◌≡◌, ℕ, ◌+◌, ◌-◌, ◌≤◌, ◌⊎◌, ℤ, List, [], ◌++◌, length, Contains, All, Option, Some, None, slice_get, slice_index_or, IfSome, IfNone}
use Rattle.std.specs.List.{flat_map, IsDistinct}
use Rattle.std.specs.Option.{option_map_or}
use Rattle.stream_schema.specs.Types.{Declared}
use Rattle.stream_schema.specs.declared.Event.{Event}
use Rattle.stream_schema.specs.declared.Value.{Value}
use Rattle.cel_terms.specs.declared.Query.{Query}
use Rattle.cel_terms.specs.Answers.{Answer, IsAnswer}
use Rattle.query_leaves.specs.Expand.{tree_of}
use Rattle.cer_base.specs.declared.node.Stamp.{Stamp}
use Rattle.cer_base.specs.declared.node.Root.{Root}
use Rattle.cer_base.specs.declared.node.Node.{Node}
use Rattle.cer_base.specs.declared.node.Node.TheVariants.{Bottom}
use Rattle.cer_base.specs.Repeats.{HasNoRepeats}
use Rattle.cer_base.specs.Members.{Member}
use Rattle.cer_base.specs.Nodes.{WellFormed}
use Rattle.tecs_enumerate.specs.Remaining.{CursorState, rest}
use Rattle.tecs_enumerate.specs.Remaining as walks
use Rattle.cea_determinise.specs.declared.cea.StateSets.{StateSets}
use Rattle.cea_determinise.specs.Runs.{Automaton}
use Rattle.cea_determinise.specs.Strict.{Standing}
use Rattle.cea_determinise.specs.LazyDfa.{Table, standing_at}
use Rattle.cea_determinise.specs.Cea.{standing_of, HasLeavesBelow}
use Rattle.cea_determinise.specs.Keys.{are_same_sets}
use Rattle.cea_determinise.specs.Cea as stored
use Rattle.cea_compile.specs.Compiled.{automaton_of}
use Rattle.event_update.specs.Reach.{Seen}
use Rattle.event_update.specs.Stands.{Stands}
use Rattle.event_update.specs.Dormancy.{IsSkipInsensitive, IsSilent}
use Rattle.query_standing.specs.Bounds.{IsMet}
use Rattle.query_standing.specs.Clocks.{Reads, HasClockAt, NeverFalls, IsLastClock, least, low_of}
use Rattle.query_standing.specs.Keys.{AreSeen, HasKeyAt}
use Rattle.query_standing.specs.Holding.{accepting}

-- the lists of a key's states, by the states' numbers
abbrev pub Rows : Type 0
Rows = List (ℕ × List Root)

-- What is kept of one query: its states, its nodes, its keys in the order in which they came with the lists of each, the clock of the last event that it reads, and the number of the key of the last event of all, where that may have an answer.
pub record QueryState : Type 0 where
  pub table : Table
  pub nodes : List Node
  pub keys : List (List Value)
  pub rows : List Rows
  pub clock : Option ℤ
  pub here : Option ℕ

-- the clock below which no start is asked for
abbrev pub low_at : Query → Option ℤ → ℤ
low_at q None = least
low_at q (Some now) = low_of q.window now

-- For what is seen of the key's events the lists stand, as the update says.
pub record KeyStands (schema : Declared) (q : Query) (events : List Event) (query_state : QueryState) (key : List Value) (rows : Rows) : Type 0 where
  pub seen : List Seen
  pub are_seen : AreSeen schema q events key seen
  pub stands : Stands query_state.table (low_at q query_state.clock) seen query_state.nodes rows

-- The lists stand for what is seen of the key's first events. What came after those no leaf can read, and a skip-insensitive automaton has let it pass: after a later event the lists are the same.
pub record KeyIsKept (schema : Declared) (q : Query) (events : List Event) (query_state : QueryState) (key : List Value) (rows : Rows) : Type 0 where
  pub taken : List Seen
  pub no_op : List Seen
  pub are_seen : AreSeen schema q events key (taken ++ no_op)
  pub silent : All IsSilent no_op
  pub skip_insensitive : (no_op ≡ []) ⊎ IsSkipInsensitive (automaton_of (tree_of q)) q.strict
  pub stands : Stands query_state.table (low_at q query_state.clock) taken query_state.nodes rows

-- the states are the query's, and runs over the events meet each
pub record HasStates (schema : Declared) (q : Query) (events : List Event) (t : Table) : Type 0 where
  pub automaton : stored.automaton_of_cea t.cea ≡ automaton_of (tree_of q)
  pub strict : t.cea.strict ≡ q.strict
  pub sets : All (HasLeavesBelow t.cea.size) t.states
  pub distinct : IsDistinct are_same_sets t.states
  pub met : All (λ p. IsMet schema q events (standing_of p)) t.states

-- No key is kept twice, and one that is not kept stands with no list: what its events say leaves no match open.
pub record HasKeys (schema : Declared) (q : Query) (events : List Event) (query_state : QueryState) : Type 0 where
  pub distinct : HasNoRepeats query_state.keys
  pub others : (key : List Value) → (Contains query_state.keys key → ⊥) → KeyStands schema q events query_state key []
  pub lists : length query_state.rows ≡ length query_state.keys

-- the number of the last event's key; where none is told, there is no answer at that event
abbrev pub IsHere : Declared → Query → List Event → List (List Value) → Option ℕ → Type 0
IsHere schema q events keys None = (end : ℕ) (answer : Answer) → end + 1 ≡ length events → IsAnswer schema q events end answer → ⊥
IsHere schema q events keys (Some n) = (key : List Value) × (p : ℕ) × (p + 1 ≡ length events) × HasKeyAt schema q events key p × (slice_get keys n ≡ Some key)

-- every start in the nodes is an event that the query reads, with its clock
abbrev pub HaveStarts : Declared → Query → List Event → List Node → Type 0
HaveStarts schema q events nodes = (s : Stamp) → Contains nodes (Bottom s) → HasClockAt schema q events s.pos s.clock

-- What is kept of the query is as it is after these events: of each key, and with all its events of the last event's.
pub record QueryStateStands (schema : Declared) (q : Query) (events : List Event) (query_state : QueryState) : Type 0 where
  pub states : HasStates schema q events query_state.table
  pub nodes : WellFormed query_state.nodes
  pub starts : HaveStarts schema q events query_state.nodes
  pub never_falls : NeverFalls schema q events
  pub clock : IfSome query_state.clock (IsLastClock schema q events)
  pub unread : IfNone query_state.clock ((p : ℕ) (event : Event) → slice_get events p ≡ Some event → Reads schema q event → ⊥)
  pub keys : HasKeys schema q events query_state
  pub here : IsHere schema q events query_state.keys query_state.here
  pub each : (n : ℕ) (key : List Value) (rows : Rows) → slice_get query_state.keys n ≡ Some key → slice_get query_state.rows n ≡ Some rows → KeyIsKept schema q events query_state key rows
  pub last : (n : ℕ) (key : List Value) (rows : Rows) → query_state.here ≡ Some n → slice_get query_state.keys n ≡ Some key → slice_get query_state.rows n ≡ Some rows → KeyStands schema q events query_state key rows

-- the entries of the lists of accepting states, in order
abbrev pub roots_of : Automaton → (ℕ → Standing) → Rows → List Root
roots_of a standing rows = flat_map (λ (r : ℕ × List Root). r.1) (accepting a standing rows)

-- where a cursor begins that is opened now: at the lists of the last event's key, or nowhere
abbrev pub roots_for : Query → QueryState → Option ℕ → List Root
roots_for q query_state None = []
roots_for q query_state (Some n) = roots_of (automaton_of (tree_of q)) (standing_at query_state.table.states) (slice_index_or query_state.rows n [])

abbrev pub roots_at : Query → QueryState → List Root
roots_at q query_state = roots_for q query_state query_state.here

-- the new query state has all states and nodes of the old one, as they were
pub record Extends (old new : QueryState) : Type 0 where
  pub cea : new.table.cea ≡ old.table.cea
  pub more_states : List StateSets
  pub states : new.table.states ≡ old.table.states ++ more_states
  pub more_nodes : List Node
  pub nodes : new.nodes ≡ old.nodes ++ more_nodes

-- What contracts see of the engine over nodes: a query state for each query.
pub record KeptState : Type 0 where
  pub schema : Declared
  pub queries : List Query
  pub count : ℕ
  pub query_states : List QueryState

-- The engine over nodes is as it is after these events.
pub record KeptStands (engine : KeptState) (events : List Event) : Type 0 where
  pub count : engine.count ≡ length events
  pub query_states : length engine.query_states ≡ length engine.queries
  pub each : (k : ℕ) (q : Query) (query_state : QueryState) → slice_get engine.queries k ≡ Some q → slice_get engine.query_states k ≡ Some query_state → QueryStateStands engine.schema q events query_state

-- the nodes of the query with this number, from 1
abbrev pub nodes_at : KeptState → ℕ → List Node
nodes_at engine query = option_map_or (λ (p : QueryState). p.nodes) (slice_get engine.query_states (query - 1)) []

-- a cursor over nodes: the answers that are still to come
abbrev pub kept_rest : KeptState → CursorState → List Member
kept_rest engine w = rest w (nodes_at engine w.query)

abbrev pub KeptFits : KeptState → CursorState → Type 0
KeptFits engine w = (1 ≤ w.query) × (w.query ≤ length engine.query_states) × walks.Fits w (nodes_at engine w.query)
