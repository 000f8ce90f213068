-- Laws that tie a query state's events to its answers.
use Rattle.std.specs.Prelude.{◌≡◌, ℕ, suc, ◌-◌, ◌≤◌, ℤ, ◌≤ℤ◌, Bool, All, Contains, Option, None, List, [], ◌∷◌, ◌++◌, map, length, Some, slice_get}
use Rattle.stream_schema.specs.Types.{Declared}
use Rattle.stream_schema.specs.declared.Event.{Event}
use Rattle.stream_schema.specs.declared.Value.{Value}
use Rattle.cel_terms.specs.declared.Query.{Query}
use Rattle.cel_terms.specs.Answers.{Answer, IsAnswer, HasKey, HasClock, AreAnswersAt}
use Rattle.query_leaves.specs.Expand.{tree_of}
use Rattle.cer_base.specs.declared.node.Node.{Node}
use Rattle.cer_base.specs.Members.{Member}
use Rattle.cea_determinise.specs.Runs.{Automaton}
use Rattle.cea_determinise.specs.Strict.{Standing}
use Rattle.cea_determinise.specs.Cea as stored
use Rattle.cea_determinise.specs.LazyDfa.{Table, standing_at}
use Rattle.cea_compile.specs.Compiled.{automaton_of}
use Rattle.tecs_enumerate.specs.Remaining.{CursorState, rest, recent_of}
use Rattle.event_update.specs.Reach.{Seen}
use Rattle.event_update.specs.Stands.{Stands}
use Rattle.query_standing.specs.Bounds.{MeetAtMost}
use Rattle.query_standing.specs.Clocks.{Reads, HasClockAt, NeverFalls, low_of}
use Rattle.query_standing.specs.Keys.{AreSeen, IsSeenAs, IsGiven}
use Rattle.query_standing.specs.Holding.{Holds, answer_of, answers_in, dropped}
use Rattle.query_standing.specs.Kept.{Rows, QueryState, low_at, QueryStateStands, roots_of, roots_at, KeptState, KeptStands, kept_rest}
use Rattle.query_standing.specs.Giving.{AreRemoved}
use Rattle.query_standing.specs.Steps.{Advances, HasNoKey, LeavesLists, HasKeyOf}

-- Where the lists of a key hold what its events say, the recent members of accepting states are exactly the answers at the key's last event, each once.
abbrev pub HeldAreAnswers : Type 0
HeldAreAnswers = (schema : Declared) (q : Query) (events : List Event) (end : ℕ) (key : List Value) (now : ℤ) (xs : List Seen) (standing : ℕ → Standing) (low : ℤ) (rows : List (ℕ × List Member)) →
    IsGiven schema q events end key now xs → low ≡ low_of q.window now → Holds (automaton_of (tree_of q)) q.strict standing low xs rows →
    AreAnswersAt schema q events end (answers_in (automaton_of (tree_of q)) standing low rows)

-- The same over nodes: what a cursor on the entries of accepting states' lists gives.
abbrev pub NodesGiveAnswers : Type 0
NodesGiveAnswers = (schema : Declared) (q : Query) (events : List Event) (end : ℕ) (key : List Value) (now : ℤ) (xs : List Seen) (table : Table) (low : ℤ) (nodes : List Node) (rows : Rows) →
    IsGiven schema q events end key now xs → low ≡ low_of q.window now → stored.automaton_of_cea table.cea ≡ automaton_of (tree_of q) → table.cea.strict ≡ q.strict → Stands table low xs nodes rows →
    AreAnswersAt schema q events end (map answer_of (recent_of low nodes (roots_of (automaton_of (tree_of q)) (standing_at table.states) rows)))

-- Where the event at the end has no key there is no answer.
abbrev pub NoKeyNoAnswer : Type 0
NoKeyNoAnswer = (schema : Declared) (q : Query) (events : List Event) (end : ℕ) (last : Event) (answer : Answer) →
    slice_get events end ≡ Some last → ((key : List Value) → HasKey schema q last key → ⊥) → IsAnswer schema q events end answer → ⊥

-- An event of another key, or of none, leaves what is seen of a key's events; one of the key comes last.
abbrev pub OthersLeaveAKey : Type 0
OthersLeaveAKey = (schema : Declared) (q : Query) (events : List Event) (event : Event) (key : List Value) (xs : List Seen) →
    AreSeen schema q events key xs → (HasKey schema q event key → ⊥) → AreSeen schema q (events ++ event ∷ []) key xs

abbrev pub OneOfAKeyComesLast : Type 0
OneOfAKeyComesLast = (schema : Declared) (q : Query) (events : List Event) (event : Event) (key : List Value) (xs : List Seen) (x : Seen) →
    AreSeen schema q events key xs → HasKey schema q event key → x.stamp.pos ≡ length events → IsSeenAs schema q event x → AreSeen schema q (events ++ event ∷ []) key (xs ++ x ∷ [])

-- Where clocks do not fall, the low clock does not.
abbrev pub LowNeverFalls : Type 0
LowNeverFalls = (schema : Declared) (q : Query) (events : List Event) (i j : ℕ) (before now : ℤ) →
    NeverFalls schema q events → i ≤ j → HasClockAt schema q events i before → HasClockAt schema q events j now → low_of q.window before ≤ℤ low_of q.window now

-- What holds with one low clock holds with a later one.
abbrev pub HoldsLater : Type 0
HoldsLater = (a : Automaton) (strict : Bool) (standing : ℕ → Standing) (low later : ℤ) (xs : List Seen) (rows : List (ℕ × List Member)) →
    low ≤ℤ later → Holds a strict standing low xs rows → Holds a strict standing later xs rows

-- Members that start below the low clock may be dropped.
abbrev pub HoldsWithoutDropped : Type 0
HoldsWithoutDropped = (a : Automaton) (strict : Bool) (standing : ℕ → Standing) (low : ℤ) (xs : List Seen) (rows : List (ℕ × List Member)) →
    Holds a strict standing low xs rows → Holds a strict standing low xs (dropped low rows)

-- No answer at a later position starts below the low clock of an earlier event.
abbrev pub LaterAnswersStartLate : Type 0
LaterAnswersStartLate = (schema : Declared) (q : Query) (events : List Event) (i end : ℕ) (before now from : ℤ) (first : Event) (answer : Answer) →
    NeverFalls schema q events → i ≤ end → HasClockAt schema q events i before → HasClockAt schema q events end now → IsAnswer schema q events end answer →
    slice_get events answer.start ≡ Some first → HasClock schema q.window first answer.start from → low_of q.window before ≤ℤ from

-- A query state gives, by a cursor on the lists of the last event's key, exactly the answers there, each once.
abbrev pub KeptGivesAnswers : Type 0
KeptGivesAnswers = (schema : Declared) (q : Query) (events : List Event) (end : ℕ) (query_state : QueryState) →
    suc end ≡ length events → QueryStateStands schema q events query_state →
    AreAnswersAt schema q events end (map answer_of (recent_of (low_at q query_state.clock) query_state.nodes (roots_at q query_state)))

-- The same of the engine over nodes: what a cursor is still to give that was begun there.
abbrev pub KeptEngineGivesAnswers : Type 0
KeptEngineGivesAnswers = (engine : KeptState) (events : List Event) (end query : ℕ) (q : Query) (query_state : QueryState) (w : CursorState) →
    KeptStands engine events → suc end ≡ length events → slice_get engine.queries (query - 1) ≡ Some q → slice_get engine.query_states (query - 1) ≡ Some query_state → w.query ≡ query →
    rest w query_state.nodes ≡ recent_of (low_at q query_state.clock) query_state.nodes (roots_at q query_state) → AreAnswersAt engine.schema q events end (map answer_of (kept_rest engine w))

-- It stands for one event more: where the event is not read, where it has no key, where it leaves the lists of its key as they are, and where it has a known key.
abbrev pub KeptPassesUnread : Type 0
KeptPassesUnread = (schema : Declared) (q : Query) (events : List Event) (event : Event) (query_state : QueryState) →
    QueryStateStands schema q events query_state → (Reads schema q event → ⊥) → QueryStateStands schema q (events ++ event ∷ []) (record query_state { here = None })

-- Many events that are not read, as blank ones after a skip.
abbrev pub KeptSkips : Type 0
KeptSkips = (schema : Declared) (q : Query) (events : List Event) (event : Event) (later : List Event) (query_state : QueryState) →
    QueryStateStands schema q events query_state → (Reads schema q event → ⊥) → All (λ e. Reads schema q e → ⊥) later → QueryStateStands schema q (events ++ event ∷ later) (record query_state { here = None })

abbrev pub KeptPassesWithoutKey : Type 0
KeptPassesWithoutKey = (schema : Declared) (q : Query) (events : List Event) (event : Event) (now : ℤ) (old new : QueryState) →
    QueryStateStands schema q events old → Advances schema q events event now old new → HasNoKey schema q event old new → QueryStateStands schema q (events ++ event ∷ []) new

abbrev pub KeptPassesDormant : Type 0
KeptPassesDormant = (schema : Declared) (q : Query) (events : List Event) (event : Event) (now : ℤ) (old new : QueryState) →
    QueryStateStands schema q events old → Advances schema q events event now old new → LeavesLists schema q event old new → QueryStateStands schema q (events ++ event ∷ []) new

abbrev pub KeptAdvances : Type 0
KeptAdvances = (schema : Declared) (q : Query) (events : List Event) (event : Event) (now : ℤ) (old new : QueryState) →
    QueryStateStands schema q events old → Advances schema q events event now old new → HasKeyOf schema q events event now old new → QueryStateStands schema q (events ++ event ∷ []) new

-- A key that is not kept may be put in with no list, before the event comes.
abbrev pub KeptTakesAKey : Type 0
KeptTakesAKey = (schema : Declared) (q : Query) (events : List Event) (query_state : QueryState) (key : List Value) →
    QueryStateStands schema q events query_state → (Contains query_state.keys key → ⊥) → QueryStateStands schema q events (record query_state { keys = query_state.keys ++ key ∷ []; rows = query_state.rows ++ [] ∷ [] })

-- Keys without lists may be removed, but not the last event's.
abbrev pub KeptRemovesKeys : Type 0
KeptRemovesKeys = (schema : Declared) (q : Query) (events : List Event) (query_state : QueryState) (keys : List (List Value)) (rows : List Rows) (here : Option ℕ) →
    QueryStateStands schema q events query_state → AreRemoved query_state.keys query_state.rows query_state.here keys rows here → QueryStateStands schema q events (record query_state { keys = keys; rows = rows; here = here })

-- So many states are kept as runs over the events lead to, at most.
abbrev pub StatesAreMet : Type 0
StatesAreMet = (schema : Declared) (q : Query) (events : List Event) (query_state : QueryState) (n : ℕ) →
    QueryStateStands schema q events query_state → MeetAtMost schema q events n → length query_state.table.states ≤ n
