-- One event over the query states of several queries, in two phases.
use Rattle.std.specs.Prelude.{◌≡◌, ◌≢◌, ℕ, ◌+◌, ◌<◌, ◌≤◌, ◌==◌, ◌⊎◌, ◌&&◌, ℤ, Bool, true, false, List, [], ◌∷◌, ◌++◌, length, All, Option, Some, None, IsSomeAnd, slice_get, slice_index_or}
use Rattle.std.specs.List.{AllZip, list_any}
use Rattle.stream_schema.specs.Types.{Declared}
use Rattle.stream_schema.specs.Events.{IsOfSchema}
use Rattle.stream_schema.specs.declared.Event.{Event}
use Rattle.cel_terms.specs.declared.Query.{Query}
use Rattle.query_standing.specs.Bounds.{update_bound, MeetAtMost}
use Rattle.cer_base.specs.Bits.{has, room_for}
use Rattle.query_leaves.specs.Expand.{tree_of}
use Rattle.query_leaves.specs.Leaves.{occurrences}
use Rattle.cea_compile.specs.Compiled.{automaton_of}
use Rattle.query_standing.specs.Clocks.{Reads, FallsBack}
use Rattle.query_standing.specs.Keys.{leaves_reading}
use Rattle.query_standing.specs.Kept.{QueryState, Extends, roots_at}
use Rattle.query_standing.specs.Dormancy.{StandsWithClock}
use Rattle.all_or_none.specs.declared.Activity.{Activity}

-- What a query state is seen as: its schema and query, what is kept, what a commit makes of that, where it is prepared, and how many events there were when the last one had come that was not a no-op for it. It has no clock: that is of the events.
pub record Phase : Type 0 where
  pub schema : Declared
  pub query : Query
  pub kept : QueryState
  pub ready : Option QueryState
  pub upto : ℕ

-- how many steps, and how many nodes, one event may take with the states of the query state
abbrev pub query_state_bound : QueryState → ℕ
query_state_bound query_state = update_bound (length query_state.table.states)

-- States and nodes are added, and no more nodes than the states allow; and one key at most. Where the query does not read the event no node and no key is.
pub record Grows (schema : Declared) (q : Query) (event : Event) (old new : QueryState) : Type 0 where
  pub extends : Extends old new
  pub growth : length new.nodes ≤ length old.nodes + query_state_bound new
  pub unread : (Reads schema q event → ⊥) → length new.nodes ≡ length old.nodes
  pub key : length new.keys ≤ length old.keys + 1
  pub no_key : (Reads schema q event → ⊥) → length new.keys ≡ length old.keys

-- What stands for the events becomes what stands for one more, where time does not fall.
pub record IsStep (schema : Declared) (q : Query) (event : Event) (position : ℕ) (old new : QueryState) : Type 0 where
  pub stands : (events : List Event) → length events ≡ position → ((before now : ℤ) → FallsBack schema q events event before now → ⊥) → StandsWithClock schema q events old → StandsWithClock schema q (events ++ event ∷ []) new
  pub grows : Grows schema q event old new

-- it is prepared for the event at the position
abbrev pub IsPrepared : Event → ℕ → Phase → Type 0
IsPrepared event position p = IsSomeAnd p.ready (IsStep p.schema p.query event position p.kept)

abbrev pub IsIdle : Phase → Type 0
IsIdle p = p.ready ≡ None

-- all but what a commit would make
abbrev pub back : Phase → Phase
back p = record p { ready = None }

-- after a commit of the event at the position
pub record IsCommitted (position : ℕ) (old new : Phase) : Type 0 where
  pub schema : new.schema ≡ old.schema
  pub query : new.query ≡ old.query
  pub kept : old.ready ≡ Some new.kept
  pub idle : new.ready ≡ None
  pub upto : new.upto ≡ position + 1

-- Where the last of so many events was a no-op for it, the query state has no answer there.
abbrev pub HasNoAnswer : ℕ → Phase → Type 0
HasNoAnswer count p = p.upto ≢ count → roots_at p.query p.kept ≡ []

-- The idle query state takes the event by being left as it is.
pub record IsNoOpFor (event : Event) (position : ℕ) (old new : Phase) : Type 0 where
  pub schema : new.schema ≡ old.schema
  pub query : new.query ≡ old.query
  pub was_idle : IsIdle old
  pub idle : IsIdle new
  pub quiet : roots_at new.query new.kept ≡ []
  pub upto : new.upto ≡ old.upto
  pub step : IsStep old.schema old.query event position old.kept new.kept

-- It is prepared for the event and its number is put in last, or the event is a no-op for it.
abbrev pub IsNoted : Event → ℕ → ℕ → Phase → Phase → List ℕ → List ℕ → Type 0
IsNoted event position number before after old new = (IsPrepared event position before × (new ≡ old ++ number ∷ [])) ⊎ (IsNoOpFor event position before after × (new ≡ old))

-- whether the number is among these
abbrev pub is_among : List ℕ → ℕ → Bool
is_among numbers number = list_any (λ n. n == number) numbers

-- each is greater than those before it
abbrev pub AreRising : List ℕ → Type 0
AreRising numbers = (i j : ℕ) → i < j → j < length numbers → slice_index_or numbers i 0 < slice_index_or numbers j 0

-- The numbers, from 1 and rising, are those of the first so many query states that are prepared; the event is a no-op for the others.
pub record AreSet {P : Type 0} (before after : P → Phase) (event : Event) (position count : ℕ) (numbers : List ℕ) (query_states : List P) : Type 0 where
  pub rising : AreRising numbers
  pub within : (n : ℕ) → is_among numbers n ≡ true → (1 ≤ n) × (n ≤ count)
  pub named : (k : ℕ) (p : P) → k < count → slice_get query_states k ≡ Some p → is_among numbers (k + 1) ≡ true → IsPrepared event position (before p)
  pub others : (k : ℕ) (p : P) → k < count → slice_get query_states k ≡ Some p → is_among numbers (k + 1) ≡ false → IsNoOpFor event position (before p) (after p)

-- The numbers, from 1 and rising, are those of query states, and no query state but these may have an answer.
pub record MayAnswer (numbers : List ℕ) (query_states : List Phase) : Type 0 where
  pub rising : AreRising numbers
  pub within : (n : ℕ) → is_among numbers n ≡ true → (1 ≤ n) × (n ≤ length query_states)
  pub others : (k : ℕ) (p : Phase) → slice_get query_states k ≡ Some p → is_among numbers (k + 1) ≡ false → roots_at p.query p.kept ≡ []

-- After the event: what was prepared is put in, and what may be left as it is was left.
abbrev pub IsTaken : Event → ℕ → Phase → Phase → Type 0
IsTaken event position old new = (IsPrepared event position old × IsCommitted position old new) ⊎ IsNoOpFor event position old new

-- What is kept of the query state's query is as it is after these events.
abbrev pub StandsAt : List Event → Phase → Type 0
StandsAt events p = StandsWithClock p.schema p.query events p.kept

abbrev pub InTime : List Event → Event → Phase → Type 0
InTime events event p = (before now : ℤ) → FallsBack p.schema p.query events event before now → ⊥

-- What is asked before an event: for some events the query state is as it is, the next one is of its schema and at their end, and its clock does not fall.
pub record CanPrepare (event : Event) (position : ℕ) (p : Phase) : Type 0 where
  pub events : List Event
  pub count : length events ≡ position
  pub of_schema : IsOfSchema p.schema event
  pub in_time : InTime events event p
  pub stands : StandsAt events p

-- The set is exactly that of the leaves of the query state's query that read the event, by their numbers, with the room that its leaves take.
pub record AreLeavesRead (event : Event) (leaves : List Bool) (p : Phase) : Type 0 where
  pub each : (k : ℕ) → has leaves k ≡ leaves_reading p.schema p.query event k
  pub room : length leaves ≡ room_for (length (occurrences (tree_of p.query)))

-- no leaf of the query state's query reads the event
abbrev pub IsUnread : Event → Phase → Type 0
IsUnread event p = (k : ℕ) → leaves_reading p.schema p.query event k ≡ false

-- none of those that may read the first event of a match does
abbrev pub BeginsNone : Event → Phase → Type 0
BeginsNone event p = (k : ℕ) → (automaton_of (tree_of p.query)).first k && leaves_reading p.schema p.query event k ≡ false

-- The query state is dormant: from the last event on that was not a no-op for it, each event that no leaf of its query reads is a no-op for it. It is told by what the query state is after each number of events.
pub record IsDormant (phase : ℕ → Phase) : Type 0 where
  pub passes : (event : Event) (position : ℕ) → (phase position).upto ≤ position → IsIdle (phase position) → CanPrepare event position (phase position) → IsUnread event (phase position) → IsNoOpFor event position (phase position) (phase (position + 1))

-- The query state has no open match: from the last event on that was not a no-op for it, each event that begins none is a no-op for it.
pub record IsEmpty (phase : ℕ → Phase) : Type 0 where
  pub passes : (event : Event) (position : ℕ) → (phase position).upto ≤ position → IsIdle (phase position) → CanPrepare event position (phase position) → BeginsNone event (phase position) → IsNoOpFor event position (phase position) (phase (position + 1))

-- There were at least as many events as up to the last one that was not a no-op for a query state. Each query state whose number, from 0, is not among the active ones is dormant, and each one whose number is not among the open ones has no open match. The active ones are among the open ones.
pub record AreLeft {P : Type 0} (phase : ℕ → P → Phase) (count : ℕ) (activity : Activity) (query_states : List P) : Type 0 where
  pub known : All (λ p. (phase count p).upto ≤ count) query_states
  pub others : (k : ℕ) (p : P) → slice_get query_states k ≡ Some p → has activity.active_queries k ≡ false → IsDormant (λ n. phase n p)
  pub empty : (k : ℕ) (p : P) → slice_get query_states k ≡ Some p → has activity.open_queries k ≡ false → IsEmpty (λ n. phase n p)
  pub within : (k : ℕ) → has activity.active_queries k ≡ true → has activity.open_queries k ≡ true

-- The query state of this number was looked at: which sets it is in tells what is known of it. The others are in those that they were in.
pub record IsLooked {P : Type 0} (phase : ℕ → P → Phase) (k : ℕ) (p : P) (old new : Activity) : Type 0 where
  pub rest : has new.active_queries k ≡ false → IsDormant (λ n. phase n p)
  pub empty : has new.open_queries k ≡ false → IsEmpty (λ n. phase n p)
  pub within : has new.active_queries k ≡ true → has new.open_queries k ≡ true
  pub others : (j : ℕ) → j ≢ k → (has new.active_queries j ≡ has old.active_queries j) × (has new.open_queries j ≡ has old.open_queries j)
  pub room : (length new.active_queries ≡ length old.active_queries) × (length new.open_queries ≡ length old.open_queries)

-- So were the query states of these numbers, from 1.
pub record AreLooked {P : Type 0} (phase : ℕ → P → Phase) (numbers : List ℕ) (old new : Activity) (query_states : List P) : Type 0 where
  pub rest : (k : ℕ) (p : P) → slice_get query_states k ≡ Some p → is_among numbers (k + 1) ≡ true → has new.active_queries k ≡ false → IsDormant (λ n. phase n p)
  pub empty : (k : ℕ) (p : P) → slice_get query_states k ≡ Some p → is_among numbers (k + 1) ≡ true → has new.open_queries k ≡ false → IsEmpty (λ n. phase n p)
  pub within : (k : ℕ) → is_among numbers (k + 1) ≡ true → has new.active_queries k ≡ true → has new.open_queries k ≡ true
  pub others : (k : ℕ) → is_among numbers (k + 1) ≡ false → (has new.active_queries k ≡ has old.active_queries k) × (has new.open_queries k ≡ has old.open_queries k)
  pub room : (length new.active_queries ≡ length old.active_queries) × (length new.open_queries ≡ length old.open_queries)

-- no leaf reads the event of the query of a query state whose number, from 0, is in the first set and not in the second
abbrev pub AreUnread : {P : Type 0} → (P → Phase) → Event → List Bool → List Bool → List P → Type 0
AreUnread phase event marked read query_states = (k : ℕ) (p : _) → slice_get query_states k ≡ Some p → has marked k ≡ true → has read k ≡ false → IsUnread event (phase p)

-- Of the query of a query state whose number, from 0, is not in the first set, no leaf reads the event; or the number is not in the second set, and the event begins no match.
abbrev pub AreSpared : {P : Type 0} → (P → Phase) → Event → List Bool → List Bool → List P → Type 0
AreSpared phase event marked open_queries query_states = (k : ℕ) (p : _) → slice_get query_states k ≡ Some p → has marked k ≡ false → IsUnread event (phase p) ⊎ ((has open_queries k ≡ false) × BeginsNone event (phase p))

-- the event is a no-op for the query states whose numbers, from 0, are not in the set
abbrev pub AreNoOps : {P : Type 0} → (ℕ → P → Phase) → Event → ℕ → List Bool → List P → Type 0
AreNoOps phase event position marked query_states = (k : ℕ) (p : _) → slice_get query_states k ≡ Some p → has marked k ≡ false → IsNoOpFor event position (phase position p) (phase (position + 1) p)

-- of each query state whose number is in the first set, the set of its number is that of the leaves of its query that read the event
abbrev pub AreRead : {P : Type 0} → (P → Phase) → Event → List Bool → List (List Bool) → List P → Type 0
AreRead phase event read leaves query_states = (k : ℕ) (p : _) → slice_get query_states k ≡ Some p → has read k ≡ true → AreLeavesRead event (slice_index_or leaves k []) (phase p)

-- the query states that are not in the set are as they were
abbrev pub AreUntouched : {P : Type 0} → List Bool → List P → List P → Type 0
AreUntouched marked old new = (k : ℕ) → has marked k ≡ false → slice_get new k ≡ slice_get old k

-- after each number of events the query state is what it was
abbrev pub IsUnchanged : {P : Type 0} → (ℕ → P → Phase) → P → P → Type 0
IsUnchanged phase old new = (count : ℕ) → phase count new ≡ phase count old

-- the query states whose numbers, from 1, are not among these are unchanged
abbrev pub AreUnchanged : {P : Type 0} → (ℕ → P → Phase) → List ℕ → List P → List P → Type 0
AreUnchanged phase numbers old new = (k : ℕ) (o n : _) → slice_get old k ≡ Some o → slice_get new k ≡ Some n → is_among numbers (k + 1) ≡ false → IsUnchanged phase o n

-- the numbers, from 1, are of query states that are in the set
abbrev pub AreOfMarked : List Bool → List ℕ → Type 0
AreOfMarked marked numbers = (k : ℕ) → is_among numbers (k + 1) ≡ true → has marked k ≡ true

-- The query states that are in the set are taken back, and the others are as they were.
pub record AreBack {P : Type 0} (phase : ℕ → P → Phase) (marked : List Bool) (old new : List P) : Type 0 where
  pub count : length new ≡ length old
  pub others : AreUntouched marked old new
  pub back : (k : ℕ) (o n : P) → slice_get old k ≡ Some o → slice_get new k ≡ Some n → has marked k ≡ true → (position : ℕ) → phase position n ≡ record (phase position o) { ready = None }

-- The query state of the same query has grown by the event.
pub record HasGrown (event : Event) (old new : Phase) : Type 0 where
  pub schema : new.schema ≡ old.schema
  pub query : new.query ≡ old.query
  pub grows : Grows old.schema old.query event old.kept new.kept

-- the steps that one event may take by what is ready
abbrev pub bound_of : Option QueryState → ℕ
bound_of None = 0
bound_of (Some query_state) = query_state_bound query_state

abbrev pub ready_bound : Phase → ℕ
ready_bound p = bound_of p.ready

-- and by what is kept
abbrev pub kept_bound : Phase → ℕ
kept_bound p = query_state_bound p.kept

-- the runs over the events and this one lead to at most so many states of the query
abbrev pub MeetsAtMost : List Event → Event → Phase → ℕ → Type 0
MeetsAtMost events event p most = MeetAtMost p.schema p.query (events ++ event ∷ []) most

-- However many states the runs lead to, the steps from before to after are bounded by them.
abbrev pub IsWithin : Event → ℕ → Phase → ℕ → ℕ → Type 0
IsWithin event position p before after = (events : List Event) (most : ℕ) → length events ≡ position → InTime events event p → StandsAt events p → MeetsAtMost events event p most → after ≤ before + update_bound most

-- The query states are as they are after the events, time does not fall, and the runs lead to at most so many states of each.
pub record AreBounded (events : List Event) (event : Event) (query_states : List Phase) (most : List ℕ) : Type 0 where
  pub in_time : All (InTime events event) query_states
  pub stands : All (StandsAt events) query_states
  pub each : AllZip (MeetsAtMost events event) query_states most
