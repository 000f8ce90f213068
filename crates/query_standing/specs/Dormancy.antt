-- Events that are not brought to a query state: it stays as it is, and only the clock goes on, which queries share.
use Rattle.std.specs.Prelude.{◌≡◌, ℕ, suc, ◌-◌, ◌+◌, ◌<◌, ◌≤◌, ◌⊎◌, ◌↔◌, ℤ, ◌≤ℤ◌, Bool, false, ◌&&◌, List, [], ◌∷◌, ◌++◌, length, Contains, Option, Some, None, slice_get, IfSome, IfNone}
use Rattle.stream_schema.specs.Types.{Declared}
use Rattle.stream_schema.specs.declared.Event.{Event}
use Rattle.stream_schema.specs.declared.Value.{Value}
use Rattle.cel_terms.specs.declared.Query.{Query}
use Rattle.cel_terms.specs.Answers.{query_types, HasKey, HasClock}
use Rattle.cel_terms.specs.declared.Window.{Window}
use Rattle.query_leaves.specs.Expand.{tree_of}
use Rattle.cea_determinise.specs.Runs.{LeafSet}
use Rattle.cea_determinise.specs.Strict.{Standing, begin, next_standing}
use Rattle.cea_compile.specs.Compiled.{automaton_of}
use Rattle.event_update.specs.Dormancy.{IsSkipInsensitive}
use Rattle.query_standing.specs.Clocks.{Reads, NeverFalls, IsLastClock, FallsBack, NoneFallsBack, IsFirstToFall, least, low_of}
use Rattle.query_standing.specs.Keys.{leaves_reading}
use Rattle.query_standing.specs.Kept.{QueryState, QueryStateStands}
use Rattle.query_standing.specs.Steps.{OwnListsAreDormant, BeginsNothing}

-- the query state with another last clock, where it has no answer at the last event
abbrev pub after_no_ops : Option ℤ → QueryState → QueryState
after_no_ops clock query_state = record query_state { clock = clock; here = None }

-- the query reads the event, whose clock is not before the last one
pub record IsMoved (schema : Declared) (q : Query) (position : ℕ) (event : Event) (before after : Option ℤ) : Type 0 where
  pub reads : Reads schema q event
  pub now : ℤ
  pub now_is : HasClock schema q.window event position now
  pub in_time : IfSome before (λ b. b ≤ℤ now)
  pub after_is : after ≡ Some now

-- What an event at the position makes of the query's last clock, whatever becomes of its query state.
abbrev pub Moves : Declared → Query → ℕ → Event → Option ℤ → Option ℤ → Type 0
Moves schema q position event before after = ((Reads schema q event → ⊥) × (after ≡ before)) ⊎ IsMoved schema q position event before after

-- no leaf can read it, and the automaton is skip-insensitive or the lists of its key are dormant
pub record IsLetPass (schema : Declared) (q : Query) (event : Event) (query_state : QueryState) : Type 0 where
  pub unread : (k : ℕ) → leaves_reading schema q event k ≡ false
  pub is_dormant : IsSkipInsensitive (automaton_of (tree_of q)) q.strict ⊎ OwnListsAreDormant schema q event query_state

-- The event leaves the query state as it is: it has no key, no leaf can read it and it is let pass, or it begins nothing where no match is open.
abbrev pub IsNoOp : Declared → Query → Event → QueryState → Type 0
IsNoOp schema q event query_state = ((key : List Value) → HasKey schema q event key → ⊥) ⊎ (IsLetPass schema q event query_state ⊎ BeginsNothing schema q event query_state (record query_state { here = None }))

-- Each of the events, from the position on, leaves the query state as it is, and they move the clock from the first to the second.
abbrev pub AreNoOps : Declared → Query → QueryState → ℕ → Option ℤ → List Event → Option ℤ → Type 0
AreNoOps schema q query_state position before [] after = after ≡ before
AreNoOps schema q query_state position before (event ∷ later) after =
    (mid : Option ℤ) × Moves schema q position event before mid × (Reads schema q event → IsNoOp schema q event query_state) × AreNoOps schema q query_state (position + 1) mid later after

-- A query state that was last touched after the first events, and that the later ones leave as it is, stands for all of them with the clock that they moved.
abbrev pub NoOpsStand : Type 0
NoOpsStand = (schema : Declared) (q : Query) (events : List Event) (event : Event) (later : List Event) (query_state : QueryState) (clock : Option ℤ) →
    QueryStateStands schema q events query_state → AreNoOps schema q query_state (length events) query_state.clock (event ∷ later) clock → QueryStateStands schema q (events ++ event ∷ later) (after_no_ops clock query_state)

-- The clock is that of the last event that the query reads, or none where it reads none.
pub record IsClockOf (schema : Declared) (q : Query) (events : List Event) (clock : Option ℤ) : Type 0 where
  pub some : IfSome clock (IsLastClock schema q events)
  pub none : IfNone clock ((p : ℕ) (event : Event) → slice_get events p ≡ Some event → Reads schema q event → ⊥)

-- What is kept, which has no clock of its own, stands for the events with the clock that they have.
abbrev pub StandsWithClock : Declared → Query → List Event → QueryState → Type 0
StandsWithClock schema q events query_state = (clock : Option ℤ) × QueryStateStands schema q events (record query_state { clock = clock })

-- Where the query reads the event it has a clock, which does not fall.
pub record CanCome (schema : Declared) (q : Query) (events : List Event) (event : Event) : Type 0 where
  pub has : Reads schema q event → (now : ℤ) × HasClock schema q.window event (length events) now
  pub in_time : (before now : ℤ) → FallsBack schema q events event before now → ⊥

-- A query state that has no clock stands for one event more that leaves it as it is.
abbrev pub NoOpStands : Type 0
NoOpStands = (schema : Declared) (q : Query) (events : List Event) (event : Event) (query_state : QueryState) →
    StandsWithClock schema q events query_state → CanCome schema q events event → (Reads schema q event → IsNoOp schema q event query_state) →
    StandsWithClock schema q (events ++ event ∷ []) (record query_state { here = None })

-- With the clock of the events it stands as ever.
abbrev pub ClockIsGiven : Type 0
ClockIsGiven = (schema : Declared) (q : Query) (events : List Event) (query_state : QueryState) (clock : Option ℤ) → StandsWithClock schema q events query_state → IsClockOf schema q events clock → QueryStateStands schema q events (record query_state { clock = clock })

-- The clock of the events goes on with each.
abbrev pub ClockGoesOn : Type 0
ClockGoesOn = (schema : Declared) (q : Query) (events : List Event) (event : Event) (before after : Option ℤ) → IsClockOf schema q events before → Moves schema q (length events) event before after → IsClockOf schema q (events ++ event ∷ []) after

-- Where no leaf that may read the first event of a match is among these, they begin none.
abbrev pub OnlyFirstBegin : Type 0
OnlyFirstBegin = (q : Query) (bits : LeafSet) → ((k : ℕ) → (automaton_of (tree_of q)).first k && bits k ≡ false) →
    (s : Standing) (mark : Bool) → next_standing (automaton_of (tree_of q)) q.strict begin bits mark ≡ Some s → ⊥

-- The clock is a fact of the events: whatever stands for them has the same.
abbrev pub ClockIsOfEvents : Type 0
ClockIsOfEvents = (schema : Declared) (q : Query) (events : List Event) (one other : QueryState) → QueryStateStands schema q events one → QueryStateStands schema q events other → one.clock ≡ other.clock

-- the clock of the last event of the type
pub record IsLastOfType (schema : Declared) (window : Window) (events : List Event) (ty : ℕ) (clock : ℤ) : Type 0 where
  pub position : ℕ
  pub event : Event
  pub at : slice_get events position ≡ Some event
  pub type_is : event.ty ≡ ty
  pub clock_is : HasClock schema window event position clock
  pub last : (p : ℕ) (other : Event) → position < p → slice_get events p ≡ Some other → other.ty ≡ ty → ⊥

-- For each type that the query reads that clock is told, where there was an event of it.
pub record AreLasts (schema : Declared) (q : Query) (events : List Event) (lasts : ℕ → Option ℤ) : Type 0 where
  pub some : (ty : ℕ) (clock : ℤ) → Contains (query_types schema q.streams) ty → lasts ty ≡ Some clock → IsLastOfType schema q.window events ty clock
  pub none : (ty p : ℕ) (event : Event) → Contains (query_types schema q.streams) ty → lasts ty ≡ None → slice_get events p ≡ Some event → event.ty ≡ ty → ⊥

-- the greatest of those of the types
pub record IsGreatest (lasts : ℕ → Option ℤ) (types : List ℕ) (clock : ℤ) : Type 0 where
  pub ty : ℕ
  pub among : Contains types ty
  pub is : lasts ty ≡ Some clock
  pub all : (other : ℕ) (b : ℤ) → Contains types other → lasts other ≡ Some b → b ≤ℤ clock

-- The query's clock is the greatest last clock of its types, which do not fall: one clock for each type and attribute serves all queries.
abbrev pub GreatestIsLast : Type 0
GreatestIsLast = (schema : Declared) (q : Query) (events : List Event) (last : Option ℤ) (lasts : ℕ → Option ℤ) (clock : ℤ) →
    NeverFalls schema q events → IsClockOf schema q events last → AreLasts schema q events lasts → IsGreatest lasts (query_types schema q.streams) clock → last ≡ Some clock

-- The queries read the same events, and an event has the same clock for both.
pub record ShareClock (schema : Declared) (q r : Query) : Type 0 where
  pub reads : (event : Event) → Reads schema q event → Reads schema r event
  pub reads_back : (event : Event) → Reads schema r event → Reads schema q event
  pub clocks : (event : Event) (p : ℕ) (c : ℤ) → HasClock schema q.window event p c → HasClock schema r.window event p c
  pub clocks_back : (event : Event) (p : ℕ) (c : ℤ) → HasClock schema r.window event p c → HasClock schema q.window event p c

-- Such queries have the same last clock, and fall together.
abbrev pub LastClockIsShared : Type 0
LastClockIsShared = (schema : Declared) (q r : Query) (events : List Event) (c : ℤ) → ShareClock schema q r → IsLastClock schema q events c → IsLastClock schema r events c

abbrev pub FallIsShared : Type 0
FallIsShared = (schema : Declared) (q r : Query) (events : List Event) (event : Event) (before now : ℤ) → ShareClock schema q r → FallsBack schema q events event before now → FallsBack schema r events event before now

-- The number, from 1, is that of the least query of those that share the clock of the one at k.
pub record IsHeadOf (schema : Declared) (queries : List Query) (heads : List ℕ) (k : ℕ) (q : Query) : Type 0 where
  pub head : ℕ
  pub among : Contains heads head
  pub numbered : 1 ≤ head
  pub least : head ≤ k + 1
  pub first : Query
  pub at : slice_get queries (head - 1) ≡ Some first
  pub shares : ShareClock schema q first

-- each query has a head among these
abbrev pub AreHeads : Declared → List Query → List ℕ → Type 0
AreHeads schema queries heads = (k : ℕ) (q : Query) → slice_get queries k ≡ Some q → IsHeadOf schema queries heads k q

-- The first head to fall is the first query to fall.
abbrev pub FirstHeadFallsFirst : Type 0
FirstHeadFallsFirst = (schema : Declared) (queries : List Query) (events : List Event) (event : Event) (heads : List ℕ) (head : ℕ) (q : Query) (before now : ℤ) →
    AreHeads schema queries heads → 1 ≤ head → slice_get queries (head - 1) ≡ Some q → FallsBack schema q events event before now →
    ((other : ℕ) (r : Query) (b n : ℤ) → Contains heads other → other < head → slice_get queries (other - 1) ≡ Some r → FallsBack schema r events event b n → ⊥) →
    IsFirstToFall schema queries events event head before now

-- Where no head falls no query does.
abbrev pub NoHeadNoneFalls : Type 0
NoHeadNoneFalls = (schema : Declared) (queries : List Query) (events : List Event) (event : Event) (heads : List ℕ) → AreHeads schema queries heads →
    ((other : ℕ) (r : Query) (b n : ℤ) → Contains heads other → slice_get queries (other - 1) ≡ Some r → FallsBack schema r events event b n → ⊥) →
    NoneFallsBack schema queries events event
