-- The clocks of an engine's queries: those that read the same types by the same attribute are a group, which has one clock.
use Rattle.std.specs.Prelude.{◌≡◌, ◌≢◌, ℕ, ◌+◌, ◌-◌, ◌<◌, ◌≤◌, ◌⊎◌, ℤ, pos, ◌≤ℤ◌, ◌<ℤ◌, Bool, true, false, List, [], ◌∷◌, length, map, drop, All, Vec, Option, Some, None, option_and_then, slice_get, slice_index_or, IfSome}
use Rattle.std.specs.Option.{option_map_or}
use Rattle.std.specs.declared.alloc.Global.{Global}
use Rattle.stream_schema.specs.Types.{Declared}
use Rattle.stream_schema.specs.declared.Event.{Event}
use Rattle.cel_terms.specs.declared.Query.{Query}
use Rattle.window_clock.specs.Places.{clock_in, IsOf}
use Rattle.query_standing.specs.Kept.{QueryStateStands}
use Rattle.query_standing.specs.Dormancy.{IsClockOf, ShareClock}
use Rattle.all_or_none.specs.Phases.{Phase, is_among, AreRising}
use Rattle.all_or_none.specs.Dormancy.{phase_at, HasTimes}
use Rattle.query_state.specs.QueryStates.{reads_type}
use Rattle.query_engine.specs.declared.falls.FallOf.{FallOf}
use Rattle.query_engine.specs.declared.times.Group.{Group}
use Rattle.query_engine.specs.declared.times.Times.{Times}

-- THE CLOCKS

-- the last clock of the group with this number, from 1
abbrev pub last_of : List Group → ℕ → Option ℤ
last_of groups number = option_and_then (λ (g : Group). g.clock.last) (slice_get groups (number - 1))

-- the last clock of each query, of which the number of its group is told
abbrev pub clocks_of : List Group → List ℕ → List (Option ℤ)
clocks_of groups numbers = map (last_of groups) numbers

abbrev pub clocks_in : Times → List (Option ℤ)
clocks_in times = clocks_of times.groups.items times.numbers.items

-- They are the clocks that the queries have after these events.
abbrev pub AreClocksOf : Declared → List Query → List Event → List (Option ℤ) → Type 0
AreClocksOf schema queries events clocks = (k : ℕ) (q : Query) → slice_get queries k ≡ Some q → IsClockOf schema q events (slice_index_or clocks k None)

-- the query state with this clock
abbrev pub with_clock : Option ℤ → Phase → Phase
with_clock clock p = record p { kept = record p.kept { clock = clock } }

-- each query state with its query's clock
abbrev pub with_clocks : List Phase → List (Option ℤ) → List Phase
with_clocks [] clocks = []
with_clocks (p ∷ query_states) clocks = with_clock (slice_index_or clocks 0 None) p ∷ with_clocks query_states (drop 1 clocks)

-- what the query states are after so many events, with these clocks
abbrev pub query_states_at : ℕ → List Phase → List (Option ℤ) → List Phase
query_states_at count query_states clocks = with_clocks (map (phase_at count) query_states) clocks

-- With its clock the query state is as it is after these events.
abbrev pub IsAfter : List Event → Phase → Type 0
IsAfter events p = QueryStateStands p.schema p.query events p.kept

-- THE GROUPS

-- whether the group reads the type, as its least query does
abbrev pub group_reads : Declared → List Query → ℕ → Group → Bool
group_reads schema queries ty g = option_map_or (λ (q : Query). reads_type schema q ty) (slice_get queries (g.query - 1)) false

-- The group's least query reads its clock where the group does, and each event that it reads has one. Where it is told that the clock is the position it is.
pub record IsGroupOf (schema : Declared) (queries : List Query) (g : Group) : Type 0 where
  pub first : Query
  pub numbered : 1 ≤ g.query
  pub at : slice_get queries (g.query - 1) ≡ Some first
  pub source : IsOf schema first.window g.clock.source
  pub times : HasTimes schema first
  pub implicit : g.implicit ≡ true → (event : Event) (p : ℕ) → clock_in g.clock.source event p ≡ Some (pos p)

-- The query, whose number is one more than k, is in the group with this number: it shares the clock of the group's least query.
pub record IsMember (schema : Declared) (queries : List Query) (groups : List Group) (k : ℕ) (q : Query) (number : ℕ) : Type 0 where
  pub group : Group
  pub numbered : 1 ≤ number
  pub at : slice_get groups (number - 1) ≡ Some group
  pub least : group.query ≤ k + 1
  pub shares : (first : Query) → slice_get queries (group.query - 1) ≡ Some first → ShareClock schema q first

-- before any event its clock is none
abbrev pub IsBlankGroup : Group → Type 0
IsBlankGroup g = g.clock.last ≡ None

-- the least query of each group is among the first so many
abbrev pub AreHeadsIn : ℕ → List Group → Type 0
AreHeadsIn count groups = All (λ (g : Group). (1 ≤ g.query) × (g.query ≤ count)) groups

-- the query state's query shares the clock of the least query of the group with this number
abbrev pub SharesWith : Phase → List Group → List Phase → ℕ → Type 0
SharesWith query_state groups query_states number = (g : Group) (p : Phase) → slice_get groups (number - 1) ≡ Some g → slice_get query_states (g.query - 1) ≡ Some p → ShareClock query_state.schema query_state.query p.query

-- The numbers, from 1 and rising, are exactly those of the first so many elements that pass the test.
pub record AreThose {A : Type 0} (test : A → Bool) (count : ℕ) (xs : List A) (numbers : List ℕ) : Type 0 where
  pub rising : AreRising numbers
  pub within : (n : ℕ) → is_among numbers n ≡ true → (1 ≤ n) × (n ≤ count)
  pub exact : (k : ℕ) (x : A) → k < count → slice_get xs k ≡ Some x → is_among numbers (k + 1) ≡ test x

-- each number, from 1, is that of a group
abbrev pub AreInside : List Group → List ℕ → Type 0
AreInside groups numbers = (k : ℕ) → k < length numbers → (1 ≤ slice_index_or numbers k 0) × (slice_index_or numbers k 0 ≤ length groups)

-- later groups have later least queries
abbrev pub AreInOrder : List Group → Type 0
AreInOrder groups = (i j : ℕ) (g h : Group) → i < j → slice_get groups i ≡ Some g → slice_get groups j ≡ Some h → g.query < h.query

-- Each of the first so many queries is in its group, and is the least one of a group only where it is in that.
pub record AreGroups (schema : Declared) (queries : List Query) (count : ℕ) (groups : List Group) (numbers : List ℕ) : Type 0 where
  pub long : length numbers ≡ count
  pub inside : AreInside groups numbers
  pub each : (g : Group) (n : ℕ) → slice_get groups n ≡ Some g → IsGroupOf schema queries g
  pub order : AreInOrder groups
  pub known : (g : Group) (n : ℕ) → slice_get groups n ≡ Some g → (g.query ≤ count) × (slice_index_or numbers (g.query - 1) 0 ≡ n + 1)
  pub members : (k : ℕ) (q : Query) → k < count → slice_get queries k ≡ Some q → IsMember schema queries groups k q (slice_index_or numbers k 0)

-- For each type the numbers are those of the groups that read it.
pub record AreByType (schema : Declared) (queries : List Query) (groups : List Group) (count : ℕ) (rows : List (Vec ℕ Global)) : Type 0 where
  pub long : length rows ≡ count
  pub each : (ty : ℕ) (row : Vec ℕ Global) → slice_get rows ty ≡ Some row → AreThose (group_reads schema queries ty) (length groups) groups row.items

-- The groups are those of all queries, and for each declared type it is known which of them read it.
pub record AreTimes (schema : Declared) (queries : List Query) (groups : List Group) (numbers : List ℕ) (rows : List (Vec ℕ Global)) : Type 0 where
  pub groups_are : AreGroups schema queries (length queries) groups numbers
  pub by_type : AreByType schema queries groups (length schema.types) rows

-- AN EVENT

-- the group once the event at the position has moved its clock
abbrev pub moved : Event → ℕ → Group → Group
moved event position g = record g { clock = record g.clock { last = clock_in g.clock.source event position } }

-- The groups of these numbers are moved, and the others are as they were.
pub record AreMoved (event : Event) (position : ℕ) (numbers : List ℕ) (old new : List Group) : Type 0 where
  pub count : length new ≡ length old
  pub named : (k : ℕ) (o n : Group) → slice_get old k ≡ Some o → slice_get new k ≡ Some n → is_among numbers (k + 1) ≡ true → n ≡ moved event position o
  pub others : (k : ℕ) → is_among numbers (k + 1) ≡ false → slice_get new k ≡ slice_get old k

-- it does not fall: it is the position, or that of the event is not before the last one
abbrev pub StaysInTime : Event → ℕ → Group → Type 0
StaysInTime event position g = (g.implicit ≡ true) ⊎ ((now : ℤ) → clock_in g.clock.source event position ≡ Some now → IfSome g.clock.last (λ before. before ≤ℤ now))

-- the numbers of the groups that read the type
abbrev pub row_of : List (Vec ℕ Global) → ℕ → List ℕ
row_of rows ty = option_map_or (λ (row : Vec ℕ Global). row.items) (slice_get rows ty) []

-- The numbers are of groups for which the event at the position has a clock.
abbrev pub HaveClocksIn : Event → ℕ → List Group → List ℕ → Type 0
HaveClocksIn event position groups numbers = (n : ℕ) → is_among numbers n ≡ true → (1 ≤ n) × (n ≤ length groups) × ((g : Group) → slice_get groups (n - 1) ≡ Some g → clock_in g.clock.source event position ≢ None)

-- Of the groups of these numbers this is the first whose clock falls, and so it does.
pub record IsFirstGroup (event : Event) (position : ℕ) (groups : List Group) (numbers : List ℕ) (f : FallOf) : Type 0 where
  pub number : ℕ
  pub group : Group
  pub among : is_among numbers number ≡ true
  pub at : slice_get groups (number - 1) ≡ Some group
  pub query : f.query ≡ group.query
  pub now_is : clock_in group.clock.source event position ≡ Some f.now
  pub before_is : group.clock.last ≡ Some f.before
  pub falls : f.now <ℤ f.before
  pub first : (n : ℕ) (g : Group) → n < number → is_among numbers n ≡ true → slice_get groups (n - 1) ≡ Some g → StaysInTime event position g

-- no clock of the groups of these numbers falls
abbrev pub StayInTime : Event → ℕ → List Group → List ℕ → Type 0
StayInTime event position groups numbers = (n : ℕ) (g : Group) → is_among numbers n ≡ true → slice_get groups (n - 1) ≡ Some g → StaysInTime event position g
