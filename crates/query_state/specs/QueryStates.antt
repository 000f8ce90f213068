-- A query state while an event is prepared: it is still seen as what it was, and what a commit makes of it is told.
use Rattle.std.specs.Prelude.{◌≡◌, ◌≢◌, ℕ, ◌<◌, ◌==◌, ℤ, Bool, true, false, ◌||◌, List, [], length, map, All, Option, Some, None, slice_set, slice_index_or}
use Rattle.std.specs.List.{list_any}
use Rattle.stream_schema.specs.Types.{Declared}
use Rattle.stream_schema.specs.Events.{IsOfSchema}
use Rattle.stream_schema.specs.declared.Event.{Event}
use Rattle.cel_terms.specs.declared.Query.{Query}
use Rattle.cel_terms.specs.declared.Window.{Window}
use Rattle.cel_terms.specs.declared.Name.{Name}
use Rattle.cel_terms.specs.Answers.{query_types}
use Rattle.query_leaves.specs.Expand.{tree_of}
use Rattle.cea_determinise.specs.Runs.{Automaton}
use Rattle.cea_determinise.specs.Cea.{automaton_of_cea}
use Rattle.cea_compile.specs.Compiled.{automaton_of}
use Rattle.all_or_none.specs.Phases.{Phase, StandsAt}
use Rattle.all_or_none.specs.Dormancy.{phase_at}
use Rattle.query_leaves.specs.Leaves.{occurrences}
use Rattle.cer_base.specs.Bits.{has, room_for}
use Rattle.event_update.specs.declared.Staged.{Staged}
use Rattle.event_update.specs.Update.{rows_after}
use Rattle.event_update.specs.Dormancy.{IsSkipInsensitive}
use Rattle.window_clock.specs.declared.Source.{Source}
use Rattle.window_clock.specs.Places.{Seen, clock_in, IsOf, HasWidth}
use Rattle.query_standing.specs.Clocks.{Reads}
use Rattle.query_standing.specs.Kept.{QueryState, QueryStateStands}
use Rattle.query_state.specs.declared.state.Step.{Step}
use Rattle.query_state.specs.declared.state.Step.TheVariants.{NoChange, Keyed}
use Rattle.query_state.specs.KeyPlaces.{AreKeyPlaces}
use Rattle.query_state.specs.Matches.{OpenMatches, none_open, cut, CanCut}
use Rattle.query_state.specs.declared.matches.Ready.{Ready}
use Rattle.query_state.specs.declared.matches.Sizes.{Sizes}

abbrev pub query_state_of : OpenMatches → Option ℤ → Option ℕ → QueryState
query_state_of h clock here = record { table = h.table; nodes = h.nodes; keys = h.keys; rows = h.rows; clock = clock; here = here }

-- the lists of a key are put in place
abbrev pub put_in : ℕ → Staged → OpenMatches → OpenMatches
put_in number staged h = record h { rows = slice_set h.rows number (rows_after (slice_index_or h.rows number []) staged) }

-- What it was before the event was prepared. It keeps no clock: that is of the events.
abbrev pub kept_of : Option Step → Option Ready → Sizes → OpenMatches → Option ℕ → QueryState
kept_of None ready sizes h here = query_state_of h None here
kept_of (Some NoChange) ready sizes h here = query_state_of h None here
kept_of (Some Keyed) None sizes h here = query_state_of h None here
kept_of (Some Keyed) (Some r) sizes h here = query_state_of (cut sizes h) None here

-- what a commit makes of it
abbrev pub ready_of : Option Step → Option Ready → OpenMatches → Option ℕ → Option QueryState
ready_of None ready h here = None
ready_of (Some NoChange) ready h here = Some (query_state_of h None None)
ready_of (Some Keyed) None h here = None
ready_of (Some Keyed) (Some r) h here = Some (query_state_of (put_in r.number r.staged h) None (Some r.number))

-- what was prepared can be put in, and taken back
abbrev pub CanEnd : Option Step → Option Ready → Sizes → OpenMatches → Type 0
CanEnd None ready sizes h = Unit {0}
CanEnd (Some NoChange) ready sizes h = Unit {0}
CanEnd (Some Keyed) None sizes h = Unit {0}
CanEnd (Some Keyed) (Some r) sizes h = CanCut sizes h × (r.number < length h.rows)

-- what the query state is after so many events, as one for which the last of them was not a no-op
abbrev pub woken : ℕ → Phase → Phase
woken count p = record (phase_at count p) { upto = count }

-- With this clock what is kept of the query state's query is as it is after these events.
abbrev pub StandsWith : Option ℤ → List Event → Phase → Type 0
StandsWith clock events p = QueryStateStands p.schema p.query events (record p.kept { clock = clock })

-- The set is that of the leaves that may read the first event of a match.
pub record AreFirst (q : Query) (first : List Bool) : Type 0 where
  pub are : (k : ℕ) → (automaton_of (tree_of q)).first k ≡ has first k
  pub room : length first ≡ room_for (length (occurrences (tree_of q)))

-- where the query is told to be whole, which has no partition, the key of each event has no values
abbrev pub MayBeWhole : Declared → List (Option (List ℕ)) → Bool → Type 0
MayBeWhole schema places whole = whole ≡ true → (ty : ℕ) → ty < length schema.types → slice_index_or places ty None ≡ Some []

-- where the query's automaton is told to be skip-insensitive, it is
abbrev pub MayBeSkipInsensitive : Query → Bool → Type 0
MayBeSkipInsensitive q skip_insensitive = skip_insensitive ≡ true → IsSkipInsensitive (automaton_of (tree_of q)) q.strict

-- the texts of names, which are all that these mean
abbrev pub texts_of : List Name → List (List ℕ)
texts_of names = map (λ (n : Name). n.text) names

-- whether one of the query's streams has the type
abbrev pub reads_type : Declared → Query → ℕ → Bool
reads_type schema q ty = list_any (λ t. t == ty) (query_types schema q.streams)

-- the table tells for each type whether the query reads it
abbrev pub AreTypesRead : Declared → Query → List Bool → Type 0
AreTypesRead schema q table = (ty : ℕ) → ty < length schema.types → slice_index_or table ty false ≡ reads_type schema q ty

-- The table with those types marked too that the test tells.
pub record AreMarked (told : ℕ → Bool) (old new : List Bool) : Type 0 where
  pub count : length new ≡ length old
  pub each : (ty : ℕ) → ty < length old → slice_index_or new ty false ≡ (slice_index_or old ty false || told ty)

-- No match is open, and the automaton is this one.
pub record HasAutomaton (a : Automaton) (is_strict : Bool) (h : OpenMatches) : Type 0 where
  pub automaton : automaton_of_cea h.table.cea ≡ a
  pub strict : h.table.cea.strict ≡ is_strict
  pub none : h ≡ none_open h.table.cea

-- The set is empty and has room for the query's leaves, and no match is open of the query's automaton.
pub record IsMatcherOf (q : Query) (none : List Bool) (h : OpenMatches) : Type 0 where
  pub size : h.table.cea.size ≡ length (occurrences (tree_of q))
  pub empty : (k : ℕ) → has none k ≡ false
  pub room : length none ≡ room_for h.table.cea.size
  pub matches : HasAutomaton (automaton_of (tree_of q)) q.strict h

-- The clock of a query with this window, with no event seen.
pub record IsFirstClock (schema : Declared) (window : Window) (clock : Seen) : Type 0 where
  pub source : IsOf schema window clock.source
  pub blank : clock.last ≡ None

-- each event that the query reads has a clock
abbrev pub HaveClocks : Declared → Query → Source → Type 0
HaveClocks schema q source = (event : Event) (p : ℕ) → IsOfSchema schema event → Reads schema q event → clock_in source event p ≢ None

-- The tables are those of the query, and the set is empty.
pub record IsMade (schema : Declared) (q : Query) (table : List Bool) (places : List (Option (List ℕ))) (source : Source) (none : List Bool) (h : OpenMatches) : Type 0 where
  pub types : AreTypesRead schema q table
  pub keys : AreKeyPlaces schema q places
  pub clock : IsOf schema q.window source
  pub clocks : HaveClocks schema q source
  pub size : h.table.cea.size ≡ length (occurrences (tree_of q))
  pub empty : (k : ℕ) → has none k ≡ false
  pub room : length none ≡ room_for h.table.cea.size

-- For some events the query state is as it is.
pub record HasEvents (p : Phase) : Type 0 where
  pub events : List Event
  pub stands : StandsAt events p

-- What is asked of a query's window, and of the query states that its clock may be shared with: they are of the same schema.
pub record CanShare (schema : Declared) (window : Window) (others : List Phase) : Type 0 where
  pub wide : HasWidth window
  pub others_are : All (λ (p : Phase). p.schema ≡ schema) others
