-- What happens to a query state when an event comes that it reads.
use Rattle.std.specs.Prelude.{◌≡◌, ◌≢◌, ℕ, ◌⊎◌, ◌<◌, ℤ, ◌≤ℤ◌, Bool, false, List, [], ◌∷◌, ◌++◌, length, All, Contains, Some, None, slice_get, IfSome}
use Rattle.std.specs.List.{IsDistinct}
use Rattle.stream_schema.specs.Types.{Declared}
use Rattle.stream_schema.specs.declared.Event.{Event}
use Rattle.stream_schema.specs.declared.Value.{Value}
use Rattle.cel_terms.specs.declared.Query.{Query}
use Rattle.cel_terms.specs.Answers.{HasKey, HasClock}
use Rattle.cer_base.specs.declared.node.Stamp.{Stamp}
use Rattle.cer_base.specs.declared.node.Node.TheVariants.{Bottom}
use Rattle.cer_base.specs.Nodes.{WellFormed}
use Rattle.cea_determinise.specs.Strict.{Standing, begin, next_standing}
use Rattle.cea_determinise.specs.Cea.{standing_of, HasLeavesBelow}
use Rattle.cea_determinise.specs.Keys.{are_same_sets}
use Rattle.cea_compile.specs.Compiled.{automaton_of}
use Rattle.query_leaves.specs.Expand.{tree_of}
use Rattle.event_update.specs.Reach.{Seen}
use Rattle.event_update.specs.Stands.{Stands}
use Rattle.event_update.specs.Dormancy.{AreDormant, IsSkipInsensitive}
use Rattle.query_standing.specs.Bounds.{IsMet}
use Rattle.query_standing.specs.Clocks.{Reads, least, low_of}
use Rattle.query_standing.specs.Keys.{leaves_reading, IsSeenAs}
use Rattle.query_standing.specs.Kept.{Rows, QueryState, low_at, Extends}

-- The event is read, its clock does not fall, and the low clock is a number of 128 bits; states and nodes are added, and no start but the event's own.
pub record Advances (schema : Declared) (q : Query) (events : List Event) (event : Event) (now : ℤ) (old new : QueryState) : Type 0 where
  pub reads : Reads schema q event
  pub now_is : HasClock schema q.window event (length events) now
  pub in_time : IfSome old.clock (λ before. before ≤ℤ now)
  pub clock : new.clock ≡ Some now
  pub extends : Extends old new
  pub met : All (λ p. IsMet schema q (events ++ event ∷ []) (standing_of p)) extends.more_states
  pub sets : All (HasLeavesBelow new.table.cea.size) new.table.states
  pub distinct : IsDistinct are_same_sets new.table.states
  pub well_formed : WellFormed new.nodes
  pub starts : (s : Stamp) → Contains new.nodes (Bottom s) → Contains old.nodes (Bottom s) ⊎ (s ≡ record { pos = length events; clock = now })

-- the event has no key: no list changes
pub record HasNoKey (schema : Declared) (q : Query) (event : Event) (old new : QueryState) : Type 0 where
  pub none : (key : List Value) → HasKey schema q event key → ⊥
  pub keys : new.keys ≡ old.keys
  pub rows : new.rows ≡ old.rows
  pub here : new.here ≡ None

-- the lists of the event's key are dormant, where that is kept
abbrev pub OwnListsAreDormant : Declared → Query → Event → QueryState → Type 0
OwnListsAreDormant schema q event old = (key : List Value) (number : ℕ) (rows : Rows) → HasKey schema q event key → slice_get old.keys number ≡ Some key → slice_get old.rows number ≡ Some rows → AreDormant old.table rows

-- No leaf can read the event, and the query's automaton is skip-insensitive or the lists of the event's key are dormant: no list changes, and there is no answer.
pub record LeavesLists (schema : Declared) (q : Query) (event : Event) (old new : QueryState) : Type 0 where
  pub unread : (k : ℕ) → leaves_reading schema q event k ≡ false
  pub is_dormant : IsSkipInsensitive (automaton_of (tree_of q)) q.strict ⊎ OwnListsAreDormant schema q event old
  pub table : new.table ≡ old.table
  pub keys : new.keys ≡ old.keys
  pub rows : new.rows ≡ old.rows
  pub here : new.here ≡ None

-- Leaves of the query may read the event, but it begins no match, and no match is open of its key, whether that is kept or not: no list changes, and there is no answer.
pub record BeginsNothing (schema : Declared) (q : Query) (event : Event) (old new : QueryState) : Type 0 where
  pub begins : (s : Standing) (mark : Bool) → next_standing (automaton_of (tree_of q)) q.strict begin (leaves_reading schema q event) mark ≡ Some s → ⊥
  pub empty : (key : List Value) (number : ℕ) (rows : Rows) → HasKey schema q event key → slice_get old.keys number ≡ Some key → slice_get old.rows number ≡ Some rows → rows ≡ []
  pub table : new.table ≡ old.table
  pub keys : new.keys ≡ old.keys
  pub rows : new.rows ≡ old.rows
  pub here : new.here ≡ None

-- The event has a known key: its lists alone change, and stand for one event more where they stood before.
pub record HasKeyOf (schema : Declared) (q : Query) (events : List Event) (event : Event) (now : ℤ) (old new : QueryState) : Type 0 where
  pub key : List Value
  pub has : HasKey schema q event key
  pub number : ℕ
  pub numbered : slice_get old.keys number ≡ Some key
  pub keys : new.keys ≡ old.keys
  pub here : new.here ≡ Some number
  pub count : length new.rows ≡ length old.rows
  pub others : (n : ℕ) → n ≢ number → slice_get new.rows n ≡ slice_get old.rows n
  pub before : Rows
  pub old_rows : slice_get old.rows number ≡ Some before
  pub after : Rows
  pub new_rows : slice_get new.rows number ≡ Some after
  pub seen : Seen
  pub stamp : seen.stamp ≡ record { pos = length events; clock = now }
  pub tells : IsSeenAs schema q event seen
  pub stands : (xs : List Seen) → All (λ (x : Seen). x.stamp.pos < length events) xs → Stands old.table (low_at q new.clock) xs old.nodes before
      → Stands new.table (low_at q new.clock) (xs ++ seen ∷ []) new.nodes after
