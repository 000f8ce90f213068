-- The open matches of a query, key by key, and what a key's event makes of them.
use Rattle.std.specs.Prelude.{◌≡◌, ℕ, suc, ◌+◌, ◌*◌, ℤ, ◌≤ℤ◌, ◌<◌, ◌≤◌, ◌⊎◌, Bool, true, false, ◌&&◌, if◌then◌else◌, List, [], ◌∷◌, ◌++◌, length, map, take, All, Contains, Option, Some, None, Result, IfSome, IfNone, MatchOption, OnOk, OnErr, slice_get, slice_index_or, nat_eq}
use Rattle.std.specs.List.{IsDistinct}
use Rattle.stream_schema.specs.declared.Value.{Value}
use Rattle.cer_base.specs.Bits.{has, room_for}
use Rattle.cer_base.specs.declared.node.Stamp.{Stamp}
use Rattle.cer_base.specs.declared.node.Root.{Root}
use Rattle.cer_base.specs.declared.node.Node.{Node}
use Rattle.cer_base.specs.declared.node.Node.TheVariants.{Bottom}
use Rattle.cer_base.specs.declared.Memory.{Memory}
use Rattle.cer_base.specs.Nodes.{AreInStep, WellFormed}
use Rattle.cer_base.specs.Repeats.{HasNoRepeats}
use Rattle.cea_determinise.specs.declared.cea.Cea.{Cea}
use Rattle.cea_determinise.specs.LazyDfa.{Table, StaysWithin, IsSound}
use Rattle.cea_determinise.specs.Cea.{HasLeavesBelow}
use Rattle.cea_determinise.specs.Keys.{are_same_sets}
use Rattle.event_update.specs.declared.Staged.{Staged}
use Rattle.event_update.specs.Reach.{Seen}
use Rattle.event_update.specs.Stands.{seen, IsLater, Stands, CanAdvance}
use Rattle.event_update.specs.Update.{Discovers, GrowsBy, rows_after, work_bound, IsWithinWork, accepted_entries}
use Rattle.tecs_enumerate.specs.Remaining.{CursorState, rest, Fits}
use Rattle.query_standing.specs.Kept.{Rows}
use Rattle.event_update.specs.Dormancy.{HasNoReader, IsDormantState, AreDormant, AreNoOp}
use Rattle.partition_table.specs.Keys.{are_at}
use Rattle.query_state.specs.declared.matches.Sizes.{Sizes}
use Rattle.query_state.specs.declared.matches.Ready.{Ready}
use Rattle.query_state.specs.declared.lists.Lists.{Lists}

-- What contracts see of the open matches: the states, the nodes, and the keys with the lists of each.
pub record OpenMatches : Type 0 where
  pub table : Table
  pub nodes : List Node
  pub keys : List (List Value)
  pub rows : List Rows

-- no state stands twice in a key's lists
abbrev pub HasStatesOnce : Rows → Type 0
HasStatesOnce rows = IsDistinct nat_eq (map (λ (r : ℕ × List Root). r.0) rows)

-- The set of leaves of this number is there, and events of these leaves are no-ops for the lists.
pub record IsNoOpSet (t : Table) (sets : List (List Bool)) (rows : Rows) (number : ℕ) : Type 0 where
  pub leaves : List Bool
  pub at : slice_get sets number ≡ Some leaves
  pub no_op : AreNoOp t leaves rows

-- In a key's lists no state stands twice. Lists that are known to be dormant are, and events of the leaves that are known to be no-ops for them are.
pub record MayBeDormant (t : Table) (sets : List (List Bool)) (l : Lists) : Type 0 where
  pub once : HasStatesOnce l.active.entries
  pub rest : l.is_dormant ≡ true → AreDormant t l.active.entries
  pub no_op : IfSome l.no_op (IsNoOpSet t sets l.active.entries)

-- The lists have these entries, and what is known of them holds wherever this does.
pub record AreKnown (Where : Table → List (List Bool) → Type 0) (entries : Rows) (l : Lists) : Type 0 where
  pub rows : l.active.entries ≡ entries
  pub is_dormant : (t : Table) (sets : List (List Bool)) → Where t sets → MayBeDormant t sets l

-- The set of these leaves has the number, where one is told, and each set that was there has its own.
pub record IsNumberOf (told : Option ℕ) (old new : List (List Bool)) (bits : List Bool) : Type 0 where
  pub is : IfSome told (λ n. slice_get new n ≡ Some bits)
  pub kept : (n : ℕ) (leaves : List Bool) → slice_get old n ≡ Some leaves → slice_get new n ≡ Some leaves

-- how many keys' lists are not known to be dormant
abbrev pub active_keys_in : List Lists → ℕ
active_keys_in [] = 0
active_keys_in (l ∷ ls) = if l.is_dormant then active_keys_in ls else suc (active_keys_in ls)

-- states that are known to be dormant are
abbrev pub AreDormantStates : Table → List Bool → Type 0
AreDormantStates t dormant_states = (n : ℕ) → slice_index_or dormant_states n false ≡ true → IsDormantState t n

-- The number is that of a key that has the values at the places.
pub record HasKeyThere (h : OpenMatches) (places : List ℕ) (values : List Value) (number : ℕ) : Type 0 where
  pub key : List Value
  pub numbered : slice_get h.keys number ≡ Some key
  pub has : are_at key places values ≡ true
  pub inside : number < length h.rows

-- No leaf can read the event, and the lists of its key are dormant, where the key is there.
pub record OwnRest (h : OpenMatches) (own : Option (List Value)) (bits : List Bool) : Type 0 where
  pub quiet : HasNoReader bits
  pub rest : HasNoRepeats h.keys → (key : List Value) (number : ℕ) (rows : Rows) → own ≡ Some key → slice_get h.keys number ≡ Some key → slice_get h.rows number ≡ Some rows → AreDormant h.table rows

-- where the key is there, no match is open of it
abbrev pub HasNoneOf : OpenMatches → List Value → Type 0
HasNoneOf h key = HasNoRepeats h.keys → (number : ℕ) (rows : Rows) → slice_get h.keys number ≡ Some key → slice_get h.rows number ≡ Some rows → rows ≡ []

-- No leaf that may read the first event of a match reads this one, and no match is open of its key.
pub record OwnNone (h : OpenMatches) (own : Option (List Value)) (first bits : List Bool) : Type 0 where
  pub begins : (k : ℕ) → has first k && has bits k ≡ false
  pub empty : (key : List Value) → own ≡ Some key → HasNoneOf h key

-- Events of these leaves are no-ops for the lists of the key of this number, and no state of them accepts.
pub record MayPass (h : OpenMatches) (number : ℕ) (bits : List Bool) : Type 0 where
  pub rows : Rows
  pub at : slice_get h.rows number ≡ Some rows
  pub no_op : AreNoOp h.table bits rows
  pub none : accepted_entries h.table rows ≡ []
  pub sound : IsSound h.table
  pub distinct : IsDistinct are_same_sets h.table.states

-- The event is a no-op for the lists of its key, which is there, and no state of them accepts.
pub record OwnPass (h : OpenMatches) (own : Option (List Value)) (bits : List Bool) : Type 0 where
  pub key : List Value
  pub own_is : own ≡ Some key
  pub number : ℕ
  pub numbered : slice_get h.keys number ≡ Some key
  pub pass : MayPass h number bits

-- The event leaves all lists as they are: it has no key, or no leaf can read it and the lists of its key are dormant or the automaton is skip-insensitive, or it is a no-op for the lists of its key, or it begins no match and none is open of its key.
abbrev pub Stays : OpenMatches → Option (List Value) → List Bool → List Bool → Bool → Type 0
Stays h own first bits skip_insensitive = (own ≡ None) ⊎ (OwnRest h own bits ⊎ ((HasNoReader bits × (skip_insensitive ≡ true)) ⊎ (OwnPass h own bits ⊎ OwnNone h own first bits)))

-- no open match, and no state met
abbrev pub none_open : Cea → OpenMatches
none_open cea = record { table = record { cea = cea; states = []; event_classes = []; transitions = [] }; nodes = []; keys = []; rows = [] }

-- the first so many of each
abbrev pub cut : Sizes → OpenMatches → OpenMatches
cut m h = record {
  table = record { cea = h.table.cea; states = take m.lazy_dfa.states h.table.states; event_classes = take m.lazy_dfa.event_classes h.table.event_classes; transitions = take m.lazy_dfa.pairs h.table.transitions };
  nodes = take m.nodes h.nodes;
  keys = take m.keys h.keys;
  rows = take m.keys h.rows;
}

-- there are as many, and the pairs that stay are of states and classes that stay, and lead to such states
pub record CanCut (m : Sizes) (h : OpenMatches) : Type 0 where
  pub states : m.lazy_dfa.states ≤ length h.table.states
  pub event_classes : m.lazy_dfa.event_classes ≤ length h.table.event_classes
  pub pairs : m.lazy_dfa.pairs ≤ length h.table.transitions
  pub within : All (StaysWithin m.lazy_dfa.states m.lazy_dfa.event_classes) (take m.lazy_dfa.pairs h.table.transitions)
  pub nodes : m.nodes ≤ length h.nodes
  pub keys : m.keys ≤ length h.keys

-- these are the numbers of all that there is
pub record AreSizes (m : Sizes) (h : OpenMatches) : Type 0 where
  pub states : m.lazy_dfa.states ≡ length h.table.states
  pub event_classes : m.lazy_dfa.event_classes ≡ length h.table.event_classes
  pub pairs : m.lazy_dfa.pairs ≡ length h.table.transitions
  pub nodes : m.nodes ≡ length h.nodes
  pub keys : m.keys ≡ length h.keys

-- with a key more, which has no list
abbrev pub with_key : OpenMatches → List Value → OpenMatches
with_key h key = record h { keys = h.keys ++ key ∷ []; rows = h.rows ++ [] ∷ [] }

-- The key is there, or it is put in last.
abbrev pub TakesKey : OpenMatches → List Value → OpenMatches → Type 0
TakesKey old key new = (Contains old.keys key × (new ≡ old)) ⊎ ((Contains old.keys key → ⊥) × (new ≡ with_key old key))

-- Before the key of this number was put in, where it was not there, there were as many as the sizes tell.
pub record HasBegun (m : Sizes) (number : ℕ) (mid : OpenMatches) : Type 0 where
  pub before : OpenMatches
  pub key : List Value
  pub are : AreSizes m before
  pub sound : IsSound before.table
  pub takes : TakesKey before key mid
  pub numbered : slice_get mid.keys number ≡ Some key

-- What is asked before an event: each key's lists can take it in.
abbrev pub CanTake : Stamp → OpenMatches → Type 0
CanTake stamp h = (n : ℕ) (rows : Rows) → slice_get h.rows n ≡ Some rows → CanAdvance h.table stamp h.nodes rows

-- What is asked before an event of these leaves is worked out: the nodes and the event are in step, and each key's lists can take it in.
pub record CanWork (stamp : Stamp) (bits : List Bool) (h : OpenMatches) : Type 0 where
  pub well_formed : WellFormed h.nodes
  pub in_step : AreInStep (h.nodes ++ Bottom stamp ∷ [])
  pub bits_are : length bits ≡ room_for h.table.cea.size
  pub can : CanTake stamp h

-- What was there is told by the sizes, and is as it was where memory ran out; the steps are few.
pub record HasAdvanced (result : Result Ready Memory) (m : Sizes) (old new : OpenMatches) (before after : ℕ) : Type 0 where
  pub sizes : OnOk result ((cut m new ≡ old) × CanCut m new)
  pub refused : OnErr result (new ≡ old)
  pub steps : OnOk result (after ≤ before + work_bound (length new.table.states))

-- The lists of a key after an event are worked out, and not yet in place: the key is there, states and nodes are added. What stands from the low clock on still stands.
pub record IsReady (stamp : Stamp) (low : ℤ) (bits : List Bool) (key : List Value) (number : ℕ) (staged : Staged) (old new : OpenMatches) : Type 0 where
  pub mid : OpenMatches
  pub takes : TakesKey old key mid
  pub keys : new.keys ≡ mid.keys
  pub rows : new.rows ≡ mid.rows
  pub numbered : slice_get mid.keys number ≡ Some key
  pub before : Rows
  pub before_is : slice_get mid.rows number ≡ Some before
  pub states : List ℕ
  pub states_are : states ≡ 0 ∷ map (λ (r : ℕ × List Root). r.0) before
  pub table : Discovers mid.table states bits new.table
  pub sets : All (HasLeavesBelow new.table.cea.size) new.table.states
  pub distinct : IsDistinct are_same_sets new.table.states
  pub nodes : GrowsBy stamp mid.nodes new.nodes
  pub stands : (from : ℤ) (xs : List Seen) → low ≤ℤ from → IsLater stamp xs → Stands mid.table from xs mid.nodes before → Stands new.table from (xs ++ seen stamp bits ∷ []) new.nodes (rows_after before staged)
  pub growth : length new.nodes ≤ length old.nodes + work_bound (length new.table.states)

-- However far the work got, a table to which the states of the key's lists lead bounds its steps; where the key could not be put in there was no step.
pub record HasWorked (bits : List Bool) (key : List Value) (old : OpenMatches) (before after : ℕ) : Type 0 where
  pub mid : OpenMatches
  pub takes : TakesKey old key mid
  pub number : ℕ
  pub numbered : slice_get mid.keys number ≡ Some key
  pub rows : Rows
  pub rows_are : slice_get mid.rows number ≡ Some rows
  pub states : List ℕ
  pub states_are : states ≡ 0 ∷ map (λ (r : ℕ × List Root). r.0) rows
  pub work : IsWithinWork mid.table states bits before after

-- what was prepared of the event for its own key
abbrev pub IsOwnReady : Stamp → ℤ → List Bool → Option (List Value) → ℕ → Staged → OpenMatches → OpenMatches → Type 0
IsOwnReady stamp low bits own number staged old new = (key : List Value) × (own ≡ Some key) × IsReady stamp low bits key number staged old new

abbrev pub HasOwnWorked : List Bool → Option (List Value) → OpenMatches → ℕ → ℕ → Type 0
HasOwnWorked bits own old before after = (key : List Value) × (own ≡ Some key) × HasWorked bits key old before after

-- The key's lists stand for some events.
pub record HasLists (h : OpenMatches) (number : ℕ) : Type 0 where
  pub rows : Rows
  pub at : slice_get h.rows number ≡ Some rows
  pub low : ℤ
  pub seen : List Seen
  pub stands : Stands h.table low seen h.nodes rows

-- the lists of the key, where one is told, stand for some events
abbrev pub CanList : OpenMatches → Option ℕ → Type 0
CanList h None = Unit {0}
CanList h (Some number) = HasLists h number

-- the entries of the accepting states' lists of the key
abbrev pub entries_for : OpenMatches → Option ℕ → List Root
entries_for h None = []
entries_for h (Some number) = accepted_entries h.table (slice_index_or h.rows number [])

-- What a cursor gives next: a start with the positions that the cursor has then, or nothing more. It stays the same cursor, fits, and takes no memory.
pub record GivesNext (result : Option Stamp) (nodes : List Node) (old new : CursorState) (before after : ℕ) : Type 0 where
  pub answer : MatchOption result (rest old nodes ≡ []) (λ start. rest old nodes ≡ record { start = start; positions = new.path } ∷ rest new nodes)
  pub none : IfNone result ((rest new nodes ≡ []) × (new.path ≡ []))
  pub fits : Fits new nodes
  pub same : (new.query ≡ old.query) × (new.low ≡ old.low)
  pub room : new.room ≡ old.room
  pub delay : MatchOption result (after ≤ before + 1) (λ start. after ≤ before + 4 * (length new.path + 1))
