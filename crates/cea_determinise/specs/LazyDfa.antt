-- A table of numbered states, of numbered classes of events, and of the pairs of state and class whose
-- successors are known. Events that the same leaves can read are of one class.
use Rattle.std.specs.Prelude.{◌≡◌, ℕ, zero, suc, ◌<◌, ◌≤◌, Bool, true, false, List, [], ◌++◌, Option, Some, None, option_map, length, slice_get, slice_index_or, IfSome, All}
use Rattle.std.specs.Map.{lookup}
use Rattle.cer_base.specs.Bits.{has, room_for}
use Rattle.cea_determinise.specs.declared.cea.Cea.{Cea}
use Rattle.cea_determinise.specs.declared.cea.StateSets.{StateSets}
use Rattle.cea_determinise.specs.declared.table.TransitionKey.{TransitionKey}
use Rattle.cea_determinise.specs.declared.table.Both.{Both}
use Rattle.cea_determinise.specs.declared.table.Sizes.{Sizes}
use Rattle.cea_determinise.specs.declared.table.Successors.{Successors}
use Rattle.cea_determinise.specs.Keys.{is_same_key}
use Rattle.cea_determinise.specs.Runs.{accepts}
use Rattle.cea_determinise.specs.Strict.{Standing, next_standing}
use Rattle.cea_determinise.specs.Cea.{automaton_of_cea, standing_of, standing, IsWellFormed, HasLeavesBelow}

-- The automaton, the states other than the start, for each class the leaves that can read its events, and the known pairs with their successors, each list oldest first.
pub record Table : Type 0 where
  pub cea : Cea
  pub states : List StateSets
  pub event_classes : List (List Bool)
  pub transitions : List (TransitionKey × Successors)

-- the sets of a number: none for the start, which is 0
abbrev pub sets_at : List StateSets → ℕ → Option StateSets
sets_at states zero = None
sets_at states (suc n) = slice_get states n

-- the state of a number
abbrev pub standing_at : List StateSets → ℕ → Standing
standing_at states n = standing (sets_at states n)

-- the leaves that can read the events of the class with this number
abbrev pub event_class_at : List (List Bool) → ℕ → List Bool
event_class_at event_classes k = slice_index_or event_classes k []

-- the state after the state of a number on an event
abbrev pub standing_after : Cea → List StateSets → ℕ → List Bool → Bool → Option Standing
standing_after cea states state bits mark = next_standing (automaton_of_cea cea) cea.strict (standing_at states state) (has bits) mark

-- The number is that of the successor, and there is none exactly where the successor is none.
pub record Leads (cea : Cea) (states : List StateSets) (state : ℕ) (bits : List Bool) (mark : Bool) (to : Option ℕ) : Type 0 where
  pub cached : IfSome to (λ n. n ≤ length states)
  pub exact : option_map (standing_at states) to ≡ standing_after cea states state bits mark

-- The successors of the pair of state and class are those of the definition.
pub record AreSuccessors (cea : Cea) (states : List StateSets) (event_classes : List (List Bool)) (p : TransitionKey) (s : Successors) : Type 0 where
  pub state : p.state ≤ length states
  pub event_class : p.event_class < length event_classes
  pub marked : Leads cea states p.state (event_class_at event_classes p.event_class) true s.marked
  pub unmarked : Leads cea states p.state (event_class_at event_classes p.event_class) false s.unmarked

-- The table tells these successors of the pair, and they are right.
pub record IsStoredPair (t : Table) (p : TransitionKey) (s : Successors) : Type 0 where
  pub value : lookup (is_same_key p) t.transitions ≡ Some s
  pub right : AreSuccessors t.cea t.states t.event_classes p s

-- Each state's sets are ones of leaves, each class has room for the leaves, and each pair's successors are those of the definition.
pub record IsSound (t : Table) : Type 0 where
  pub well_formed : IsWellFormed t.cea
  pub states : All (HasLeavesBelow t.cea.size) t.states
  pub event_classes : All (λ (bits : List Bool). length bits ≡ room_for t.cea.size) t.event_classes
  pub transitions : All (λ (e : TransitionKey × Successors). AreSuccessors t.cea t.states t.event_classes e.0 e.1) t.transitions

-- The old states keep their numbers, and each new one is a successor of the state on the event.
pub record Reached (old : Table) (state : ℕ) (bits : List Bool) (new : Table) : Type 0 where
  pub cea : new.cea ≡ old.cea
  pub more : List StateSets
  pub states : new.states ≡ old.states ++ more
  pub event_classes : new.event_classes ≡ old.event_classes
  pub reached : All (λ p. (mark : Bool) × (Some (standing_of p) ≡ standing_after old.cea old.states state bits mark)) more

-- The pair is of one of so many states and one of so many classes, and leads to such states.
pub record StaysWithin (states event_classes : ℕ) (e : TransitionKey × Successors) : Type 0 where
  pub state : e.0.state ≤ states
  pub event_class : e.0.event_class < event_classes
  pub marked : IfSome e.1.marked (λ m. m ≤ states)
  pub unmarked : IfSome e.1.unmarked (λ m. m ≤ states)

-- The sets are those of the successor, of leaves below the size.
pub record IsNext (t : Table) (state : ℕ) (bits : List Bool) (mark : Bool) (state_sets : Option StateSets) : Type 0 where
  pub exact : option_map standing_of state_sets ≡ standing_after t.cea t.states state bits mark
  pub sets : IfSome state_sets (HasLeavesBelow t.cea.size)

-- both are the successors
pub record AreBoth (t : Table) (state : ℕ) (bits : List Bool) (b : Both) : Type 0 where
  pub marked : IsNext t state bits true b.marked
  pub unmarked : IsNext t state bits false b.unmarked

-- the number is that of the state with these sets
pub record IsNumber (states : List StateSets) (state_sets : Option StateSets) (n : Option ℕ) : Type 0 where
  pub exact : option_map (standing_at states) n ≡ option_map standing_of state_sets
  pub cached : IfSome n (λ m. m ≤ length states)

-- the old states stay, and what comes after them is the state with these sets alone
pub record Adds (state_sets : Option StateSets) (old new : List StateSets) : Type 0 where
  pub more : List StateSets
  pub states : new ≡ old ++ more
  pub only : All (λ p. state_sets ≡ Some p) more

-- The table knows one class more, if it is new, and all else stays.
pub record AddsEventClass (bits : List Bool) (old new : Table) : Type 0 where
  pub more : List (List Bool)
  pub only : All (λ (b : List Bool). b ≡ bits) more
  pub grown : new ≡ record old { event_classes = old.event_classes ++ more }

-- Of the first states other than the start it is told whether they accept.
pub record TellsAccepting (cea : Cea) (states : List StateSets) (told : List Bool) : Type 0 where
  pub few : length told ≤ length states
  pub right : (k : ℕ) (b : Bool) → slice_get told k ≡ Some b → b ≡ accepts (automaton_of_cea cea) (standing_at states (suc k)).sets

-- The sizes are those of the three tables.
pub record TellsSizes (cached_states : List StateSets) (cached_event_classes : List (List Bool)) (cached_pairs : List (TransitionKey × Successors)) (told : Sizes) : Type 0 where
  pub states : told.states ≡ length cached_states
  pub pairs : told.pairs ≡ length cached_pairs
  pub event_classes : told.event_classes ≡ length cached_event_classes
