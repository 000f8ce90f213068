-- Dormant lists: an event that no leaf can read leaves them as they are. And automata whose lists may let it pass in any case.
use Rattle.std.specs.Prelude.{◌≡◌, ℕ, ◌≤◌, ℤ, Bool, true, false, List, [], ◌∷◌, ◌++◌, map, length, All, Some, option_and_then, ⊤}
use Rattle.std.specs.List.{list_any}
use Rattle.cer_base.specs.Bits.{has}
use Rattle.cer_base.specs.declared.node.Stamp.{Stamp}
use Rattle.cer_base.specs.declared.node.Root.{Root}
use Rattle.cer_base.specs.declared.node.Node.{Node}
use Rattle.cea_determinise.specs.Runs.{LeafSet, Automaton, RunState, start, pair, accepts}
use Rattle.cea_determinise.specs.Strict.{Standing, begin, next_standing}
use Rattle.cea_determinise.specs.Cea.{automaton_of_cea}
use Rattle.cea_determinise.specs.LazyDfa.{Table, standing_at, IsSound}
use Rattle.event_update.specs.Reach.{Seen}
use Rattle.event_update.specs.Stands.{seen, IsLater, Stands, CanAdvance}
use Rattle.event_update.specs.Update.{Discovers, GrowsBy, IsAdvancedBy, accepted_entries}

-- no leaf can read the event
abbrev pub HasNoReader : List Bool → Type 0
HasNoReader bits = (k : ℕ) → has bits k ≡ false

-- An event that no leaf can read is a no-op for the state of this number, which stays the state that it is.
pub record IsDormantState (t : Table) (n : ℕ) : Type 0 where
  pub is_state : n ≤ length t.states
  pub stays : next_standing (automaton_of_cea t.cea) t.cea.strict (standing_at t.states n) (λ k. false) false ≡ Some (standing_at t.states n)

-- each state with open matches is dormant
abbrev pub AreDormant : Table → List (ℕ × List Root) → Type 0
AreDormant t rows = All (λ (r : ℕ × List Root). IsDormantState t r.0) rows

-- Where lists are dormant, what stands for a key's events stands for them and an event that no leaf can read.
abbrev pub DormantListsStand : Type 0
DormantListsStand = (t : Table) (low : ℤ) (xs : List Seen) (stamp : Stamp) (bits : List Bool) (nodes : List Node) (rows : List (ℕ × List Root)) →
    HasNoReader bits → AreDormant t rows → IsLater stamp xs → Stands t low xs nodes rows → Stands t low (xs ++ seen stamp bits ∷ []) nodes rows

-- Lists that such an event has left as they are are dormant.
abbrev pub UnchangedListsAreDormant : Type 0
UnchangedListsAreDormant = (before after : Table) (bits : List Bool) (stamp : Stamp) (old new : List Node) (rows : List (ℕ × List Root)) →
    HasNoReader bits → IsSound after → CanAdvance before stamp old rows → GrowsBy stamp old new → IsAdvancedBy after bits stamp old rows new rows → AreDormant after rows

-- Lists are dormant as the table grows.
abbrev pub DormantListsStayDormant : Type 0
DormantListsStayDormant = (old new : Table) (from : List ℕ) (bits : List Bool) (rows : List (ℕ × List Root)) → Discovers old from bits new → AreDormant old rows → AreDormant new rows

-- An event that these leaves can read is a no-op for the state of this number, and is not marked there: it stays the state that it is.
pub record IsNoOp (t : Table) (bits : List Bool) (n : ℕ) : Type 0 where
  pub is_state : n ≤ length t.states
  pub stays : next_standing (automaton_of_cea t.cea) t.cea.strict (standing_at t.states n) (has bits) false ≡ Some (standing_at t.states n)
  pub unmarked : (s : Standing) → next_standing (automaton_of_cea t.cea) t.cea.strict (standing_at t.states n) (has bits) true ≡ Some s → ⊥

-- It is a no-op for each state with open matches, and starts no match.
pub record AreNoOp (t : Table) (bits : List Bool) (rows : List (ℕ × List Root)) : Type 0 where
  pub starts : (s : Standing) (mark : Bool) → next_standing (automaton_of_cea t.cea) t.cea.strict begin (has bits) mark ≡ Some s → ⊥
  pub each : All (λ (r : ℕ × List Root). IsNoOp t bits r.0) rows

-- Where such events are no-ops for the lists, what stands for a key's events stands for them and such an event.
abbrev pub NoOpListsStand : Type 0
NoOpListsStand = (t : Table) (low : ℤ) (xs : List Seen) (stamp : Stamp) (bits : List Bool) (nodes : List Node) (rows : List (ℕ × List Root)) →
    AreNoOp t bits rows → IsLater stamp xs → Stands t low xs nodes rows → Stands t low (xs ++ seen stamp bits ∷ []) nodes rows

-- They stay no-ops for them as the table grows.
abbrev pub NoOpListsStayNoOp : Type 0
NoOpListsStayNoOp = (old new : Table) (from : List ℕ) (read bits : List Bool) (rows : List (ℕ × List Root)) → Discovers old from read new → AreNoOp old bits rows → AreNoOp new bits rows

-- the state of this number accepts
abbrev pub does_accept : Table → ℕ → Bool
does_accept t n = accepts (automaton_of_cea t.cea) (standing_at t.states n).sets

-- No state of dormant lists accepts.
abbrev pub DormantListsAcceptNone : Type 0
DormantListsAcceptNone = (t : Table) (rows : List (ℕ × List Root)) → AreDormant t rows → accepted_entries t rows ≡ []

-- Without an accepting state there is no entry of one.
abbrev pub AcceptingListsAreNeeded : Type 0
AcceptingListsAreNeeded = (t : Table) (rows : List (ℕ × List Root)) → list_any (does_accept t) (map (λ (r : ℕ × List Root). r.0) rows) ≡ false → accepted_entries t rows ≡ []

-- the state of a run that has read an event
abbrev pub HasRead : RunState → Type 0
HasRead start = ⊥
HasRead (pair fresh waiting) = ⊤

-- A skip-insensitive automaton does not mind what comes right after an event: one that no leaf can read, before a later one, changes nothing to where that leads a run.
abbrev pub IsSkipInsensitive : Automaton → Bool → Type 0
IsSkipInsensitive a strict = (s : Standing) (bits : LeafSet) (mark : Bool) → HasRead s.sets →
    option_and_then (λ t. next_standing a strict t bits mark) (next_standing a strict s (λ k. false) false) ≡ next_standing a strict s bits mark

-- no leaf can read the event
abbrev pub IsSilent : Seen → Type 0
IsSilent x = (k : ℕ) → x.bits k ≡ false

-- The lists of a skip-insensitive automaton may let such an event pass: what stands for a key's events without that one, and a later one, stands for them with it.
abbrev pub SkipInsensitiveListsStand : Type 0
SkipInsensitiveListsStand = (t : Table) (low : ℤ) (xs : List Seen) (no_op last : Seen) (nodes : List Node) (rows : List (ℕ × List Root)) →
    IsSkipInsensitive (automaton_of_cea t.cea) t.cea.strict → IsSilent no_op → IsLater no_op.stamp xs → IsLater last.stamp (xs ++ no_op ∷ []) →
    Stands t low (xs ++ last ∷ []) nodes rows → Stands t low ((xs ++ no_op ∷ []) ++ last ∷ []) nodes rows
