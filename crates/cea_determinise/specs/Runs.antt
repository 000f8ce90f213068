-- The position automaton of a pattern as sets of leaf numbers, and its determinised runs.
-- Position automata are Glushkov's; that a waiting leaf lets events pass is "CORE: a Complex Event
-- Recognition Engine" (PVLDB 2022). A leaf to which the next event is like any later one waits at once,
-- so that runs which differ in that alone meet in one state.
use Rattle.std.specs.Prelude.{ℕ, zero, suc, Bool, true, false, not, ◌&&◌, ◌||◌, cond, List, [], ◌∷◌, Option, Some, None, option_and_then, eqb}
use Rattle.std.specs.List.{list_any}

-- A set of leaf numbers, by its test.
abbrev pub LeafSet : Type 0
LeafSet = ℕ → Bool

-- A leaf of the set is below the number.
abbrev pub some_below : ℕ → LeafSet → Bool
some_below zero set = false
some_below (suc n) set = set n || some_below n set

-- The position automaton of a pattern whose leaves are the numbers below a size. The near followers read the next event, the far ones any later event.
pub record Automaton : Type 0 where
  pub size : ℕ
  pub first : LeafSet
  pub last : LeafSet
  pub near : ℕ → LeafSet
  pub far : ℕ → LeafSet
  pub marked : LeafSet

abbrev pub follow : Automaton → Bool → ℕ → LeafSet
follow a true j = a.near j
follow a false j = a.far j

-- A state of the subset construction: the leaves that read the last event and mind what the next one is, and those that wait for a far follower, having read an earlier event, or the last one and not minding the next.
pub data RunState : Type 0 where
  start : RunState
  pair : LeafSet → LeafSet → RunState

-- the leaves that may read the next event
abbrev pub candidates : Automaton → RunState → LeafSet
candidates a start k = a.first k
candidates a (pair fresh waiting) k = some_below a.size (λ j. fresh j && (a.near j k || a.far j k) || waiting j && a.far j k)

-- the leaves that may let the next event pass
abbrev pub skip_insensitive : Automaton → RunState → LeafSet
skip_insensitive a start k = false
skip_insensitive a (pair fresh waiting) k = (fresh k || waiting k) && some_below a.size (a.far k)

-- the leaf's mark is the event's
abbrev pub agrees : Bool → Bool → Bool
agrees true m = m
agrees false m = not m

-- the leaves that read the event
abbrev pub readers : Automaton → RunState → LeafSet → Bool → LeafSet
readers a s bits mark k = candidates a s k && (bits k && agrees mark (a.marked k))

-- the leaf minds what the very next event is: it may have read the last one of a match, or has a near follower
abbrev pub minds_next : Automaton → LeafSet
minds_next a k = a.last k || some_below a.size (a.near k)

-- the leaf waits as soon as it has read an event
abbrev pub waits_at_once : Automaton → LeafSet
waits_at_once a k = not (minds_next a k) && some_below a.size (a.far k)

abbrev pub successor : Automaton → RunState → LeafSet → Bool → RunState
successor a s bits mark = pair (λ k. readers a s bits mark k && minds_next a k)
    (λ k. not mark && skip_insensitive a s k || readers a s bits mark k && waits_at_once a k)

abbrev pub has_leaf : Automaton → RunState → Bool
has_leaf a start = false
has_leaf a (pair fresh waiting) = some_below a.size (λ k. fresh k || waiting k)

-- a successor with no leaf is none
abbrev pub next : Automaton → RunState → LeafSet → Bool → Option RunState
next a s bits mark = let t = successor a s bits mark in cond (has_leaf a t) (Some t) None

-- An event of the substream: its position, and the leaves that can read it.
pub record Entry : Type 0 where
  pub position : ℕ
  pub bits : LeafSet

-- the position is marked
abbrev pub has_mark : List ℕ → ℕ → Bool
has_mark marks p = list_any (eqb p) marks

-- The state after the entries, of which the positions in the set are marked.
abbrev pub run : Automaton → (ℕ → Bool) → RunState → List Entry → Option RunState
run a marks s [] = Some s
run a marks s (x ∷ xs) = option_and_then (λ t. run a marks t xs) (next a s x.bits (marks x.position))

abbrev pub accepts : Automaton → RunState → Bool
accepts a start = false
accepts a (pair fresh waiting) = some_below a.size (λ k. fresh k && a.last k)

abbrev pub accepted_run : Automaton → Option RunState → Bool
accepted_run a None = false
accepted_run a (Some s) = accepts a s
