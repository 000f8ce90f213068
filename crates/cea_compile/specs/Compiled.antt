-- The position automaton of a tree, computed.
use Rattle.std.specs.Prelude.{ℕ, Bool, true, false, ◌&&◌, ◌||◌, length, eqb}
use Rattle.query_leaves.specs.LeafTree.{LeafTree, leaf, none, sequence, either, plus}
use Rattle.query_leaves.specs.Expand.{Occurrence}
use Rattle.query_leaves.specs.Leaves.{occurrences, numbered, leaf_is_marked}
use Rattle.cea_determinise.specs.Runs.{LeafSet, Automaton, agrees}

abbrev pub first_set : LeafTree ℕ → LeafSet
first_set (leaf n) k = eqb k n
first_set none k = false
first_set (sequence u a b) k = first_set a k
first_set (either a b) k = first_set a k || first_set b k
first_set (plus u a) k = first_set a k

abbrev pub last_set : LeafTree ℕ → LeafSet
last_set (leaf n) k = eqb k n
last_set none k = false
last_set (sequence u a b) k = last_set b k
last_set (either a b) k = last_set a k || last_set b k
last_set (plus u a) k = last_set a k

abbrev pub follow_set : LeafTree ℕ → Bool → ℕ → LeafSet
follow_set (leaf n) t j k = false
follow_set none t j k = false
follow_set (sequence u a b) t j k = follow_set a t j k || (follow_set b t j k || (agrees u t && (last_set a j && first_set b k)))
follow_set (either a b) t j k = follow_set a t j k || follow_set b t j k
follow_set (plus u a) t j k = follow_set a t j k || (agrees u t && (last_set a j && first_set a k))

-- the position automaton of a tree of so many leaves
abbrev pub automaton_over : LeafTree ℕ → ℕ → LeafSet → Automaton
automaton_over t size marks = record {
  size = size;
  first = first_set t;
  last = last_set t;
  near = follow_set t true;
  far = follow_set t false;
  marked = marks;
}

abbrev pub automaton_of : LeafTree Occurrence → Automaton
automaton_of t = automaton_over (numbered 0 t) (length (occurrences t)) (leaf_is_marked (occurrences t))
