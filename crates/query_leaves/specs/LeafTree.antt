-- Trees of leaves: what a formula is once its filters and names are settled at its types.
use Rattle.std.specs.Prelude.{Bool, List, [], ◌∷◌}

-- A leaf, nothing, one after the other, a choice, and one or more; a tight one has no event of the substream between.
pub data LeafTree (A : Type 0) : Type 0 where
  leaf : A → LeafTree A
  none : LeafTree A
  sequence : Bool → LeafTree A → LeafTree A → LeafTree A
  either : LeafTree A → LeafTree A → LeafTree A
  plus : Bool → LeafTree A → LeafTree A

-- one tree after another, from the left, each but the first tight or not
abbrev pub linked_to : {A : Type 0} → LeafTree A → List (Bool × LeafTree A) → LeafTree A
linked_to t [] = t
linked_to t (p ∷ ps) = linked_to (sequence p.0 t p.1) ps

abbrev pub chain_of : {A : Type 0} → List (Bool × LeafTree A) → LeafTree A
chain_of [] = none
chain_of (p ∷ ps) = linked_to p.1 ps

-- a choice between trees
abbrev pub choice_of : {A : Type 0} → List (LeafTree A) → LeafTree A
choice_of [] = none
choice_of (t ∷ ts) = either t (choice_of ts)
