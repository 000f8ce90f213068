-- What a compaction keeps of a tree.
use Rattle.std.specs.Prelude.{◌≡◌, ℕ, ℤ, cond, int_le, false, List, [], ◌∷◌}
use Rattle.cer_base.specs.declared.node.Stamp.{Stamp}
use Rattle.cer_base.specs.Members.{SetTree, Start, Extended, United, newest}

-- without each right child that has no recent member
abbrev pub pruned : ℤ → SetTree → SetTree
pruned low (Start s) = Start s
pruned low (Extended p t) = Extended p (pruned low t)
pruned low (United l r) = cond (int_le low (newest r).clock) (United (pruned low l) (pruned low r)) (pruned low l)

-- The second tree is the first one without some right children, of which none has a recent member. Where another root needs them too, such children may stay.
pub data IsPruned (low : ℤ) : SetTree → SetTree → Type 0 where
  AtStart : (s : Stamp) → IsPruned low (Start s) (Start s)
  Below : (p : ℕ) (t u : SetTree) → IsPruned low t u → IsPruned low (Extended p t) (Extended p u)
  Both : (l r a b : SetTree) → IsPruned low l a → IsPruned low r b → IsPruned low (United l r) (United a b)
  LeftAlone : (l r a : SetTree) → int_le low (newest r).clock ≡ false → IsPruned low l a → IsPruned low (United l r) a

-- as many trees, in their order, each pruned
abbrev pub ArePruned : ℤ → List SetTree → List SetTree → Type 0
ArePruned low [] [] = Unit {0}
ArePruned low [] (u ∷ us) = ⊥
ArePruned low (t ∷ ts) [] = ⊥
ArePruned low (t ∷ ts) (u ∷ us) = IsPruned low t u × ArePruned low ts us
