-- Whether some leaf below a number is in a set.
use Rattle.std.proofs.Common.{◌≡◌, ℕ, zero, suc, ◌<◌, Bool, true, false, ◌||◌, refl, ap, inl, inr, arith}
use Rattle.std.proofs.lemmas.Bool.{cases_eq}
use Rattle.cea_determinise.specs.Runs.{LeafSet, some_below}

or_true : (b : Bool) → b || true ≡ true
or_true true = refl
or_true false = refl

pub none_below : (n : ℕ) (s : LeafSet) → ((k : ℕ) → s k ≡ false) → some_below n s ≡ false
none_below zero s none = refl
none_below (suc n) s none = rw (none n) (none_below n s none)

pub found_below : (n k : ℕ) (s : LeafSet) → k < n → s k ≡ true → some_below n s ≡ true
found_below zero k s h e = absurd (omega (arith, h))
found_below (suc n) k s h e =
    elim (cases_eq k n) [
      | inl same ↦ rw (← same, e) refl
      | inr other ↦ rw (found_below n k s (omega (arith, h, other)) e) (or_true (s n))
    ]

pub some_either : (n : ℕ) (f g : LeafSet) → some_below n (λ j. f j || g j) ≡ some_below n f || some_below n g
some_either zero f g = refl
some_either (suc n) f g = rw (some_either n f g) (shuffle (f n) (g n) (some_below n f) (some_below n g))
  where
    shuffle : (a b c d : Bool) → (a || b) || (c || d) ≡ (a || c) || (b || d)
    shuffle true b c d = refl
    shuffle false b true d = or_true b
    shuffle false b false d = refl

pub some_same : (n : ℕ) (f g : LeafSet) → ((k : ℕ) → f k ≡ g k) → some_below n f ≡ some_below n g
some_same n f g same = ap (some_below n) (λ i k. same k i)
