-- What some number below a bound passes.
use Rattle.std.proofs.Common.{◌≡◌, refl, sym, ap₂, ◌∙◌, ℕ, ◌<◌, ◌⊎◌, inl, inr, Bool, true, false, ◌&&◌, ◌||◌, Decides}
use Rattle.std.specs.Prelude.{Option, Some, None, IfSome, IfNone, is_some}
use Rattle.std.proofs.lemmas.Bool.{and_parts, and_from, or_cases, or_left, or_right, false≢true}
use Rattle.std.proofs.lemmas.Bool.Decides.{Decides-below_or}
use Rattle.cea_determinise.specs.Runs.{LeafSet, some_below}

pub some_below_is : (p : LeafSet) (n : ℕ) → Decides (some_below n p) ((k : ℕ) × (k < n) × (p k ≡ true))
some_below_is p = Decides-below_or p (λ k. p k ≡ true) (λ n. some_below n p) (λ k. (λ h. h, λ h. h)) refl (λ n. refl)

-- two tests of which each implies the other
both : (a b : Bool) → (a ≡ true → b ≡ true) → (b ≡ true → a ≡ true) → a ≡ b
both true b f g = sym (f refl)
both false true f g = g refl
both false false f g = refl

-- sets that agree below the bound
pub same_below : (p q : LeafSet) (n : ℕ) → ((k : ℕ) → k < n → p k ≡ q k) → some_below n p ≡ some_below n q
same_below p q n same = both (some_below n p) (some_below n q)
    (λ h. (let s = (some_below_is p n).0 h in (some_below_is q n).1 (s.0, s.1, sym (same s.0 s.1) ∙ s.2)))
    (λ h. (let s = (some_below_is q n).0 h in (some_below_is p n).1 (s.0, s.1, same s.0 s.1 ∙ s.2)))

-- what it tells of two sets whether they meet
pub meets_is : (a b : LeafSet) (n : ℕ) (m : Bool) → ((k : ℕ) → a k ≡ true → k < n) → (m ≡ true → (k : ℕ) × (a k && b k ≡ true)) → (m ≡ false → (k : ℕ) → a k && b k ≡ false) → m ≡ some_below n (λ k. a k && b k)
meets_is a b n m below some none = both m (some_below n (λ k. a k && b k))
    (λ h. (let s = some h in (some_below_is (λ k. a k && b k) n).1 (s.0, below s.0 (and_parts (a s.0) (b s.0) s.1).0, s.1)))
    (λ h. found m none ((some_below_is (λ k. a k && b k) n).0 h))
  where
    found : (m : Bool) → (m ≡ false → (k : ℕ) → a k && b k ≡ false) → (k : ℕ) × (k < n) × (a k && b k ≡ true) → m ≡ true
    found true none s = refl
    found false none s = absurd (false≢true (sym (none refl s.0) ∙ s.2))

-- the same of two sets and a third
pub either_meets_is : (a c b : LeafSet) (n : ℕ) (m k : Bool) → m ≡ some_below n (λ j. a j && b j) → k ≡ some_below n (λ j. c j && b j) → (m || k) ≡ some_below n (λ j. (a j || c j) && b j)
either_meets_is a c b n m k e f = ap₂ (λ x y. x || y) e f ∙ both (some_below n (λ j. a j && b j) || some_below n (λ j. c j && b j)) (some_below n (λ j. (a j || c j) && b j))
    (λ h. to (or_cases (some_below n (λ j. a j && b j)) (some_below n (λ j. c j && b j)) h))
    (λ h. back ((some_below_is (λ j. (a j || c j) && b j) n).0 h))
  where
    to : (some_below n (λ j. a j && b j) ≡ true) ⊎ (some_below n (λ j. c j && b j) ≡ true) → some_below n (λ j. (a j || c j) && b j) ≡ true
    to (inl h) = let s = (some_below_is (λ j. a j && b j) n).0 h in let p = and_parts (a s.0) (b s.0) s.2 in (some_below_is (λ j. (a j || c j) && b j) n).1 (s.0, s.1, and_from (a s.0 || c s.0) (b s.0) (or_left (a s.0) (c s.0) p.0) p.1)
    to (inr h) = let s = (some_below_is (λ j. c j && b j) n).0 h in let p = and_parts (c s.0) (b s.0) s.2 in (some_below_is (λ j. (a j || c j) && b j) n).1 (s.0, s.1, and_from (a s.0 || c s.0) (b s.0) (or_right (a s.0) (c s.0) p.0) p.1)

    of : (j : ℕ) → j < n → (a j ≡ true) ⊎ (c j ≡ true) → b j ≡ true → (some_below n (λ j. a j && b j) || some_below n (λ j. c j && b j)) ≡ true
    of j less (inl h) g = or_left (some_below n (λ j. a j && b j)) (some_below n (λ j. c j && b j)) ((some_below_is (λ j. a j && b j) n).1 (j, less, and_from (a j) (b j) h g))
    of j less (inr h) g = or_right (some_below n (λ j. a j && b j)) (some_below n (λ j. c j && b j)) ((some_below_is (λ j. c j && b j) n).1 (j, less, and_from (c j) (b j) h g))

    back : (j : ℕ) × (j < n) × (((a j || c j) && b j) ≡ true) → (some_below n (λ j. a j && b j) || some_below n (λ j. c j && b j)) ≡ true
    back s = let p = and_parts (a s.0 || c s.0) (b s.0) s.2 in of s.0 s.1 (or_cases (a s.0) (c s.0) p.0) p.1

-- what the first number of a search tells
pub found_is : (may set : LeafSet) (n : ℕ) (r : Option ℕ) → IfSome r (λ j. (j < n) × (may j ≡ true) × (set j ≡ true)) → IfNone r (some_below n (λ j. may j && set j) ≡ false) → is_some r ≡ some_below n (λ j. may j && set j)
found_is may set n None found none = sym none
found_is may set n (Some j) found none = sym ((some_below_is (λ k. may k && set k) n).1 (j, found.0, and_from (may j) (set j) found.1 found.2))
