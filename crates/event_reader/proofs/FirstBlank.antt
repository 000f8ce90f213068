-- A text cut at its first blank; for callers.
use Rattle.std.proofs.Common.{◌≡◌, ℕ, suc, ◌+◌, ◌||◌, Bool, true, false, not, cond, List, [], ◌∷◌, ◌++◌, length, take, drop, refl, ap, ◌∙◌, Option, Some, None, arith, rules}
use Rattle.std.specs.Prelude.{nat_lt, option_map}
use Rattle.std.specs.List.{list_any, position_or_len}
use Rattle.std.proofs.lemmas.Bool.{eqb-true, lt-ltb}
use Rattle.event_reader.specs.LineWords.{is_blank, cut}

-- the same by recursion
abbrev pub parts : List ℕ → Option (List ℕ × List ℕ)
parts [] = None
parts (x ∷ xs) = cond (is_blank x) (Some ([], xs)) (option_map (λ p. (x ∷ p.0, p.1)) (parts xs))

-- the text cut at a place
abbrev cut_at : ℕ → List ℕ → Option (List ℕ × List ℕ)
cut_at at text = cond (nat_lt at (length text)) (Some (take at text, drop (at + 1) text)) None

one_later : (x : ℕ) (xs : List ℕ) (at : ℕ) → cut_at (suc at) (x ∷ xs) ≡ option_map (λ p. (x ∷ p.0, p.1)) (cut_at at xs)
one_later x xs at = grind arith

flipped : (t : Bool) (m n : ℕ) → cond (not t) m n ≡ cond t n m
flipped true m n = refl
flipped false m n = refl

first_or_later : (x : ℕ) (xs : List ℕ) → position_or_len is_blank (x ∷ xs) ≡ cond (is_blank x) 0 (1 + position_or_len is_blank xs)
first_or_later x xs = flipped (is_blank x) (1 + position_or_len is_blank xs) 0

pub cut_is : (text : List ℕ) → cut text ≡ parts text
cut_is [] = refl
cut_is (x ∷ xs) = ap (λ n. cut_at n (x ∷ xs)) (first_or_later x xs) ∙ by_test (is_blank x) (cut_is xs)
  where
    by_test : (t : Bool) → cut xs ≡ parts xs → cut_at (cond t 0 (1 + position_or_len is_blank xs)) (x ∷ xs) ≡ cond t (Some ([], xs)) (option_map (λ p. (x ∷ p.0, p.1)) (parts xs))
    by_test true e = rw (lt-ltb 0 (length (x ∷ xs)) (omega arith)) refl
    by_test false e =
        let next : 1 + position_or_len is_blank xs ≡ suc (position_or_len is_blank xs) = omega arith in
        ap (λ n. cut_at n (x ∷ xs)) next ∙ (one_later x xs (position_or_len is_blank xs) ∙ ap (option_map (λ p. (x ∷ p.0, p.1))) e)

pub one_some : {X : Type 0} (x y : X) → Some x ≡ Some y → x ≡ y
one_some x y e = cc

pub mapped_some : {X Y : Type 0} (f : X → Y) (o : Option X) (y : Y) → option_map f o ≡ Some y → (x : X) × (o ≡ Some x) × (f x ≡ y)
mapped_some f None y e = absurd (search (rules, e))
mapped_some f (Some x) y e = (x, refl, cc)

-- what is cut joins again
pub parts_join : (text a b : List ℕ) → parts text ≡ Some (a, b) → text ≡ a ++ 32 ∷ b
parts_join [] a b e = absurd (search (rules, e))
parts_join (x ∷ xs) a b e = by_test (is_blank x) refl e (λ c d f. parts_join xs c d f)
  where
    by_test : (t : Bool) → is_blank x ≡ t → cond {A = Option (List ℕ × List ℕ)} t (Some ([], xs)) (option_map (λ p. (x ∷ p.0, p.1)) (parts xs)) ≡ Some (a, b) → ((c d : List ℕ) → parts xs ≡ Some (c, d) → xs ≡ c ++ 32 ∷ d) → x ∷ xs ≡ a ++ 32 ∷ b
    by_test true blank f rest = ap (λ byte. byte ∷ xs) (eqb-true x 32 blank) ∙ ap (λ p. p.0 ++ 32 ∷ p.1) (one_some ([], xs) (a, b) f)
    by_test false blank f rest =
        let found = mapped_some (λ (p : List ℕ × List ℕ). (x ∷ p.0, p.1)) (parts xs) (a, b) f in
        ap (λ l. x ∷ l) (rest found.0.0 found.0.1 found.1) ∙ ap (λ p. p.0 ++ 32 ∷ p.1) found.2

-- a word without blanks is cut off
pub parts_of : (a b : List ℕ) → list_any is_blank a ≡ false → parts (a ++ 32 ∷ b) ≡ Some (a, b)
parts_of [] b none = refl
parts_of (x ∷ xs) b none = by_test (is_blank x) none (parts_of xs b)
  where
    by_test : (t : Bool) → (t || list_any is_blank xs) ≡ false → (list_any is_blank xs ≡ false → parts (xs ++ 32 ∷ b) ≡ Some (xs, b)) → cond {A = Option (List ℕ × List ℕ)} t (Some ([], xs ++ 32 ∷ b)) (option_map (λ p. (x ∷ p.0, p.1)) (parts (xs ++ 32 ∷ b))) ≡ Some (x ∷ xs, b)
    by_test true e rest = absurd (search (rules, e))
    by_test false e rest = ap (option_map (λ p. (x ∷ p.0, p.1))) (rest e)
