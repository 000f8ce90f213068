-- Sorting and releasing by a clock of parts.
use Rattle.std.proofs.Common.{◌≡◌, ℕ, ℤ, Bool, true, false, cond, List, [], ◌∷◌, map, refl, ap, ◌∙◌, Option, Some, None}
use Rattle.std.specs.Prelude.{int_lt}
use Rattle.std.specs.List.{filter}
use Rattle.reorder_gate.specs.Sorting.{placed, sorted}
use Rattle.reorder_gate.specs.Releasing.{raised, is_due, greatest, released}
use Rattle.reorder_gate.proofs.Placing.{onto}
use Rattle.reorder_gate.proofs.Fronts.{highest}

module _ {A B : Type 0} (part : A → B) (clock : B → ℤ) where
  abbrev whole_clock : A → ℤ
  whole_clock x = clock (part x)

  map_both : (t : Bool) (xs ys : List A) → map part (cond t xs ys) ≡ cond t (map part xs) (map part ys)
  map_both true xs ys = refl
  map_both false xs ys = refl

  pub placed_parts : (x : A) (ys : List A) → map part (placed whole_clock x ys) ≡ placed clock (part x) (map part ys)
  placed_parts x [] = refl
  placed_parts x (y ∷ ys) = map_both (int_lt (clock (part x)) (clock (part y))) (x ∷ y ∷ ys) (y ∷ placed whole_clock x ys)
      ∙ ap (λ l. cond (int_lt (clock (part x)) (clock (part y))) (part x ∷ part y ∷ map part ys) (part y ∷ l)) (placed_parts x ys)

  onto_parts : (before list : List A) → map part (onto whole_clock before list) ≡ onto clock (map part before) (map part list)
  onto_parts before [] = refl
  onto_parts before (x ∷ xs) = onto_parts (placed whole_clock x before) xs ∙ ap (λ l. onto clock l (map part xs)) (placed_parts x before)

  pub sorted_parts : (list : List A) → map part (sorted whole_clock list) ≡ sorted clock (map part list)
  sorted_parts list = onto_parts [] list

  highest_parts : (high : Option ℤ) (list : List A) → highest whole_clock high list ≡ highest clock high (map part list)
  highest_parts high [] = refl
  highest_parts high (x ∷ xs) = highest_parts (Some (raised high (clock (part x)))) xs

  filter_step : (t : Bool) (x : A) (xs : List A) (ys : List B) → map part xs ≡ ys → map part (cond t (x ∷ xs) xs) ≡ cond t (part x ∷ ys) ys
  filter_step true x xs ys e = ap (λ l. part x ∷ l) e
  filter_step false x xs ys e = e

  filter_parts : (test : B → Bool) (list : List A) → map part (filter (λ x. test (part x)) list) ≡ filter test (map part list)
  filter_parts test [] = refl
  filter_parts test (x ∷ xs) = filter_step (test (part x)) x (filter (λ x. test (part x)) xs) (filter test (map part xs)) (filter_parts test xs)

  pub released_parts : (late : ℕ) (list : List A) → map part (released whole_clock late list) ≡ released clock late (map part list)
  released_parts late list = sorted_parts (filter (λ x. is_due late (greatest whole_clock list) (clock (part x))) list)
      ∙ (ap (sorted clock) (filter_parts (λ y. is_due late (greatest whole_clock list) (clock y)) list)
      ∙ ap (λ high. sorted clock (filter (λ y. is_due late high (clock y)) (map part list))) (highest_parts None list))
