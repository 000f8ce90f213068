-- A list by its clocks, and of one clock in the order of arrival.
use Rattle.std.specs.Prelude.{◌≡◌, ℤ, ◌≤ℤ◌, int_lt, if◌then◌else◌, List, [], ◌∷◌}
use Rattle.std.specs.List.{AllByRecursion, filter, fold}
use Rattle.std.specs.Ordering.{int_eq}

module _ {A : Type 0} (clock : A → ℤ) where
  -- the item in a list: after those whose clock is no greater, before the others
  abbrev pub placed : A → List A → List A
  placed x [] = x ∷ []
  placed x (y ∷ ys) = if int_lt (clock x) (clock y) then x ∷ y ∷ ys else y ∷ placed x ys

  -- the items, each placed among those before it
  abbrev pub sorted : List A → List A
  sorted list = fold (λ before x. placed x before) [] list

  -- no item has a greater clock than a later one
  abbrev pub Ascends : List A → Type 0
  Ascends [] = Unit {0}
  Ascends (x ∷ xs) = AllByRecursion (λ y. clock x ≤ℤ clock y) xs × Ascends xs

  -- the items of this clock, in the order of the list
  abbrev pub at_clock : ℤ → List A → List A
  at_clock k list = filter (λ x. int_eq (clock x) k) list

  -- The list ascends, and the items of each clock stand in it as they came. Only one list is so.
  pub record IsInOrder (came list : List A) : Type 0 where
    pub ascends : Ascends list
    pub ties : (k : ℤ) → at_clock k list ≡ at_clock k came
