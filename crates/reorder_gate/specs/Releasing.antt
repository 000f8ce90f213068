-- Which items may go while others may still come late, and which come too late.
use Rattle.std.specs.Prelude.{◌≡◌, ℕ, ℤ, pos, ◌-ℤ◌, int_lt, int_le, Bool, false, if◌then◌else◌, List, [], ◌∷◌, ◌++◌, Option, Some, None}
use Rattle.std.specs.List.{filter, fold}
use Rattle.reorder_gate.specs.Sorting.{sorted}

-- the greater of the two, or the second where there is no first
abbrev pub raised : Option ℤ → ℤ → ℤ
raised None now = now
raised (Some high) now = if int_lt now high then high else now

-- the clock is more than `late` below the greatest one
abbrev pub is_late : ℕ → Option ℤ → ℤ → Bool
is_late late None now = false
is_late late (Some high) now = int_lt now (high -ℤ pos late)

-- the clock is at least `late` below the greatest one
abbrev pub is_due : ℕ → Option ℤ → ℤ → Bool
is_due late None now = false
is_due late (Some high) now = int_le now (high -ℤ pos late)

module _ {A : Type 0} (clock : A → ℤ) where
  -- the greatest clock, where there is an item
  abbrev pub greatest : List A → Option ℤ
  greatest list = fold (λ high x. Some (raised high (clock x))) None list

  -- none of the items comes too late after a greatest clock and the items before it
  abbrev pub IsInTimeAfter : ℕ → Option ℤ → List A → Type 0
  IsInTimeAfter late high [] = Unit {0}
  IsInTimeAfter late high (x ∷ xs) = (is_late late high (clock x) ≡ false) × IsInTimeAfter late (Some (raised high (clock x))) xs

  -- no item's clock is more than `late` below the greatest one before it
  abbrev pub IsInTime : ℕ → List A → Type 0
  IsInTime late list = IsInTimeAfter late None list

  -- the items that may go after these: sorted, those whose clock is at least `late` below the greatest one
  abbrev pub released : ℕ → List A → List A
  released late list = sorted clock (filter (λ x. is_due late (greatest list) (clock x)) list)

-- The list begins with the items of the front.
abbrev pub BeginsWith : {A : Type 0} → List A → List A → Type 0
BeginsWith {A} front list = (rest : List A) × (list ≡ front ++ rest)
