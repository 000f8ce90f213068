-- What is read of a source, where it tells its bytes.
use Rattle.std.specs.Prelude.{◌≡◌, ℕ, ◌+◌, ◌≤◌, List, ◌++◌, length, take, Option, Some, None, IfSome}
use Rattle.cer_outside.specs.Content.{Content, Untold, Missing, Holds, OfOpened}

-- the bytes that the host tells of the file
abbrev pub told_of : Content → Option (List ℕ)
told_of Untold = None
told_of Missing = None
told_of (Holds bytes) = Some bytes

-- the bytes are the first ones of the source, at most so many
abbrev pub AreFirst : ℕ → Option (List ℕ) → List ℕ → Type 0
AreFirst most whole bytes = IfSome whole (λ all. bytes ≡ take most all)

-- the same of the file that was opened
abbrev pub AreFirstOf : ℕ → Content → List ℕ → Type 0
AreFirstOf most file bytes = OfOpened file (λ all. bytes ≡ take most all)

-- what is left is the last part of what there was
abbrev pub IsRest : Option (List ℕ) → Option (List ℕ) → Type 0
IsRest None left = Unit {0}
IsRest (Some whole) None = ⊥
IsRest (Some whole) (Some left) = (front : List ℕ) × (whole ≡ front ++ left)

-- at most so many bytes were taken of what there was
abbrev pub TookAtMost : ℕ → Option (List ℕ) → Option (List ℕ) → Type 0
TookAtMost most None left = Unit {0}
TookAtMost most (Some whole) None = ⊥
TookAtMost most (Some whole) (Some left) = length whole ≤ length left + most

-- what is left is the last part of the file that was opened
abbrev pub IsRestOf : Content → Option (List ℕ) → Type 0
IsRestOf Untold left = Unit {0}
IsRestOf Missing left = ⊥
IsRestOf (Holds whole) left = IsRest (Some whole) left

-- at most so many bytes were taken of the file that was opened
abbrev pub TookAtMostOf : ℕ → Content → Option (List ℕ) → Type 0
TookAtMostOf most Untold left = Unit {0}
TookAtMostOf most Missing left = ⊥
TookAtMostOf most (Holds whole) left = TookAtMost most (Some whole) left
