-- Lists in which no element stands twice.
use Rattle.std.specs.Prelude.{List, [], ◌∷◌, Contains}

-- no element stands in the list twice
abbrev pub HasNoRepeats : {A : Type 0} → List A → Type 0
HasNoRepeats [] = Unit {0}
HasNoRepeats (x ∷ xs) = (Contains xs x → ⊥) × HasNoRepeats xs
