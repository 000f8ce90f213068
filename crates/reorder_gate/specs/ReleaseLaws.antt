-- Laws of sorting and releasing, which follow from their definitions.
use Rattle.std.specs.Prelude.{◌≡◌, ◌↔◌, ℕ, ℤ, true, false, List, [], ◌∷◌, ◌++◌, Some, map}
use Rattle.std.specs.List.Sorted.{IsPermutation}
use Rattle.stream_schema.specs.Types.{Declared}
use Rattle.stream_schema.specs.Events.{IsOfSchema}
use Rattle.stream_schema.specs.declared.Event.{Event}
use Rattle.stream_schema.specs.declared.Value.TheVariants as value
use Rattle.reorder_gate.specs.AttributeClock.{clock_fits, clock_value, attribute_clock}
use Rattle.reorder_gate.specs.Gates.{GateState, clock_at, StandsFor}
use Rattle.reorder_gate.specs.Sorting.{placed, sorted, IsInOrder}
use Rattle.reorder_gate.specs.Releasing.{is_late, greatest, IsInTime, released, BeginsWith}

-- Sorting moves the items, and neither loses nor makes one.
abbrev pub SortingMoves : Type 0 → Type 0
SortingMoves A = (clock : A → ℤ) (list : List A) → IsPermutation list (sorted clock list)

-- What comes out ascends, ties as they came.
abbrev pub SortingOrders : Type 0 → Type 0
SortingOrders A = (clock : A → ℤ) (list : List A) → IsInOrder clock list (sorted clock list)

-- No other list does.
abbrev pub SortedIsUnique : Type 0 → Type 0
SortedIsUnique A = (clock : A → ℤ) (came list : List A) → IsInOrder clock came list → list ≡ sorted clock came

-- One item more is placed among those that are sorted.
abbrev pub SortedGrows : Type 0 → Type 0
SortedGrows A = (clock : A → ℤ) (list : List A) (x : A) → sorted clock (list ++ x ∷ []) ≡ placed clock x (sorted clock list)

-- Sorting by a clock of parts, and then taking the parts, is sorting the parts.
abbrev pub SortingKeepsParts : Type 0 → Type 0 → Type 0
SortingKeepsParts A B = (part : A → B) (clock : B → ℤ) (list : List A) →
    map part (sorted (λ x. clock (part x)) list) ≡ sorted clock (map part list)

-- The same of what is released.
abbrev pub ReleasingKeepsParts : Type 0 → Type 0 → Type 0
ReleasingKeepsParts A B = (part : A → B) (clock : B → ℤ) (late : ℕ) (list : List A) →
    map part (released (λ x. clock (part x)) late list) ≡ released clock late (map part list)

-- The front of a list with no item too late has none.
abbrev pub FrontsAreInTime : Type 0 → Type 0
FrontsAreInTime A = (clock : A → ℤ) (late : ℕ) (list more : List A) → IsInTime clock late (list ++ more) → IsInTime clock late list

-- One item more comes in time exactly where it is not too late after those before it.
abbrev pub InTimeGrows : Type 0 → Type 0
InTimeGrows A = (clock : A → ℤ) (late : ℕ) (list : List A) (x : A) →
    IsInTime clock late (list ++ x ∷ []) ↔ (IsInTime clock late list × (is_late late (greatest clock list) (clock x) ≡ false))

-- What is released stays first, whatever comes that is not too late.
abbrev pub ReleasedIsFinal : Type 0 → Type 0
ReleasedIsFinal A = (clock : A → ℤ) (late : ℕ) (list more : List A) → IsInTime clock late (list ++ more) →
    BeginsWith (released clock late list) (sorted clock (list ++ more))

-- What is released later begins with it.
abbrev pub ReleasedGrows : Type 0 → Type 0
ReleasedGrows A = (clock : A → ℤ) (late : ℕ) (list more : List A) → IsInTime clock late (list ++ more) →
    BeginsWith (released clock late list) (released clock late (list ++ more))

-- An event of a schema that the attribute fits has its clock as the attribute's value.
abbrev pub FittingClocksAreTold : Type 0
FittingClocksAreTold = (schema : Declared) (name : List ℕ) (event : Event) → clock_fits schema name ≡ true → IsOfSchema schema event →
    clock_value schema name event ≡ Some (value.Int (attribute_clock schema name event))

-- What has gone before the end stays first, whatever comes that is not too late: of what is released then, and of all sorted.
abbrev pub GoneIsFinal : Type 0
GoneIsFinal = (g : GateState) (put gone more : List (ℕ × Event)) → g.is_finished ≡ false → StandsFor g put gone → IsInTime (clock_at g.places) g.late (put ++ more) →
    BeginsWith gone (released (clock_at g.places) g.late (put ++ more)) × BeginsWith gone (sorted (clock_at g.places) (put ++ more))
