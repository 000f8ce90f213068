-- For callers: what one event more makes of the list of those that were put, and of those that are held.
use Rattle.std.proofs.Common.{◌≡◌, ℕ, suc, ℤ, Bool, true, false, cond, List, [], ◌∷◌, ◌++◌, length, refl, ap, Option, Some, None}
use Rattle.std.specs.Prelude.{int_lt}
use Rattle.std.specs.List.{AllByRecursion}
use Rattle.stream_schema.specs.declared.Event.{Event}
use Rattle.reorder_gate.specs.Sorting.{placed, sorted}
use Rattle.reorder_gate.specs.Releasing.{greatest, IsInTime, released, BeginsWith}
use Rattle.reorder_gate.specs.Gates.{GateState, clock_at, lateness, StandsFor}
use Rattle.reorder_gate.proofs.Placing.{all_placed}
use Rattle.reorder_gate.proofs.Fronts.{one_more_in_time}
use Rattle.reorder_gate.proofs.Standing.{not_late, gone_stays}

-- what has gone before the end stays first, whatever comes in time
pub gone_goes_first : (g : GateState) (put gone more : List (ℕ × Event)) → g.is_finished ≡ false → StandsFor g put gone → IsInTime (clock_at g.places) g.late (put ++ more) →
    BeginsWith gone (released (clock_at g.places) g.late (put ++ more)) × BeginsWith gone (sorted (clock_at g.places) (put ++ more))
gone_goes_first g put gone more going stands in_time = gone_stays g put gone more going stands in_time

-- one more that is not too late
pub one_more : {A : Type 0} (clock : A → ℤ) (late : ℕ) (list : List A) (x : A) → IsInTime clock late list → lateness (greatest clock list) late (clock x) ≡ None → IsInTime clock late (list ++ x ∷ [])
one_more clock late list x in_time not = one_more_in_time clock late None list x in_time (not_late (greatest clock list) late (clock x) not)

-- one more is held
pub placed_length : {A : Type 0} (clock : A → ℤ) (x : A) (ys : List A) → length (placed clock x ys) ≡ suc (length ys)
placed_length clock x [] = refl
placed_length clock x (y ∷ ys) = over (int_lt (clock x) (clock y)) (placed_length clock x ys)
  where
    over : (t : Bool) → length (placed clock x ys) ≡ suc (length ys) → length (cond t (x ∷ y ∷ ys) (y ∷ placed clock x ys)) ≡ suc (length (y ∷ ys))
    over true rest = refl
    over false rest = ap suc rest

-- what holds of it and of those that were held holds of all
pub all_with : {A : Type 0} (P : A → Type 0) (clock : A → ℤ) (x : A) (ys : List A) → P x → AllByRecursion P ys → AllByRecursion P (placed clock x ys)
all_with P clock x ys one all = all_placed clock P x ys one all
