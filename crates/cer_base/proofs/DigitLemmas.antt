-- Reading digits one after the other. For callers of the crate too.
use Rattle.std.proofs.Common.{◌≡◌, ℕ, false, leb, ◌+◌, ◌-◌, ◌*◌, ◌<◌, ◌≤◌, List, [], ◌∷◌, length, get_or, drop, refl, sym, arith, add-one}
use Rattle.std.proofs.Math.Seq.{drop-cons}
use Rattle.std.proofs.lemmas.Bool.{lt-leb}
use Rattle.cer_base.specs.Digits.{read_on}

-- more digits make no number less
pub read_on_grows : (value : ℕ) (digits : List ℕ) → value ≤ read_on value digits
read_on_grows value [] = omega arith
read_on_grows value (digit ∷ digits) = omega (arith, read_on_grows (value * 10 + (digit - 48)) digits)

-- a digit is read before those after it
pub read_on_step : (value : ℕ) (digits : List ℕ) (i : ℕ) → i < length digits → read_on value (drop i digits) ≡ read_on (value * 10 + (get_or digits i 0 - 48)) (drop (i + 1) digits)
read_on_step value digits i lt = rw (add-one, drop-cons digits i 0) refl

-- what is past a limit stays past it
pub out_of_range : (limit value : ℕ) (digits : List ℕ) → limit < value → false ≡ leb (read_on value digits) limit
out_of_range limit value digits lt =
    let over : limit < read_on value digits = omega (arith, read_on_grows value digits) in
    sym (lt-leb _ _ over)
