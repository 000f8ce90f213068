-- Decimal digits, and the whole numbers of signed 64 bits.
use Rattle.std.specs.Prelude.{ℕ, ◌+◌, ◌-◌, ◌*◌, Bool, true, false, List, [], ◌∷◌}

-- the number that the digits write after those of another number
abbrev pub read_on : ℕ → List ℕ → ℕ
read_on value [] = value
read_on value (digit ∷ digits) = read_on (value * 10 + (digit - 48)) digits

-- how far from 0 a number may be: one that is negative, and one that is not
abbrev pub farthest : Bool → ℕ
farthest true = 9223372036854775808
farthest false = 9223372036854775807
