-- Numbers as they stand in a text: their digits and their decimals.
use Rattle.std.specs.Prelude.{ℕ, ◌==◌, List, [], ◌∷◌, take, if◌then◌else◌}
use Rattle.std.specs.Char.{is_ascii_digit}
use Rattle.std.specs.List.{prefix_len}

-- the digits at the front
abbrev pub digits_at : List ℕ → List ℕ
digits_at bytes = take (prefix_len is_ascii_digit bytes) bytes

-- the digits after a point at the front, none where no point stands there
abbrev pub decimals_at : List ℕ → List ℕ
decimals_at [] = []
decimals_at (byte ∷ bytes) = if byte == 46 then digits_at bytes else []
