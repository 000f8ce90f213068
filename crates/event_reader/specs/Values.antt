-- The value of a field, by the kind that it is to be of.
use Rattle.std.specs.Prelude.{ℕ, ℤ, pos, neg_ℤ, ◌-◌, ◌^◌, ◌==◌, Bool, true, false, ◌&&◌, if◌then◌else◌, nat_le, nat_lt, List, ◌++◌, length, map, replicate, Option, Some, None, option_map, bytes_eq, codes}
use Rattle.std.specs.List.{before_first, after_first, position_or_len}
use Rattle.std.specs.Str.{all_ascii_digits, is_utf8}
use Rattle.std.specs.Char.{to_ascii_lowercase}
use Rattle.std.specs.Str.Parse.{digits_value, starts_with_minus, without_leading_sign}
use Rattle.stream_schema.specs.declared.Kind.{Kind}
use Rattle.stream_schema.specs.declared.Kind.TheVariants as kind
use Rattle.stream_schema.specs.declared.Value.{Value}
use Rattle.stream_schema.specs.declared.Value.TheVariants as value

-- a point
abbrev pub is_point : ℕ → Bool
is_point byte = byte == 46

-- the text has a point
abbrev pub has_point : List ℕ → Bool
has_point text = nat_lt (position_or_len is_point text) (length text)

-- one digit or more
abbrev pub is_numeral : List ℕ → Bool
is_numeral text = nat_lt 0 (length text) && all_ascii_digits text

-- digits, and then nothing or a point with at least one digit and at most so many
abbrev pub is_decimal : ℕ → Bool → List ℕ → List ℕ → Bool
is_decimal places point whole fraction =
    is_numeral whole && (if point then is_numeral fraction && nat_le (length fraction) places else true)

-- its digits with so many places, zeros standing for those that are missing
abbrev pub digits_of : ℕ → List ℕ → List ℕ → List ℕ
digits_of places whole fraction = whole ++ fraction ++ replicate (places - length fraction) 48

-- the greatest size of a number of signed 64 bits
abbrev pub greatest : Bool → ℕ
greatest true = 2 ^ 63
greatest false = 2 ^ 63 - 1

-- the number of this sign and size, where it has signed 64 bits
abbrev pub signed : Bool → ℕ → Option ℤ
signed minus size = if nat_le size (greatest minus) then Some (if minus then neg_ℤ (pos size) else pos size) else None

-- the number that the text spells, times ten to the power of the places
abbrev pub scaled_by : ℕ → Bool → List ℕ → Option ℤ
scaled_by places minus text =
    if is_decimal places (has_point text) (before_first is_point text) (after_first is_point text) then signed minus (digits_value 10 (digits_of places (before_first is_point text) (after_first is_point text))) else None

-- the number of so many places that a field, which may have a sign, stands for
abbrev pub scaled : ℕ → List ℕ → Option ℤ
scaled places field = scaled_by places (starts_with_minus field) (without_leading_sign field)

-- a truth value in any ASCII case
abbrev pub flag : List ℕ → Option Bool
flag word = if bytes_eq word (codes "true") then Some true else if bytes_eq word (codes "false") then Some false else None

-- the value, where the field is of the kind
abbrev pub value_of : Kind → List ℕ → Option Value
value_of kind.Int field = option_map (λ n. value.Int n) (scaled 0 field)
value_of (kind.Dec places) field = option_map (λ n. value.Dec n places) (scaled places field)
value_of kind.Flag field = option_map (λ b. value.Flag b) (flag (map to_ascii_lowercase field))
value_of kind.Text field = if is_utf8 field then Some (value.Text field) else None
