-- A number for the values of a key, which few keys share, and the marks of the keys that were met.
use Rattle.std.specs.Prelude.{◌≡◌, ℕ, ◌+◌, ◌*◌, ◌%◌, Bool, true, false, List, unsigned_abs, slice_get, slice_index_or}
use Rattle.std.specs.List.{fold}
use Rattle.std.specs.Option.{option_map_or}
use Rattle.stream_schema.specs.declared.Value.{Value}
use Rattle.stream_schema.specs.declared.Value.TheVariants as value
use Rattle.partition_table.specs.declared.marks.TheConstants.{MARKS}

-- what it is with one number more, below 2 to the power of 64
abbrev pub spread : ℕ → ℕ → ℕ
spread before number = ((before * 31) % 18446744073709551616 + number) % 18446744073709551616

abbrev pub text_number : List ℕ → ℕ
text_number text = fold spread 0 text

abbrev pub flag_number : Bool → ℕ
flag_number true = 1
flag_number false = 0

-- of a decimal number its places are left out
abbrev pub value_number : Value → ℕ
value_number (value.Int n) = unsigned_abs n
value_number (value.Text t) = text_number t
value_number (value.Flag b) = flag_number b
value_number (value.Dec n places) = unsigned_abs n

abbrev pub spread_value : ℕ → Value → ℕ
spread_value before v = spread before (value_number v)

abbrev pub digest : List Value → ℕ
digest values = fold spread_value 0 values

-- a place without a value is left out
abbrev pub spread_there : List Value → ℕ → ℕ → ℕ
spread_there values before place = option_map_or (spread_value before) (slice_get values place) before

-- the same of the values at the places
abbrev pub digest_there : List ℕ → List Value → ℕ
digest_there places values = fold (spread_there values) 0 places

-- a key of this digest is marked, where there is a mark for it
abbrev pub is_marked : List Bool → ℕ → Bool
is_marked marks number = slice_index_or marks (number % MARKS) true

abbrev pub IsMarked : List Bool → List Value → Type 0
IsMarked marks key = is_marked marks (digest key) ≡ true
