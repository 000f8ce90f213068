-- A line that is read in one pass, field by field. Private clauses alone cite these.
use Rattle.std.specs.Prelude.{◌≡◌, ℕ, ◌==◌, Bool, true, false, ◌||◌, List, [], ◌∷◌, ◌++◌, ◌<◌, ◌≤◌, length, take, drop, Some, Ok}
use Rattle.std.specs.List.{list_any, slice_split}
use Rattle.std.specs.Str.{all_ascii_digits}
use Rattle.std.specs.Str.Parse.{digits_value}
use Rattle.cer_base.specs.declared.bytes.TheConstants.{CARRIAGE_RETURN, COMMA, QUOTE}
use Rattle.stream_schema.specs.declared.Kind.{Kind}
use Rattle.stream_schema.specs.declared.Value.{Value}
use Rattle.event_reader.specs.Cells.{is_comma}
use Rattle.event_reader.specs.Events.{values_from}
use Rattle.event_reader.specs.Values.{value_of}

-- a byte that a line read in one pass has not
abbrev pub is_odd : ℕ → Bool
is_odd byte = byte == QUOTE || byte == CARRIAGE_RETURN

-- the text ends, or another field begins
abbrev pub BeginsNext : List ℕ → Type 0
BeginsNext [] = Unit {0}
BeginsNext (byte ∷ text) = byte ≡ COMMA

-- the fields that follow, where a text ends or another field begins
abbrev pub following : List ℕ → List (List ℕ)
following [] = []
following (byte ∷ text) = slice_split is_comma text

-- These bytes are one field or a part of it.
pub record IsCell (cell : List ℕ) : Type 0 where
  pub plain : list_any is_odd cell ≡ false
  pub whole : list_any is_comma cell ≡ false

-- The text begins with a field of the kind and of this value, and then these bytes follow.
pub record HasField (kind : Kind) (text : List ℕ) (value : Value) (after : List ℕ) : Type 0 where
  pub cell : List ℕ
  pub cut : text ≡ cell ++ after
  pub is_cell : IsCell cell
  pub value_is : value_of kind cell ≡ Some value

-- The text begins with so many digits, at least one, that spell this number, which is below 2 to the 63.
pub record IsNumeralUpTo (text : List ℕ) (size end : ℕ) : Type 0 where
  pub some : 0 < end
  pub within : end ≤ length text
  pub are_digits : all_ascii_digits (take end text) ≡ true
  pub spells : size ≡ digits_value 10 (take end text)
  pub small : size < 9223372036854775808

-- The text begins with a field of the kind and of this value, which has so many bytes.
pub record IsFieldUpTo (kind : Kind) (text : List ℕ) (value : Value) (end : ℕ) : Type 0 where
  pub within : end ≤ length text
  pub field : HasField kind text value (drop end text)

-- From the text on, where a field begins or the text ends, the fields of these kinds give these values.
pub record HasFields (kinds : List Kind) (text : List ℕ) (values : List Value) : Type 0 where
  pub begins : BeginsNext text
  pub plain : list_any is_odd text ≡ false
  pub counted : length (following text) ≡ length kinds
  pub values_are : values_from 1 [] kinds (following text) ≡ Ok values
