-- The fields of a line that may have quotes, by a walk over its bytes. Private clauses alone cite these.
use Rattle.std.specs.Prelude.{◌≡◌, ℕ, ◌+◌, ◌==◌, ◌<◌, ◌≤◌, ◌-◌, Bool, true, false, if◌then◌else◌, List, [], ◌∷◌, ◌++◌, length, take, drop, Some, Ok}
use Rattle.cer_base.specs.declared.bytes.TheConstants.{COMMA, QUOTE}
use Rattle.stream_schema.specs.Types.{DeclaredType}
use Rattle.stream_schema.specs.Names.{type_number}
use Rattle.stream_schema.specs.declared.Kind.{Kind}
use Rattle.stream_schema.specs.declared.Value.{Value}
use Rattle.event_reader.specs.declared.fields.FieldState.{FieldState}
use Rattle.event_reader.specs.declared.fields.FieldState.TheVariants.{Start, Plain, Quoted, AfterQuote}
use Rattle.event_reader.specs.CommonLines.{BeginsNext}
use Rattle.event_reader.specs.Events.{values_from}
use Rattle.event_reader.specs.Values.{value_of}

-- where a walk stands after a byte outside of quotes that opens none
abbrev pub outside : ℕ → FieldState
outside byte = if byte == COMMA then Start else Plain

-- where it stands after a byte
abbrev pub past : FieldState → ℕ → FieldState
past Start byte = if byte == QUOTE then Quoted else outside byte
past Plain byte = outside byte
past Quoted byte = if byte == QUOTE then AfterQuote else Quoted
past AfterQuote byte = if byte == QUOTE then Quoted else outside byte

-- whether the byte ends the field
abbrev pub ends_cell : FieldState → ℕ → Bool
ends_cell Start byte = byte == COMMA
ends_cell Plain byte = byte == COMMA
ends_cell Quoted byte = false
ends_cell AfterQuote byte = byte == COMMA

-- whether the byte is a quote that stands for no byte
abbrev pub is_mark : FieldState → ℕ → Bool
is_mark Start byte = byte == QUOTE
is_mark Plain byte = false
is_mark Quoted byte = byte == QUOTE
is_mark AfterQuote byte = false

-- the bytes of the field at hand, and this one where it stands for itself
abbrev pub with_byte : FieldState → ℕ → List ℕ → List ℕ
with_byte state byte cell = if is_mark state byte then cell else cell ++ byte ∷ []

-- the number of fields that have ended, this byte read too
abbrev pub with_end : FieldState → ℕ → ℕ → ℕ
with_end state byte count = if ends_cell state byte then count + 1 else count

-- the fields from here on, the first of which has these bytes so far
abbrev pub cells_from : FieldState → List ℕ → List ℕ → List (List ℕ)
cells_from state cell [] = cell ∷ []
cells_from state cell (byte ∷ text) =
    if ends_cell state byte then cell ∷ cells_from Start [] text else cells_from (past state byte) (with_byte state byte cell) text

-- within quotes
abbrev pub is_inside : FieldState → Bool
is_inside Start = false
is_inside Plain = false
is_inside Quoted = true
is_inside AfterQuote = false

-- the text ends inside quotes
abbrev pub ends_inside : FieldState → List ℕ → Bool
ends_inside state [] = is_inside state
ends_inside state (byte ∷ text) = ends_inside (past state byte) text

-- the fields that follow, where a text ends or another field begins
abbrev pub cells_after : List ℕ → List (List ℕ)
cells_after [] = []
cells_after (byte ∷ text) = cells_from Start [] text

-- and whether they end inside quotes
abbrev pub open_after : List ℕ → Bool
open_after [] = false
open_after (byte ∷ text) = ends_inside Start text

-- The text begins with this field, and then these bytes follow.
pub record IsCutOff (text cell after : List ℕ) : Type 0 where
  pub begins : BeginsNext after
  pub cells : cells_from Start [] text ≡ cell ∷ cells_after after
  pub ends : ends_inside Start text ≡ open_after after

-- The same, where the field takes so many bytes of the text.
pub record IsCutAt (text cell : List ℕ) (end : ℕ) : Type 0 where
  pub within : end ≤ length text
  pub cut : IsCutOff text cell (drop end text)

-- So many fields follow the line's first, and the line does not end inside quotes.
pub record HasValueFields (line : List ℕ) (count : ℕ) : Type 0 where
  pub closed : ends_inside Start line ≡ false
  pub counted : length (cells_from Start [] line) ≡ count + 1

-- A walk over the text stands so, with these bytes of the field at hand, before these.
pub record IsWalked (text : List ℕ) (state : FieldState) (cell rest : List ℕ) : Type 0 where
  pub cells : cells_from Start [] text ≡ cells_from state cell rest
  pub ends : ends_inside Start text ≡ ends_inside state rest

-- So far the field stands outside of quotes, which are not opened there, before the bytes behind so many of the text.
pub record IsPlainFrom (text cell : List ℕ) (from : ℕ) : Type 0 where
  pub within : from ≤ length text
  pub walked : IsWalked text Plain cell (drop from text)

-- The field at the beginning of the text has the bytes from one place to another as they stand.
pub record IsPart (text : List ℕ) (start stop end : ℕ) : Type 0 where
  pub low : start ≤ stop
  pub high : stop ≤ length text
  pub cut : IsCutAt text (take (stop - start) (drop start text)) end

-- The text begins with a field of the kind and of this value, and then these bytes follow.
pub record HasCell (kind : Kind) (text : List ℕ) (value : Value) (after : List ℕ) : Type 0 where
  pub cell : List ℕ
  pub cut : IsCutOff text cell after
  pub value_is : value_of kind cell ≡ Some value

-- The same, where the field takes so many bytes of the text.
pub record IsCellUpTo (kind : Kind) (text : List ℕ) (value : Value) (end : ℕ) : Type 0 where
  pub within : end ≤ length text
  pub has : HasCell kind text value (drop end text)

-- From the text on, where a field begins or the text ends, the fields of these kinds give these values, and no quotes are left open.
pub record HasCells (kinds : List Kind) (text : List ℕ) (values : List Value) : Type 0 where
  pub begins : BeginsNext text
  pub closed : open_after text ≡ false
  pub counted : length (cells_after text) ≡ length kinds
  pub values_are : values_from 1 [] kinds (cells_after text) ≡ Ok values

-- The line's first field takes so many bytes and is the name of the type of this number.
pub record IsNamed (types : List DeclaredType) (line : List ℕ) (ty end : ℕ) : Type 0 where
  pub name : List ℕ
  pub cut : IsCutAt line name end
  pub is : Some ty ≡ type_number types name
  pub bound : ty < length types
