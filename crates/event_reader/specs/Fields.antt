-- The fields of a line: those of the first record that the library `csv` defines for it, with comma and double quote.
use Rattle.std.specs.Prelude.{ℕ, Bool, true, false, List, [], ◌∷◌, Option, Some, None}
use Rattle.csv.specs.Machine.{Read, step, next_record}
use Rattle.csv.specs.Reading.{default_config}
use Rattle.csv.specs.declared.parser.State.{State}
use Rattle.csv.specs.declared.parser.State.TheVariants.{StartRecord, StartField, InField, InQuoted, InEscape, AfterQuote, InComment, AfterCr}

-- the state of its machine after these bytes
abbrev pub state_after : State → List ℕ → State
state_after state [] = state
state_after state (byte ∷ bytes) = state_after (step default_config state byte).0 bytes

-- within quotes
abbrev pub is_quoted : State → Bool
is_quoted InQuoted = true
is_quoted StartRecord = false
is_quoted StartField = false
is_quoted InField = false
is_quoted InEscape = false
is_quoted AfterQuote = false
is_quoted InComment = false
is_quoted AfterCr = false

-- the line ends inside quotes
abbrev pub ends_open : List ℕ → Bool
ends_open line = is_quoted (state_after StartRecord line)

-- the fields of a record that was read
abbrev pub fields_of : Option Read → List (List ℕ)
fields_of None = []
fields_of (Some read) = read.0

-- the fields of the line's first record
abbrev pub fields : List ℕ → List (List ℕ)
fields line = fields_of (next_record default_config StartRecord [] [] line)
