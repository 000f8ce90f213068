-- What a reader of lines has given of a file, and what its next answer says.
use Rattle.std.specs.Prelude.{◌≡◌, ℕ, ◌+◌, ◌-◌, ◌<◌, ◌≤◌, ◌==◌, Bool, true, false, if◌then◌else◌, List, [], ◌∷◌, ◌++◌, length, take, Option, Some, None, Result, Ok, Err}
use Rattle.cer_base.specs.declared.bytes.TheConstants.{LINE_FEED}
use Rattle.cer_outside.specs.Causes.{Rose}
use Rattle.event_reader.specs.declared.LineFault.{LineFault}
use Rattle.event_reader.specs.declared.LineFault.TheVariants.{ReadFault, LineTooLong, InputTooLong}
use Rattle.event_reader.specs.declared.reader.Next.{Next}
use Rattle.event_reader.specs.declared.reader.Next.TheVariants.{Line, End}
use Rattle.event_reader.specs.Lines.{FileLines, stops, lines_from, file_lines, unmarked}

-- A reader of lines.
pub record LineReader : Type 0 where
  -- the most bytes that it takes
  pub budget : ℕ
  -- the number of the line that it gave last, 0 before the first
  pub number : ℕ
  -- the text of that line
  pub text : List ℕ
  -- the bytes that it has taken and that are in no line yet
  pub pending : List ℕ
  -- how many bytes from the first of these on the budget leaves
  pub room : ℕ
  -- the last line was given
  pub ended : Bool
  -- no further line is given
  pub closed : Bool

-- the lines that end among these bytes, of the first of which these bytes were read before
abbrev pub ended_from : List ℕ → List ℕ → List (List ℕ)
ended_from line [] = []
ended_from line (byte ∷ bytes) = if byte == LINE_FEED then line ∷ ended_from [] bytes else ended_from (line ++ byte ∷ []) bytes

-- the texts of the lines that end among the first bytes of a file
abbrev pub whole_lines : List ℕ → List (List ℕ)
whole_lines bytes = unmarked (ended_from [] bytes)

-- these lines, and then those
abbrev pub followed_by : List (List ℕ) → FileLines → FileLines
followed_by lines later = record { texts = lines ++ later.texts; fault = later.fault }

-- what a reader gives yet, where its source has these bytes left
abbrev pub to_come : LineReader → List ℕ → FileLines
to_come reader left =
    if reader.ended then stops None else lines_from reader.budget (reader.number + 1) [] (reader.pending ++ left) reader.room

-- The reader has given these texts of a file of these bytes, and its source has these bytes left.
pub record HasRead (reader : LineReader) (bytes left : List ℕ) (texts : List (List ℕ)) : Type 0 where
  -- the bytes of the lines that were given, with their line feeds, and these lines
  pub passed : List ℕ
  pub lines : List (List ℕ)
  pub whole : bytes ≡ passed ++ (reader.pending ++ left)
  pub measured : length passed + reader.room ≡ reader.budget
  pub passed_lines : reader.ended ≡ false → (later : List ℕ) → ended_from [] (passed ++ later) ≡ lines ++ ended_from [] later
  pub counted : length lines ≡ reader.number
  pub texts_are : unmarked lines ≡ texts
  pub rest : lines_from reader.budget 1 [] bytes reader.budget ≡ followed_by lines (to_come reader left)

-- what a reader has given of a source that tells its bytes; it holds of no other
abbrev pub HasGiven : LineReader → List ℕ → Option (List ℕ) → List (List ℕ) → Type 0
HasGiven reader bytes None texts = ⊥
HasGiven reader bytes (Some left) texts = HasRead reader bytes left texts

-- The texts are those of all lines that end among the bytes of the file that are no longer left, which are within the budget, and the first ones of the file.
pub record IsCutOff (budget : ℕ) (bytes left : List ℕ) (texts : List (List ℕ)) : Type 0 where
  pub taken : List ℕ
  pub whole : bytes ≡ taken ++ left
  pub within : length taken ≤ budget
  pub lines : whole_lines taken ≡ texts
  pub first : take (length texts) (file_lines budget bytes).texts ≡ texts

abbrev pub IsCutAt : ℕ → List ℕ → Option (List ℕ) → List (List ℕ) → Type 0
IsCutAt budget bytes None texts = ⊥
IsCutAt budget bytes (Some left) texts = IsCutOff budget bytes left texts

-- These are all lines of a file of these bytes, and why there is no further one: a fault, or none at its end. Where
-- the source failed, these are the lines that ended before.
abbrev pub HasTold : ℕ → List ℕ → Option (List ℕ) → List (List ℕ) → Option LineFault → Type 0
HasTold budget bytes left texts None = file_lines budget bytes ≡ record { texts = texts; fault = None }
HasTold budget bytes left texts (Some ReadFault) = IsCutAt budget bytes left texts
HasTold budget bytes left texts (Some (LineTooLong line)) =
    file_lines budget bytes ≡ record { texts = texts; fault = Some (LineTooLong line) }
HasTold budget bytes left texts (Some (InputTooLong taken)) =
    file_lines budget bytes ≡ record { texts = texts; fault = Some (InputTooLong taken) }

-- the answer that follows these texts of a file of these bytes: its next line, or why there is none
abbrev pub Follows : LineReader → List ℕ → Option (List ℕ) → List (List ℕ) → Result Next LineFault → Type 0
Follows reader bytes left texts (Ok Line) = HasGiven reader bytes left (texts ++ reader.text ∷ [])
Follows reader bytes left texts (Ok End) = HasTold reader.budget bytes left texts None
Follows reader bytes left texts (Err fault) = HasTold reader.budget bytes left texts (Some fault)

-- Of a file of these bytes the source has these left, and gave all before them: at least so many, and at most so many.
pub record HasTaken (bytes left : List ℕ) (least most : ℕ) : Type 0 where
  pub taken : List ℕ
  pub whole : bytes ≡ taken ++ left
  pub at_least : least ≤ length taken
  pub at_most : length taken ≤ most

-- how many bytes may be taken after an answer: no more than the budget, and all of it where the input is too long
abbrev pub HasTakenFor : ℕ → List ℕ → Option (List ℕ) → Result Next LineFault → Type 0
HasTakenFor budget bytes None result = ⊥
HasTakenFor budget bytes (Some left) (Ok next) = HasTaken bytes left 0 budget
HasTakenFor budget bytes (Some left) (Err ReadFault) = HasTaken bytes left 0 budget
HasTakenFor budget bytes (Some left) (Err (LineTooLong line)) = HasTaken bytes left 0 budget
HasTakenFor budget bytes (Some left) (Err (InputTooLong taken)) = HasTaken bytes left budget budget

-- the source's count of faults rose where it failed, and else stays
abbrev pub HasReadCause : ℕ → ℕ → Result Next LineFault → Type 0
HasReadCause before now (Ok next) = now ≡ before
HasReadCause before now (Err ReadFault) = Rose before now
HasReadCause before now (Err (LineTooLong line)) = now ≡ before
HasReadCause before now (Err (InputTooLong taken)) = now ≡ before

-- a fact that holds where the source failed
abbrev pub OnReadFault : Result Next LineFault → Type 0 → Type 0
OnReadFault (Ok next) P = Unit {0}
OnReadFault (Err ReadFault) P = P
OnReadFault (Err (LineTooLong line)) P = Unit {0}
OnReadFault (Err (InputTooLong taken)) P = Unit {0}

-- How the budget, the number of the last line, the room and the end change: each line takes room.
pub record AdvancesTo (old new : LineReader) (number room : ℕ) (closed : Bool) : Type 0 where
  pub budget : new.budget ≡ old.budget
  pub number_is : new.number ≡ number
  pub room_within : new.room ≤ room
  pub closed_is : new.closed ≡ closed

abbrev pub MovesOn : LineReader → LineReader → Result Next LineFault → Type 0
MovesOn old new (Ok Line) = (0 < old.room) × AdvancesTo old new (old.number + 1) (old.room - 1) false
MovesOn old new (Ok End) = AdvancesTo old new old.number old.room true
MovesOn old new (Err fault) = AdvancesTo old new old.number old.room true
