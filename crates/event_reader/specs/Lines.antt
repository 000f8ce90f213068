-- The lines of the first bytes of a file.
use Rattle.std.specs.Prelude.{ℕ, Bool, ◌+◌, ◌-◌, ◌==◌, ◌||◌, false, if◌then◌else◌, nat_le, nat_eq, List, [], ◌∷◌, ◌++◌, length, drop, Option, Some, None}
use Rattle.std.specs.List.{list_any, starts_with}
use Rattle.cer_base.specs.declared.bytes.TheConstants.{CARRIAGE_RETURN, LINE_FEED}
use Rattle.cer_base.specs.declared.limits.TheConstants.{LONGEST_LINE}
use Rattle.event_reader.specs.declared.LineFault.{LineFault}
use Rattle.event_reader.specs.declared.LineFault.TheVariants.{LineTooLong, InputTooLong}

-- some byte is a line feed
abbrev pub has_line_feed : List ℕ → Bool
has_line_feed bytes = list_any (λ b. b == LINE_FEED) bytes

-- the first byte is a line feed or a carriage return
abbrev pub begins_with_end : List ℕ → Bool
begins_with_end [] = false
begins_with_end (byte ∷ bytes) = byte == LINE_FEED || byte == CARRIAGE_RETURN

-- The lines without their line feeds, and why there is no further one: a fault, or none at the end.
pub record FileLines : Type 0 where
  pub texts : List (List ℕ)
  pub fault : Option LineFault

-- no line, and this is why
abbrev pub stops : Option LineFault → FileLines
stops fault = record { texts = []; fault = fault }

-- the line of this number and those after it, where it is not too long
abbrev pub with_line : ℕ → List ℕ → FileLines → FileLines
with_line number line later =
    if nat_le (length line) LONGEST_LINE then record { texts = line ∷ later.texts; fault = later.fault } else stops (Some (LineTooLong number))

-- as many bytes were taken as may be, the last of them those of a line without an end
abbrev pub at_budget : ℕ → ℕ → List ℕ → FileLines
at_budget budget number line =
    if nat_le (length line) LONGEST_LINE then stops (Some (InputTooLong budget)) else stops (Some (LineTooLong number))

-- the file ends, and a last line may lack its line feed
abbrev pub at_end : ℕ → List ℕ → FileLines
at_end number line = if length line == 0 then stops None else with_line number line (stops None)

-- the lines from the one of this number on, of which these bytes were read, then these follow, and so many may still be taken
abbrev pub lines_from : ℕ → ℕ → List ℕ → List ℕ → ℕ → FileLines
lines_from budget number line [] room = if room == 0 then at_budget budget number line else at_end number line
lines_from budget number line (byte ∷ bytes) room =
    if room == 0 then at_budget budget number line
    else if byte == LINE_FEED then with_line number line (lines_from budget (number + 1) [] bytes (room - 1))
    else lines_from budget number (line ++ byte ∷ []) bytes (room - 1)

-- the line without a byte order mark at its beginning
abbrev pub without_mark : List ℕ → List ℕ
without_mark line = if starts_with nat_eq line (239 ∷ 187 ∷ 191 ∷ []) then drop 3 line else line

-- the text of a line before which so many lines stand
abbrev pub line_text : ℕ → List ℕ → List ℕ
line_text before line = if before == 0 then without_mark line else line

-- the first line alone loses a byte order mark
abbrev pub unmarked : List (List ℕ) → List (List ℕ)
unmarked [] = []
unmarked (first ∷ texts) = without_mark first ∷ texts

-- the lines of the file of which so many bytes count
abbrev pub file_lines : ℕ → List ℕ → FileLines
file_lines budget bytes =
    record { texts = unmarked (lines_from budget 1 [] bytes budget).texts; fault = (lines_from budget 1 [] bytes budget).fault }
