-- What is wrong with a line of an event file, and why there is no further one, in words.
use Rattle.std.specs.Prelude.{ℕ, List, ◌++◌, decimal, codes}
use Rattle.std.specs.Fmt.{signed_decimal}
use Rattle.cer_base.specs.declared.limits.TheConstants.{LONGEST_LINE}
use Rattle.stream_schema.specs.declared.Kind.{Kind}
use Rattle.stream_schema.specs.declared.Kind.TheVariants as kind
use Rattle.event_reader.specs.declared.EventFault.{EventFault}
use Rattle.event_reader.specs.declared.EventFault.TheVariants as event
use Rattle.event_reader.specs.declared.LineFault.{LineFault}
use Rattle.event_reader.specs.declared.LineFault.TheVariants as line

-- an attribute's kind, as its declaration names it
abbrev pub declared_kind : Kind → List ℕ
declared_kind kind.Int = codes "INT"
declared_kind kind.Text = codes "STRING"
declared_kind kind.Flag = codes "BOOL"
declared_kind (kind.Dec places) = codes "DECIMAL(" ++ decimal places ++ codes ")"

-- the words of an event's fault
abbrev pub event_words : EventFault → List ℕ
event_words event.LineTooLong = codes "line longer than " ++ decimal LONGEST_LINE ++ codes " bytes"
event_words event.BadLine = codes "carriage return or byte order mark in the line"
event_words event.OpenQuote = codes "open quote"
event_words event.UnknownType = codes "unknown type"
event_words (event.FieldCount want got) = decimal got ++ codes " fields where " ++ decimal want ++ codes " is wanted"
event_words (event.BadValue field kind) = codes "field " ++ decimal field ++ codes " is no " ++ declared_kind kind
event_words (event.TimeBack query before now) =
    codes "time falls from " ++ signed_decimal before ++ codes " to " ++ signed_decimal now ++ codes " in query " ++ decimal query
event_words (event.TooLate high now) = codes "time " ++ signed_decimal now ++ codes " comes too late after " ++ signed_decimal high
event_words event.UnknownCommand = codes "unknown command"
event_words (event.NoQuery query) = codes "no query " ++ decimal query
event_words (event.CursorOpen cursor) = codes "cursor " ++ decimal cursor ++ codes " is open"
event_words (event.CursorNotOpen cursor) = codes "cursor " ++ decimal cursor ++ codes " is not open"
event_words event.NoEventYet = codes "no event yet"

-- the words of the fault that lines end with
abbrev pub line_words : LineFault → List ℕ
line_words line.ReadFault = codes "cannot read"
line_words (line.LineTooLong number) = codes "line " ++ decimal number ++ codes " is longer than " ++ decimal LONGEST_LINE ++ codes " bytes"
line_words (line.InputTooLong taken) = codes "input longer than " ++ decimal taken ++ codes " bytes"
