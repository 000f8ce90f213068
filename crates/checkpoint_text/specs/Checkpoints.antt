-- What the lines of a checkpoint tell, line by line, or the first line that is refused.
use Rattle.std.specs.Prelude.{ℕ, ◌+◌, ◌==◌, Bool, false, ◌&&◌, if◌then◌else◌, nat_lt, nat_le, List, [], ◌∷◌, ◌++◌, length, Option, Some, None, bytes_eq, codes, Result, Ok, Err}
use Rattle.stream_schema.specs.Types.{Declared}
use Rattle.stream_schema.specs.declared.Event.{Event}
use Rattle.cel_terms.specs.declared.Query.{Query}
use Rattle.event_reader.specs.declared.EventFault.{EventFault}
use Rattle.event_reader.specs.declared.LineFault.{LineFault}
use Rattle.event_reader.specs.declared.LineFault.TheVariants as line
use Rattle.event_reader.specs.Events.{event_of_line, and_then}
use Rattle.event_reader.specs.Lines.{FileLines, file_lines}
use Rattle.checkpoint_text.specs.declared.CheckpointFault.{CheckpointFault}
use Rattle.checkpoint_text.specs.declared.CheckpointFault.TheVariants as fault
use Rattle.checkpoint_text.specs.declared.stand.NextLine.{NextLine}
use Rattle.checkpoint_text.specs.declared.stand.NextLine.TheVariants.{Header, Counts, Position, EventOf}
use Rattle.checkpoint_text.specs.declared.stand.LineState.{LineState}
use Rattle.cer_base.specs.declared.limits.TheConstants.{MOST_BYTES}
use Rattle.checkpoint_text.specs.declared.history.EventAt.{EventAt}
use Rattle.checkpoint_text.specs.declared.history.History.{History}
use Rattle.checkpoint_text.specs.QueryClocks.{some_falls}
use Rattle.checkpoint_text.specs.Numbers.{counts_of, position_of}

-- What the lines so far have told: where they stand, and the events.
pub record ParseState : Type 0 where
  pub stand : LineState
  pub events : List EventAt

abbrev pub start : LineState
start = record { awaited = Header; positions = 0; count = 0; least = 0 }

abbrev pub nothing : ParseState
nothing = record { stand = start; events = [] }

-- with the counts
abbrev pub counted : LineState → Option (ℕ × ℕ) → Result LineState CheckpointFault
counted stand None = Err fault.BadCount
counted stand (Some counts) = Ok (record stand { awaited = Position; positions = counts.0; count = counts.1 })

-- with the position, which is above each before and below their number
abbrev pub placed : LineState → Option ℕ → Result LineState CheckpointFault
placed stand None = Err fault.BadPosition
placed stand (Some n) =
    if nat_le stand.least n && nat_lt n stand.positions then Ok (record stand { awaited = EventOf n; least = n + 1 }) else Err fault.BadPosition

-- with the next line, which is no event's, after so many events
abbrev pub words_after : LineState → NextLine → ℕ → List ℕ → Result LineState CheckpointFault
words_after stand Header count text =
    if bytes_eq text (codes "core checkpoint 1") then Ok (record stand { awaited = Counts }) else Err fault.BadHeader
words_after stand Counts count text = counted stand (counts_of text)
words_after stand Position count text = if count == stand.count then Err fault.Extra else placed stand (position_of text)
words_after stand (EventOf n) count text = Err fault.BadEvent

abbrev pub with_stand : ParseState → Result LineState CheckpointFault → Result ParseState CheckpointFault
with_stand told (Ok stand) = Ok (record told { stand = stand })
with_stand told (Err fault) = Err fault

-- with the event at the position, with which no clock falls
abbrev pub with_event : Declared → List Query → ParseState → ℕ → Result (Option Event) EventFault → Result ParseState CheckpointFault
with_event schema queries told n (Ok (Some event)) =
    if some_falls schema queries told.events (record { position = n; event = event }) then Err fault.BadEvent
    else Ok (record { stand = record told.stand { awaited = Position }; events = told.events ++ record { position = n; event = event } ∷ [] })
with_event schema queries told n (Ok None) = Err fault.BadEvent
with_event schema queries told n (Err refusal) = Err fault.BadEvent

-- what is told with the next line, or why it is refused
abbrev pub after_text : Declared → List Query → ParseState → NextLine → List ℕ → Result ParseState CheckpointFault
after_text schema queries told Header text = with_stand told (words_after told.stand Header (length told.events) text)
after_text schema queries told Counts text = with_stand told (words_after told.stand Counts (length told.events) text)
after_text schema queries told Position text = with_stand told (words_after told.stand Position (length told.events) text)
after_text schema queries told (EventOf n) text = with_event schema queries told n (event_of_line schema text)

abbrev pub after_line : Declared → List Query → ParseState → List ℕ → Result ParseState CheckpointFault
after_line schema queries told text = after_text schema queries told told.stand.awaited text

-- The line of this number, from 1, is refused, and why.
pub record Refusal : Type 0 where
  pub line : ℕ
  pub fault : CheckpointFault

abbrev pub at_line : {T : Type 0} → ℕ → Result T CheckpointFault → Result T Refusal
at_line number (Ok told) = Ok told
at_line number (Err fault) = Err (record { line = number; fault = fault })

-- what is told with these lines, the first of which has this number
abbrev pub told_on : Declared → List Query → ℕ → ParseState → List (List ℕ) → Result ParseState Refusal
told_on schema queries number told [] = Ok told
told_on schema queries number told (text ∷ texts) =
    and_then (at_line number (after_line schema queries told text)) (λ more. told_on schema queries (number + 1) more texts)

-- what these lines tell, the first ones of a text
abbrev pub told_by : Declared → List Query → List (List ℕ) → Result ParseState Refusal
told_by schema queries texts = told_on schema queries 1 nothing texts

-- all is told that was announced
abbrev pub is_all_told : ParseState → NextLine → Bool
is_all_told told Position = length told.events == told.stand.count
is_all_told told _ = false

abbrev pub history_of : ParseState → History
history_of told = record { positions = told.stand.positions; events = told.events }

-- the text has so many lines, which told this, and no further one: at its end or by this fault of the lines
abbrev pub at_stop : ℕ → ParseState → Option LineFault → Result History Refusal
at_stop lines told None =
    if is_all_told told told.stand.awaited then Ok (history_of told) else Err (record { line = lines + 1; fault = fault.Short })
at_stop lines told (Some (line.LineTooLong number)) = Err (record { line = number; fault = fault.LongLine })
at_stop lines told (Some (line.InputTooLong taken)) = Err (record { line = lines + 1; fault = fault.TooLong })
at_stop lines told (Some line.ReadFault) = Err (record { line = lines + 1; fault = fault.Short })

-- The history that the lines tell, or the first line that is refused.
abbrev pub history_in : Declared → List Query → FileLines → Result History Refusal
history_in schema queries file = and_then (told_by schema queries file.texts) (λ told. at_stop (length file.texts) told file.fault)

-- The history of a text of these bytes.
abbrev pub checkpoint_of : Declared → List Query → List ℕ → Result History Refusal
checkpoint_of schema queries bytes = history_in schema queries (file_lines MOST_BYTES bytes)
