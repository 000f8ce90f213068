-- What a script does, line by line, and why it goes no further.
use Rattle.std.specs.Prelude.{◌≡◌, ℕ, ◌+◌, ◌==◌, ◌⊎◌, if◌then◌else◌, List, [], ◌∷◌, ◌++◌, length, Option, Some, None, Result, Ok, Err}
use Rattle.std.specs.Str.Lines.{strip_carriage_return}
use Rattle.cer_base.specs.declared.OrMemory.{OrMemory}
use Rattle.cer_outside.specs.Bytes.{TookAll, TookPart}
use Rattle.stream_schema.specs.Types.{Declared}
use Rattle.cel_terms.specs.declared.Query.{Query}
use Rattle.answer_blocks.specs.SinkBytes.{TookPrefix}
use Rattle.event_reader.specs.declared.EventFault.{EventFault}
use Rattle.event_reader.specs.declared.EventFault.TheVariants as event
use Rattle.event_reader.specs.declared.LineFault.{LineFault}
use Rattle.event_reader.specs.Lines.{file_lines}
use Rattle.event_reader.specs.LineReaders.{whole_lines}
use Rattle.event_run.specs.Runs.{RunStop, stop_of}
use Rattle.event_run.specs.Runs as stop
use Rattle.stream_answers.specs.declared.StreamFault.{StreamFault}
use Rattle.stream_answers.specs.RunEnds.{EndClaims, ByEnd}
use Rattle.stream_answers.specs.Streams.{EventsRequest}
use Rattle.command_session.specs.declared.command.ScriptCommand.{ScriptCommand}
use Rattle.command_session.specs.declared.command.CommandFault.{CommandFault}
use Rattle.command_session.specs.declared.command.CommandFault.TheVariants as command
use Rattle.command_session.specs.declared.session.Refusal.{Refusal}
use Rattle.command_session.specs.declared.session.Refusal.TheVariants as refusal
use Rattle.command_session.specs.Commands.{command_of}
use Rattle.command_session.specs.SessionModel.{SessionModel, at_first, IsStep, IsRefused}

-- why a line is no command, as the fault of a line
abbrev pub command_fault : CommandFault → EventFault
command_fault command.UnknownCommand = event.UnknownCommand
command_fault (command.Event fault) = fault

-- why a command is refused, as the fault of a line
abbrev pub refusal_fault : Refusal → EventFault
refusal_fault (refusal.TimeBack query before now) = event.TimeBack query before now
refusal_fault (refusal.NoQuery query) = event.NoQuery query
refusal_fault refusal.NoEventYet = event.NoEventYet
refusal_fault (refusal.CursorOpen cursor) = event.CursorOpen cursor
refusal_fault (refusal.CursorNotOpen cursor) = event.CursorNotOpen cursor

-- a command that was read, or why it is none
abbrev pub found_command : Result ScriptCommand CommandFault → Result (Option ScriptCommand) EventFault
found_command (Ok command) = Ok (Some command)
found_command (Err refused) = Err (command_fault refused)

-- the command of a line's text: none where it is empty
abbrev pub command_of_line : Declared → List ℕ → Result (Option ScriptCommand) EventFault
command_of_line schema text = if length text == 0 then Ok None else found_command (command_of schema text)

-- What a line asks for; one carriage return at its end does not count.
abbrev pub asked_by : Declared → List ℕ → Result (Option ScriptCommand) EventFault
asked_by schema line = command_of_line schema (strip_carriage_return line)

-- The command is refused, which stops the script at the line of this number.
pub record StopsAt (schema : Declared) (queries : List Query) (asked : ScriptCommand) (old : SessionModel) (number : ℕ) (halt : RunStop) : Type 0 where
  pub why : Refusal
  pub refused : IsRefused schema queries asked old why
  pub stops : halt ≡ stop.Event number (refusal_fault why)

-- The command is carried out, and what follows holds of the model after it and of what it wrote.
pub record StepsOn (schema : Declared) (queries : List Query) (asked : ScriptCommand) (old : SessionModel) (Follows : SessionModel → List ℕ → Type 0) : Type 0 where
  pub next : SessionModel
  pub own : List ℕ
  pub step : IsStep schema queries asked old next own
  pub follows : Follows next own

-- What follows from a line with this command, none, or a refusal, where these bytes were written before it.
abbrev pub AfterCommand : Declared → List Query → ℕ → SessionModel → List ℕ → List ℕ → RunStop → Type 0 → (SessionModel → List ℕ → Type 0) → Result (Option ScriptCommand) EventFault → Type 0
AfterCommand schema queries number old before bytes halt skip go (Ok None) = skip
AfterCommand schema queries number old before bytes halt skip go (Ok (Some asked)) =
    StepsOn schema queries asked old go ⊎ ((bytes ≡ before) × StopsAt schema queries asked old number halt)
AfterCommand schema queries number old before bytes halt skip go (Err refused) = (bytes ≡ before) × (halt ≡ stop.Event number refused)

-- After these bytes were written come these lines, the first of which has this number, and then this fault: the model writes these bytes in all and stops so.
abbrev pub PlaysOn : Declared → List Query → ℕ → SessionModel → List ℕ → List (List ℕ) → Option LineFault → List ℕ → RunStop → Type 0
PlaysOn schema queries number old before [] why bytes halt = (bytes ≡ before) × (halt ≡ stop_of why)
PlaysOn schema queries number old before (text ∷ texts) why bytes halt =
    AfterCommand schema queries number old before bytes halt (PlaysOn schema queries (number + 1) old before texts why bytes halt)
    (λ next own. PlaysOn schema queries (number + 1) next (before ++ own) texts why bytes halt) (asked_by schema text)

-- A script of these bytes, of which so many are too many, writes these bytes and stops so.
abbrev pub PlaysTo : Declared → List Query → ℕ → List ℕ → List ℕ → RunStop → Type 0
PlaysTo schema queries most_bytes script bytes halt =
    PlaysOn schema queries 1 at_first [] (file_lines most_bytes script).texts (file_lines most_bytes script).fault bytes halt

-- What follows from a line that is good: it has no command, or one that is carried out.
abbrev pub AfterGoodCommand : Declared → List Query → SessionModel → Type 0 → (SessionModel → List ℕ → Type 0) → Result (Option ScriptCommand) EventFault → Type 0
AfterGoodCommand schema queries old skip go (Ok None) = skip
AfterGoodCommand schema queries old skip go (Ok (Some asked)) = StepsOn schema queries asked old go
AfterGoodCommand schema queries old skip go (Err refused) = ⊥

-- All of these lines are good: they make this model of the old one, and these are the bytes that are then written in all.
abbrev pub ArePlayed : Declared → List Query → SessionModel → List ℕ → List (List ℕ) → SessionModel → List ℕ → Type 0
ArePlayed schema queries old before [] new bytes = (new ≡ old) × (bytes ≡ before)
ArePlayed schema queries old before (text ∷ texts) new bytes =
    AfterGoodCommand schema queries old (ArePlayed schema queries old before texts new bytes)
    (λ next own. ArePlayed schema queries next (before ++ own) texts new bytes) (asked_by schema text)

-- The lines, all good, write these bytes from the beginning.
pub record Writes (schema : Declared) (queries : List Query) (texts : List (List ℕ)) (bytes : List ℕ) : Type 0 where
  pub machine : SessionModel
  pub played : ArePlayed schema queries at_first [] texts machine bytes

-- The bytes are what the first lines of a script write, all of them good.
pub record BeginsPlay (schema : Declared) (queries : List Query) (most_bytes : ℕ) (script bytes : List ℕ) : Type 0 where
  pub texts : List (List ℕ)
  pub later : List (List ℕ)
  pub first : (file_lines most_bytes script).texts ≡ texts ++ later
  pub writes : Writes schema queries texts bytes

-- The bytes are what the lines write that end among the bytes that are no longer left; these are the first lines of the script, and each of them is good.
pub record WritesBefore (schema : Declared) (queries : List Query) (most_bytes : ℕ) (script rest bytes : List ℕ) : Type 0 where
  pub read : List ℕ
  pub whole : script ≡ read ++ rest
  pub later : List (List ℕ)
  pub first : (file_lines most_bytes script).texts ≡ whole_lines read ++ later
  pub writes : Writes schema queries (whole_lines read) bytes

-- the same of a source that tells what it has left
abbrev pub WritesRead : Declared → List Query → ℕ → List ℕ → Option (List ℕ) → List ℕ → Type 0
WritesRead schema queries most_bytes script None bytes = ⊥
WritesRead schema queries most_bytes script (Some rest) bytes = WritesBefore schema queries most_bytes script rest bytes

-- The sink took bytes so, and where the source told its own, this is what they are.
pub record WroteOver (source : Option (List ℕ)) (Are : List ℕ → List ℕ → Type 0) (Took : List ℕ → Type 0) : Type 0 where
  pub bytes : List ℕ
  pub took : Took bytes
  pub are : (script : List ℕ) → source ≡ Some script → Are script bytes

-- it took all that the script writes, which stops so
abbrev pub WroteAll : EventsRequest → Option (List ℕ) → RunStop → Option (List ℕ) → Option (List ℕ) → Type 0
WroteAll a source halt before after = WroteOver source (λ script bytes. PlaysTo a.schema a.queries a.most_bytes script bytes halt) (TookAll before after)

-- it took a part of what the first lines write
abbrev pub WrotePart : EventsRequest → Option (List ℕ) → (List ℕ → Type 0) → Type 0
WrotePart a source Took = WroteOver source (BeginsPlay a.schema a.queries a.most_bytes) Took

-- what was written, up to the stop; of the lines that were read; a proper part after a fault of the sink; a first part where memory ran out
abbrev pub play_said : EventsRequest → Option (List ℕ) → Option (List ℕ) → Option (List ℕ) → EndClaims
play_said a source before after = record {
  stops = λ halt. WroteAll a source halt before after;
  unread = λ left. WroteOver source (λ script bytes. WritesRead a.schema a.queries a.most_bytes script left bytes) (TookAll before after);
  unwritten = WrotePart a source (TookPart before after);
  wants = WrotePart a source (TookPrefix before after);
}

abbrev pub WrotePlay : EventsRequest → Option (List ℕ) → Option (List ℕ) → Option (List ℕ) → Option (List ℕ) → {T : Type 0} → Result T (OrMemory StreamFault) → Type 0
WrotePlay a source left before after result = ByEnd (play_said a source before after) left result
