-- The command of a line, computed, or why it is none.
use Rattle.std.specs.Prelude.{ℕ, if◌then◌else◌, List, Option, Some, None, option_and_then, option_map, bytes_eq, codes, Result, Ok, Err}
use Rattle.stream_schema.specs.Types.{Declared}
use Rattle.stream_schema.specs.Events.{IsOfSchema}
use Rattle.stream_schema.specs.declared.Event.{Event}
use Rattle.event_reader.specs.declared.EventFault.{EventFault}
use Rattle.event_reader.specs.Events.{event_of_line}
use Rattle.command_session.specs.declared.numbers.TheConstants.{MOST_CURSORS, MOST_PULLED}
use Rattle.command_session.specs.declared.command.ScriptCommand.{ScriptCommand}
use Rattle.command_session.specs.declared.command.ScriptCommand.TheVariants as command
use Rattle.command_session.specs.declared.command.CommandFault.{CommandFault}
use Rattle.command_session.specs.declared.command.CommandFault.TheVariants as fault
use Rattle.event_reader.specs.LineWords.{cut}
use Rattle.command_session.specs.Numbers.{command_number, one_of}

-- the command of an event, where the line gives one
abbrev pub event_command : Result (Option Event) EventFault → Result ScriptCommand CommandFault
event_command (Ok (Some event)) = Ok (command.Event event)
event_command (Ok None) = Err fault.UnknownCommand
event_command (Err refusal) = Err (fault.Event refusal)

abbrev pub open_command : List ℕ × List ℕ → Option ScriptCommand
open_command words = option_and_then (λ query. option_map (λ cursor. command.OpenAt query cursor) (one_of MOST_CURSORS words.1)) (command_number words.0)

abbrev pub pull_command : List ℕ × List ℕ → Option ScriptCommand
pull_command words = option_and_then (λ cursor. option_map (λ n. command.Pull cursor n) (one_of MOST_PULLED words.1)) (one_of MOST_CURSORS words.0)

abbrev pub drop_command : List ℕ → Option ScriptCommand
drop_command cursor = option_map (λ cursor. command.Drop cursor) (one_of MOST_CURSORS cursor)

-- the command of this word, which is no event's, and of what stands after it
abbrev pub other_command : List ℕ → List ℕ → Option ScriptCommand
other_command word rest =
    if bytes_eq word (codes "open") then option_and_then open_command (cut rest)
    else if bytes_eq word (codes "pull") then option_and_then pull_command (cut rest)
    else if bytes_eq word (codes "drop") then drop_command rest
    else None

abbrev pub or_unknown : Option ScriptCommand → Result ScriptCommand CommandFault
or_unknown (Some command) = Ok command
or_unknown None = Err fault.UnknownCommand

-- the command of a text that is cut so
abbrev pub command_in : Declared → List ℕ → Option (List ℕ × List ℕ) → Result ScriptCommand CommandFault
command_in schema text None = if bytes_eq text (codes "compact") then Ok command.Compact else Err fault.UnknownCommand
command_in schema text (Some words) =
    if bytes_eq words.0 (codes "event") then event_command (event_of_line schema words.1) else or_unknown (other_command words.0 words.1)

-- The command of a text.
abbrev pub command_of : Declared → List ℕ → Result ScriptCommand CommandFault
command_of schema text = command_in schema text (cut text)

-- the event, where the command has one, is of the schema
abbrev pub HasEventOf : Declared → ScriptCommand → Type 0
HasEventOf schema (command.Event event) = IsOfSchema schema event
HasEventOf schema _ = Unit {0}
