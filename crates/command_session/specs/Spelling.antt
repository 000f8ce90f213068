-- How commands are spelled, apart from how they are read; the laws say that the two agree.
use Rattle.std.specs.Prelude.{◌≡◌, ◌↔◌, ℕ, ◌≤◌, true, List, ◌∷◌, ◌++◌, Some, Ok, Err, codes}
use Rattle.std.specs.Str.Parse.{digits_value}
use Rattle.stream_schema.specs.Types.{Declared}
use Rattle.event_reader.specs.declared.EventFault.{EventFault}
use Rattle.event_reader.specs.Events.{event_of_line}
use Rattle.event_reader.specs.declared.words.TheConstants.{BLANK}
use Rattle.command_session.specs.declared.numbers.TheConstants.{MOST_CURSORS, MOST_PULLED}
use Rattle.command_session.specs.declared.command.ScriptCommand.{ScriptCommand}
use Rattle.command_session.specs.declared.command.ScriptCommand.TheVariants as command
use Rattle.command_session.specs.declared.command.CommandFault.TheVariants as fault
use Rattle.command_session.specs.Numbers.{is_command_number}
use Rattle.command_session.specs.Commands.{command_of}

-- one to ten digits write the number
abbrev pub Writes : List ℕ → ℕ → Type 0
Writes digits n = (is_command_number digits ≡ true) × (digits_value 10 digits ≡ n)

-- and it is from 1 to so many
abbrev pub WritesOneOf : ℕ → List ℕ → ℕ → Type 0
WritesOneOf most digits n = Writes digits n × (1 ≤ n) × (n ≤ most)

-- The text is the command's form.
abbrev pub Spells : Declared → List ℕ → ScriptCommand → Type 0
Spells schema text (command.Event event) = (line : List ℕ) × (text ≡ codes "event " ++ line) × (event_of_line schema line ≡ Ok (Some event))
Spells schema text (command.OpenAt query cursor) =
    (q : List ℕ) × (c : List ℕ) × (text ≡ codes "open " ++ q ++ BLANK ∷ c) × Writes q query × WritesOneOf MOST_CURSORS c cursor
Spells schema text (command.Pull cursor n) =
    (c : List ℕ) × (m : List ℕ) × (text ≡ codes "pull " ++ c ++ BLANK ∷ m) × WritesOneOf MOST_CURSORS c cursor × WritesOneOf MOST_PULLED m n
Spells schema text (command.Drop cursor) = (c : List ℕ) × (text ≡ codes "drop " ++ c) × WritesOneOf MOST_CURSORS c cursor
Spells schema text command.Compact = text ≡ codes "compact"

-- A text that is read as a command spells it, and a text that spells one is read so.
abbrev pub CommandsAreSpelled : Type 0
CommandsAreSpelled = (schema : Declared) (text : List ℕ) (command : ScriptCommand) → (command_of schema text ≡ Ok command) ↔ Spells schema text command

-- An event's refusal is that of the line after `event`.
abbrev pub RefusalsAreOfLines : Type 0
RefusalsAreOfLines = (schema : Declared) (text : List ℕ) (refusal : EventFault) →
    (command_of schema text ≡ Err (fault.Event refusal)) ↔ ((line : List ℕ) × (text ≡ codes "event " ++ line) × (event_of_line schema line ≡ Err refusal))
