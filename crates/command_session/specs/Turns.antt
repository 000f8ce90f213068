-- How many steps a script takes: of each command that was begun its cost on the model that it found.
use Rattle.std.specs.Prelude.{◌≡◌, ℕ, ◌+◌, ◌≤◌, ◌⊎◌, List, [], ◌∷◌, ◌++◌, length, map, sum, Option, Some, None, Result, Ok, Err}
use Rattle.cer_base.specs.declared.OrMemory.{OrMemory}
use Rattle.cer_outside.specs.Bytes.{TookAll}
use Rattle.stream_schema.specs.Types.{Declared}
use Rattle.stream_schema.specs.declared.Event.{Event as StreamEvent}
use Rattle.cel_terms.specs.declared.Query.{Query}
use Rattle.event_reader.specs.declared.EventFault.{EventFault}
use Rattle.event_reader.specs.Lines.{file_lines}
use Rattle.query_engine.specs.Counts.{MeetMost}
use Rattle.stream_answers.specs.declared.StreamFault.{StreamFault}
use Rattle.stream_answers.specs.RunEnds.{EndClaims, ByEnd}
use Rattle.stream_answers.specs.Streams.{EventsRequest}
use Rattle.command_session.specs.declared.command.ScriptCommand.{ScriptCommand}
use Rattle.command_session.specs.SessionModel.{SessionModel, at_first}
use Rattle.command_session.specs.CommandSteps.{events_with, command_cost}
use Rattle.command_session.specs.Scripts.{asked_by, StepsOn}

-- a command with the model that it finds
pub record Turn : Type 0 where
  pub asked : ScriptCommand
  pub found : SessionModel

-- the cost of each
abbrev pub turns_cost : ℕ → (ℕ → ℕ) → List Turn → ℕ
turns_cost queries most turns = sum (map (λ (turn : Turn). command_cost queries most turn.asked turn.found) turns)

-- The first turn is that of the command on this model, and what is said of the later ones holds.
pub record TakesTurn (asked : ScriptCommand) (old : SessionModel) (turns : List Turn) (Later : List Turn → Type 0) : Type 0 where
  pub later : List Turn
  pub first : turns ≡ record { asked = asked; found = old } ∷ later
  pub follows : Later later

-- What follows from a line that is good, which has no command, or one whose turn comes first.
abbrev pub AfterTurn : Declared → List Query → SessionModel → List Turn → Type 0 → (List Turn → SessionModel → List ℕ → Type 0) → Result (Option ScriptCommand) EventFault → Type 0
AfterTurn schema queries old turns skip go (Ok None) = skip
AfterTurn schema queries old turns skip go (Ok (Some asked)) = TakesTurn asked old turns (λ later. StepsOn schema queries asked old (go later))
AfterTurn schema queries old turns skip go (Err refused) = ⊥

-- All of these lines are good, these are the turns of their commands, and this is the model that they make of the old one; these are the bytes that are then written in all.
abbrev pub AreTurns : Declared → List Query → SessionModel → List ℕ → List (List ℕ) → List Turn → SessionModel → List ℕ → Type 0
AreTurns schema queries old before [] turns new bytes = (turns ≡ []) × (new ≡ old) × (bytes ≡ before)
AreTurns schema queries old before (text ∷ texts) turns new bytes =
    AfterTurn schema queries old turns (AreTurns schema queries old before texts turns new bytes)
    (λ later next own. AreTurns schema queries next (before ++ own) texts later new bytes) (asked_by schema text)

-- the events so far with that of the line's command, if it has one
abbrev pub line_events : SessionModel → Result (Option ScriptCommand) EventFault → List StreamEvent
line_events machine (Ok (Some asked)) = events_with asked machine
line_events machine (Ok None) = machine.events
line_events machine (Err refused) = machine.events

-- the cost of its command
abbrev pub line_cost : ℕ → (ℕ → ℕ) → SessionModel → Result (Option ScriptCommand) EventFault → ℕ
line_cost queries most machine (Ok (Some asked)) = command_cost queries most asked machine
line_cost queries most machine (Ok None) = 0
line_cost queries most machine (Err refused) = 0

-- The steps are bounded by the turns of the first lines of the script, each of them good, whose bytes were taken so.
pub record CountsTurns (a : EventsRequest) (script : List ℕ) (Took : List ℕ → Type 0) (old now : ℕ) : Type 0 where
  pub texts : List (List ℕ)
  pub later : List (List ℕ)
  pub first : (file_lines a.most_bytes script).texts ≡ texts ++ later
  pub turns : List Turn
  pub machine : SessionModel
  pub bytes : List ℕ
  pub are : AreTurns a.schema a.queries at_first [] texts turns machine bytes
  pub took : Took bytes
  pub bounded : (most : ℕ → ℕ) → MeetMost a.schema a.queries machine.events most → now ≤ old + turns_cost (length a.queries) most turns

-- The same, and the command of the line after these counts as well, which was begun.
pub record CountsBegun (a : EventsRequest) (script : List ℕ) (Took : List ℕ → Type 0) (old now : ℕ) : Type 0 where
  pub texts : List (List ℕ)
  pub text : List ℕ
  pub later : List (List ℕ)
  pub first : (file_lines a.most_bytes script).texts ≡ texts ++ text ∷ later
  pub turns : List Turn
  pub machine : SessionModel
  pub bytes : List ℕ
  pub are : AreTurns a.schema a.queries at_first [] texts turns machine bytes
  pub took : Took bytes
  pub bounded : (most : ℕ → ℕ) → MeetMost a.schema a.queries (line_events machine (asked_by a.schema text)) most →
      now ≤ old + (turns_cost (length a.queries) most turns + line_cost (length a.queries) most machine (asked_by a.schema text))

-- the bytes were taken whole, before others or none
abbrev pub TookFirst : Option (List ℕ) → List ℕ → Type 0
TookFirst before bytes = (middle : Option (List ℕ)) × TookAll before middle bytes

-- the steps of a script of these bytes, by how it ended: those of the turns whose bytes were written, and where a write failed or memory ran out the command that was begun as well
abbrev pub turns_said : EventsRequest → List ℕ → Option (List ℕ) → Option (List ℕ) → ℕ → ℕ → EndClaims
turns_said a script before after old now = record {
  stops = λ halt. CountsTurns a script (TookAll before after) old now;
  unread = λ left. CountsTurns a script (TookAll before after) old now;
  unwritten = CountsBegun a script (TookFirst before) old now;
  wants = CountsTurns a script (TookAll before after) old now ⊎ CountsBegun a script (TookFirst before) old now;
}

abbrev pub StepsOverPlay : EventsRequest → List ℕ → Option (List ℕ) → Option (List ℕ) → ℕ → ℕ → {T : Type 0} → Result T (OrMemory StreamFault) → Type 0
StepsOverPlay a script before after old now result = ByEnd (turns_said a script before after old now) None result
