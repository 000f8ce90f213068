-- What one line of a script made of a session, and what the lines so far have. Private clauses alone cite this file.
use Rattle.std.specs.Prelude.{◌≡◌, ℕ, ◌+◌, ◌≤◌, ◌⊎◌, false, List, [], ◌∷◌, ◌++◌, length, Option, Some, None, Result, Ok, Err}
use Rattle.cer_base.specs.declared.OrMemory.{OrMemory}
use Rattle.cer_base.specs.declared.OrMemory.TheVariants.{Fault, Memory}
use Rattle.cer_outside.specs.Bytes.{TookAll, TookPart}
use Rattle.cer_outside.specs.Causes.{Rose}
use Rattle.stream_schema.specs.Types.{Declared}
use Rattle.cel_terms.specs.declared.Query.{Query}
use Rattle.answer_blocks.specs.SinkBytes.{TookPrefix}
use Rattle.query_engine.specs.Counts.{MeetMost, HasFewNodes}
use Rattle.query_engine.specs.Engine.{EngineState}
use Rattle.event_reader.specs.declared.EventFault.{EventFault}
use Rattle.event_reader.specs.declared.EventFault.TheVariants as event
use Rattle.event_reader.specs.declared.LineFault.{LineFault}
use Rattle.event_reader.specs.declared.LineFault.TheVariants as line
use Rattle.event_reader.specs.LineReaders.{LineReader, HasGiven}
use Rattle.stream_answers.specs.declared.StreamFault.{StreamFault}
use Rattle.stream_answers.specs.declared.StreamFault.TheVariants as fault
use Rattle.command_session.specs.declared.command.ScriptCommand.{ScriptCommand}
use Rattle.command_session.specs.declared.session.Refusal.{Refusal}
use Rattle.command_session.specs.declared.session.RunFault.{RunFault}
use Rattle.command_session.specs.declared.session.RunFault.TheVariants as run
use Rattle.command_session.specs.SessionModel.{SessionModel, at_first, IsStep, IsRefused}
use Rattle.command_session.specs.Sessions.{Session, Stands, EngineEnded, put_by_in}
use Rattle.command_session.specs.Scripts.{asked_by, refusal_fault, ArePlayed}
use Rattle.command_session.specs.Turns.{Turn, turns_cost, line_events, line_cost, AreTurns}

-- the line has no command, or its command makes this step
abbrev pub IsGood : Declared → List Query → List ℕ → SessionModel → SessionModel → List ℕ → Type 0
IsGood schema queries text old next own =
    ((asked_by schema text ≡ Ok None) × (next ≡ old) × (own ≡ []))
    ⊎ ((asked : ScriptCommand) × (asked_by schema text ≡ Ok (Some asked)) × IsStep schema queries asked old next own)

-- the line is no command, or its command is refused
abbrev pub IsBad : Declared → List Query → List ℕ → SessionModel → EventFault → Type 0
IsBad schema queries text old refused =
    (asked_by schema text ≡ Err refused)
    ⊎ ((asked : ScriptCommand) × (why : Refusal) × (asked_by schema text ≡ Ok (Some asked)) × IsRefused schema queries asked old why × (refused ≡ refusal_fault why))

-- The line was carried out, and the session is the model after it.
pub record WentOn (schema : Declared) (queries : List Query) (text : List ℕ) (old : SessionModel) (new : Session) (before after : Option (List ℕ)) : Type 0 where
  pub next : SessionModel
  pub own : List ℕ
  pub good : IsGood schema queries text old next own
  pub stands : Stands new next
  pub going : new.closed ≡ false
  pub took : TookAll before after own

-- The bytes of the line were cut off.
pub record BrokeOff (schema : Declared) (queries : List Query) (text : List ℕ) (old : SessionModel) (Took : List ℕ → Type 0) : Type 0 where
  pub next : SessionModel
  pub own : List ℕ
  pub good : IsGood schema queries text old next own
  pub took : Took own

-- how the line of this number ended
abbrev pub LineEnded : Declared → List Query → ℕ → List ℕ → SessionModel → Session → Option (List ℕ) → Option (List ℕ) → Result (Unit {0}) (OrMemory StreamFault) → Type 0
LineEnded schema queries number text old new before after (Ok done) = WentOn schema queries text old new before after
LineEnded schema queries number text old new before after (Err (Fault (fault.Event at refused))) = (at ≡ number) × (after ≡ before) × IsBad schema queries text old refused
LineEnded schema queries number text old new before after (Err (Fault fault.WriteFault)) = BrokeOff schema queries text old (TookPart before after)
LineEnded schema queries number text old new before after (Err (Fault (fault.InputTooLong taken))) = ⊥
LineEnded schema queries number text old new before after (Err (Fault fault.ReadFault)) = ⊥
LineEnded schema queries number text old new before after (Err Memory) = (after ≡ before) ⊎ BrokeOff schema queries text old (TookPrefix before after)

-- what a line that was carried out made of the engine: what its command makes of it, and nothing where it has none
abbrev pub LineMade : EngineState → Session → Result (Option ScriptCommand) EventFault → Type 0
LineMade old new (Ok None) = new.engine ≡ old
LineMade old new (Ok (Some asked)) = EngineEnded asked old new (Ok tt)
LineMade old new (Err refused) = ⊥

-- why a command was not carried out, or not to its end, at the line of this number
abbrev pub line_end : ℕ → Result (Unit {0}) RunFault → Result (Unit {0}) (OrMemory StreamFault)
line_end number (Ok done) = Ok done
line_end number (Err (run.Refused why)) = Err (Fault (fault.Event number (refusal_fault why)))
line_end number (Err run.WriteFault) = Err (Fault fault.WriteFault)
line_end number (Err run.Memory) = Err Memory

-- why the line of this number was not read
abbrev pub line_fault : ℕ → OrMemory EventFault → OrMemory StreamFault
line_fault number (Fault refused) = Fault (fault.Event number refused)
line_fault number Memory = Memory

-- the sink's count rose where it failed, and else stays; no line ends by a fault of the source
abbrev pub HasLineCause : ℕ → ℕ → Result (Unit {0}) (OrMemory StreamFault) → Type 0
HasLineCause before now (Ok done) = now ≡ before
HasLineCause before now (Err (Fault fault.WriteFault)) = Rose before now
HasLineCause before now (Err (Fault (fault.Event at refused))) = now ≡ before
HasLineCause before now (Err (Fault (fault.InputTooLong taken))) = ⊥
HasLineCause before now (Err (Fault fault.ReadFault)) = ⊥
HasLineCause before now (Err Memory) = now ≡ before

-- The reader has given lines of a script of these bytes, all of them good, which wrote these bytes and made this model; its source has the bytes left.
pub record HasPlayed (schema : Declared) (queries : List Query) (reader : LineReader) (script : List ℕ) (left : Option (List ℕ)) (machine : SessionModel) (bytes : List ℕ) : Type 0 where
  pub texts : List (List ℕ)
  pub given : HasGiven reader script left texts
  pub played : ArePlayed schema queries at_first [] texts machine bytes

-- The session is a model, and the sink took what the lines so far write.
pub record Goes (schema : Declared) (queries : List Query) (source : Option (List ℕ)) (reader : LineReader) (left before after : Option (List ℕ)) (session : Session) : Type 0 where
  pub machine : SessionModel
  pub stands : Stands session machine
  pub bytes : List ℕ
  pub took : TookAll before after bytes
  pub played : (script : List ℕ) → source ≡ Some script → HasPlayed schema queries reader script left machine bytes

-- THE STEPS

-- the turns with that of a line, where it has a command
abbrev pub turns_with : List Turn → SessionModel → Result (Option ScriptCommand) EventFault → List Turn
turns_with turns machine (Ok (Some asked)) = turns ++ record { asked = asked; found = machine } ∷ []
turns_with turns machine (Ok None) = turns
turns_with turns machine (Err refused) = turns

-- how many steps a line takes at most on the model, with what is put by, where the engine has few nodes
abbrev pub LineCosts : Declared → List Query → EngineState → SessionModel → ℕ → ℕ → Result (Option ScriptCommand) EventFault → Type 0
LineCosts schema queries engine machine before after line = (most : ℕ → ℕ) → MeetMost schema queries (line_events machine line) most → HasFewNodes engine (length machine.events) most →
    after ≤ before + line_cost (length queries) most machine line

-- a line that is refused takes no step
abbrev pub NoStepIfRefused : ℕ → ℕ → Result (Unit {0}) (OrMemory StreamFault) → Type 0
NoStepIfRefused before after (Ok done) = Unit {0}
NoStepIfRefused before after (Err (Fault (fault.Event at refused))) = after ≡ before
NoStepIfRefused before after (Err (Fault fault.WriteFault)) = Unit {0}
NoStepIfRefused before after (Err (Fault (fault.InputTooLong taken))) = Unit {0}
NoStepIfRefused before after (Err (Fault fault.ReadFault)) = Unit {0}
NoStepIfRefused before after (Err Memory) = Unit {0}

-- The lines that the reader has given of a script are good, and these are the turns of their commands.
pub record HasTurns (schema : Declared) (queries : List Query) (reader : LineReader) (script : List ℕ) (left : Option (List ℕ)) (turns : List Turn) (machine : SessionModel) (bytes : List ℕ) : Type 0 where
  pub texts : List (List ℕ)
  pub given : HasGiven reader script left texts
  pub are : AreTurns schema queries at_first [] texts turns machine bytes

-- The steps from the first to now, with what is put by, are bounded by the turns so far, and the engine has no more nodes than the events may have added.
pub record Counting (schema : Declared) (queries : List Query) (source : Option (List ℕ)) (reader : LineReader) (left before after : Option (List ℕ)) (session : Session) (first now : ℕ) : Type 0 where
  pub goes : Goes schema queries source reader left before after session
  pub turns : List Turn
  pub are : (script : List ℕ) → source ≡ Some script → HasTurns schema queries reader script left turns goes.machine goes.bytes
  pub bounded : (most : ℕ → ℕ) → MeetMost schema queries goes.machine.events most → now + put_by_in session ≤ first + turns_cost (length queries) most turns
  pub few : (most : ℕ → ℕ) → MeetMost schema queries goes.machine.events most → HasFewNodes session.engine (length goes.machine.events) most

-- why there is no further line
abbrev pub line_stop : LineFault → StreamFault
line_stop line.ReadFault = fault.ReadFault
line_stop (line.LineTooLong number) = fault.Event number event.LineTooLong
line_stop (line.InputTooLong taken) = fault.InputTooLong taken
