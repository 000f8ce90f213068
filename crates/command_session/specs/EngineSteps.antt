-- What a session says to its engine: each of its commands as commands of the model that the engine is to its callers.
use Rattle.std.specs.Prelude.{◌≡◌, ℕ, List, [], ◌∷◌, map, take, Some, slice_get}
use Rattle.stream_schema.specs.Types.{Declared}
use Rattle.cel_terms.specs.declared.Query.{Query}
use Rattle.query_engine.specs.EngineModel as engine
use Rattle.command_session.specs.declared.command.ScriptCommand.{ScriptCommand}
use Rattle.command_session.specs.declared.command.ScriptCommand.TheVariants as command
use Rattle.command_session.specs.SessionModel.{SessionModel, OpenCursor, IsStep, cursor_place}

-- a cursor without its number, and a model of such cursors
abbrev pub unnumbered : OpenCursor → engine.OpenCursor
unnumbered cursor = record { query = cursor.query; position = cursor.position; left = cursor.left }

abbrev pub without_numbers : SessionModel → engine.EngineModel
without_numbers machine = record { events = machine.events; cursors = map unnumbered machine.cursors }

-- commands, each with its answer
abbrev pub Talk : Type 0
Talk = List (engine.Command × engine.Reply)

-- What the engine is asked for, and answers: an event is taken, a cursor is begun, as many answers are pulled as the session gives, a cursor is dropped, a compaction is made.
abbrev pub IsTalk : ScriptCommand → SessionModel → Talk → Type 0
IsTalk (command.Event event) old talk = talk ≡ (engine.Take event, engine.Done) ∷ []
IsTalk (command.OpenAt query cursor) old talk = talk ≡ (engine.Begin query, engine.Done) ∷ []
IsTalk (command.Pull number n) old talk = (k : ℕ) × (cursor : OpenCursor) × (cursor_place number old ≡ Some k) × (slice_get old.cursors k ≡ Some cursor)
    × (talk ≡ map (λ answer. (engine.Pull k, engine.Gives answer)) (take n cursor.left))
IsTalk (command.Drop number) old talk = (k : ℕ) × (cursor_place number old ≡ Some k) × (talk ≡ (engine.Drop k, engine.Done) ∷ [])
IsTalk command.Compact old talk = talk ≡ (engine.Compact, engine.Done) ∷ []

-- The commands are steps of the engine's model, one after the other, with these answers.
pub data AreSteps (schema : Declared) (queries : List Query) : engine.EngineModel → Talk → engine.EngineModel → Type 0 where
  NoStep : (m : engine.EngineModel) → AreSteps schema queries m [] m
  OneMore : (a b c : engine.EngineModel) (command : engine.Command) (reply : engine.Reply) (talk : Talk) → engine.IsStep schema queries a command reply b →
      AreSteps schema queries b talk c → AreSteps schema queries a ((command, reply) ∷ talk) c

-- Each step of a session is such steps.
abbrev pub StepsAreEngineSteps : Type 0
StepsAreEngineSteps = (schema : Declared) (queries : List Query) (command : ScriptCommand) (old new : SessionModel) (bytes : List ℕ) →
    IsStep schema queries command old new bytes → (talk : Talk) × IsTalk command old talk × AreSteps schema queries (without_numbers old) talk (without_numbers new)
