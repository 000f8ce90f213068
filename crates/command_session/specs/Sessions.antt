-- What contracts see of a session, which model it is, and how a command may end.
use Rattle.std.specs.Prelude.{◌≡◌, ℕ, ◌+◌, ◌*◌, ◌^◌, ◌<◌, ◌≤◌, ◌⊎◌, Bool, true, false, List, [], ◌∷◌, length, map, take, All, Option, Some, slice_get, Result, Ok, Err}
use Rattle.stream_schema.specs.Types.{Declared}
use Rattle.stream_schema.specs.declared.Event.{Event as StreamEvent}
use Rattle.cel_terms.specs.declared.Query.{Query}
use Rattle.cel_terms.specs.Answers.{Answer}
use Rattle.cer_outside.specs.Bytes.{TookAll, TookPart}
use Rattle.cer_base.specs.declared.OrMemory.{OrMemory}
use Rattle.cer_base.specs.declared.OrMemory.TheVariants as or
use Rattle.cer_outside.specs.Causes.{Rose}
use Rattle.cer_outside.specs.declared.WriteFault.{WriteFault as Failure}
use Rattle.query_engine.specs.Bounds.{update_bound, for_each_query}
use Rattle.query_engine.specs.declared.sizes.Size.{Size}
use Rattle.query_engine.specs.Engine.{EngineState, Open, StandsFor, SameQueries, Fits, rest, count_of, found_of, len_of, peak_of, update_bounds}
use Rattle.query_engine.specs.Sizes.{put_by}
use Rattle.query_engine.specs.Compacting.{IsLeft, compact_bounds}
use Rattle.query_engine.specs.Windows.{IsDense, FollowsWindow, HasAdded}
use Rattle.query_engine.specs.Keys.{HasAddedKeys, KeysFollowWindow}
use Rattle.query_engine.specs.Holding.{answer_of}
use Rattle.answer_blocks.specs.RowSteps.{delays}
use Rattle.answer_blocks.specs.SinkBytes.{TookPrefix}
use Rattle.command_session.specs.declared.command.ScriptCommand.{ScriptCommand}
use Rattle.command_session.specs.declared.command.ScriptCommand.TheVariants as command
use Rattle.command_session.specs.declared.session.RunFault.{RunFault}
use Rattle.command_session.specs.declared.session.RunFault.TheVariants.{Refused, WriteFault, Memory}
use Rattle.command_session.specs.declared.opened.CursorNumber.{CursorNumber}
use Rattle.command_session.specs.SessionModel.{SessionModel, OpenCursor, at_first, IsStep, IsRefused, cursor_place}

-- What contracts see of a session: its engine, the numbers of its open cursors with the positions at which they were opened, the cursors in the same order, whether it is closed, and what was kept of each query once it was compacted last.
pub record Session : Type 0 where
  pub engine : EngineState
  pub opened : List CursorNumber
  pub cursors : List Open
  pub closed : Bool
  pub bases : List Size

-- what is put by for the next compactions of the queries that grow
abbrev pub put_by_in : Session → ℕ
put_by_in session = put_by session.engine session.bases

-- the answers that a cursor of the engine has not given
abbrev pub left_of : EngineState → Open → List Answer
left_of engine cursor = map answer_of (rest engine cursor)

abbrev pub cursor_seen : EngineState → CursorNumber → Open → OpenCursor
cursor_seen engine opened cursor = record { number = opened.number; query = cursor.query; position = opened.position; left = left_of engine cursor }

-- the open cursors, in order
abbrev pub cursors_seen : EngineState → List CursorNumber → List Open → List OpenCursor
cursors_seen engine [] cursors = []
cursors_seen engine (o ∷ opened) [] = []
cursors_seen engine (o ∷ opened) (c ∷ cursors) = cursor_seen engine o c ∷ cursors_seen engine opened cursors

-- The session is the model: its engine stands for the events, and the cursors have those answers left.
pub record Stands (session : Session) (machine : SessionModel) : Type 0 where
  pub events : StandsFor session.engine machine.events
  pub cursors : machine.cursors ≡ cursors_seen session.engine session.opened session.cursors

-- The session has the schema and the queries, took no event, and has no open cursor.
pub record IsNew (schema : Declared) (queries : List Query) (session : Session) : Type 0 where
  pub given : (session.engine.schema ≡ schema) × (session.engine.queries ≡ queries)
  pub stands : Stands session at_first
  pub count : count_of session.engine ≡ 0
  pub going : session.closed ≡ false
  pub nothing_put_by : put_by_in session ≡ 0

-- What a session keeps: each cursor has a number, and can be pulled from the engine.
pub record IsKept (engine : EngineState) (opened : List CursorNumber) (cursors : List Open) : Type 0 where
  pub count : length opened ≡ length cursors
  pub fit : All (Fits engine) cursors

-- for an event there is a position after it
abbrev pub HasRoom : EngineState → ScriptCommand → Type 0
HasRoom engine (command.Event event) = count_of engine + 1 < 2 ^ 64
HasRoom engine _ = Unit {0}

-- Nothing has changed, and nothing was written.
pub record IsUnchanged (old new : Session) (before after : Option (List ℕ)) : Type 0 where
  pub session : new ≡ old
  pub written : after ≡ before

-- One step was made and written whole, and the session is the model after it.
pub record Went (schema : Declared) (queries : List Query) (command : ScriptCommand) (machine : SessionModel) (new : Session) (before after : Option (List ℕ)) : Type 0 where
  pub next : SessionModel
  pub bytes : List ℕ
  pub step : IsStep schema queries command machine next bytes
  pub stands : Stands new next
  pub going : new.closed ≡ false
  pub took : TookAll before after bytes

-- The session closed while the bytes of one step were written, of which the sink took as many as said.
pub record Broke (schema : Declared) (queries : List Query) (command : ScriptCommand) (machine : SessionModel) (new : Session) (Took : List ℕ → Type 0) : Type 0 where
  pub next : SessionModel
  pub bytes : List ℕ
  pub step : IsStep schema queries command machine next bytes
  pub closed : new.closed ≡ true
  pub took : Took bytes

-- a command whose bytes may be cut off: that of an event, and a pull
abbrev pub Writes : ScriptCommand → Type 0
Writes (command.Event event) = Unit {0}
Writes (command.Pull cursor n) = Unit {0}
Writes _ = ⊥

-- Where memory ran out in a pull its bytes are cut off, and for an event nothing has changed or its bytes are cut off; else nothing has changed.
abbrev pub Wanted : ScriptCommand → Type 0 → Type 0 → Type 0
Wanted (command.Event event) unchanged broke = unchanged ⊎ broke
Wanted (command.Pull cursor n) unchanged broke = broke
Wanted _ unchanged broke = unchanged

-- How a command ends, from a session that is the model.
abbrev pub Ended : ScriptCommand → Session → SessionModel → Session → Option (List ℕ) → Option (List ℕ) → Result (Unit {0}) RunFault → Type 0
Ended command old machine new before after (Ok done) = Went old.engine.schema old.engine.queries command machine new before after
Ended command old machine new before after (Err (Refused f)) = IsRefused old.engine.schema old.engine.queries command machine f × IsUnchanged old new before after
Ended command old machine new before after (Err WriteFault) =
    Writes command × Broke old.engine.schema old.engine.queries command machine new (TookPart before after)
Ended command old machine new before after (Err Memory) =
    Wanted command (IsUnchanged old new before after) (Broke old.engine.schema old.engine.queries command machine new (TookPrefix before after))

-- The sink's count of faults rose where a write failed, and else stays.
abbrev pub HasRunCause : ℕ → ℕ → Result (Unit {0}) RunFault → Type 0
HasRunCause before now (Err WriteFault) = Rose before now
HasRunCause before now _ = now ≡ before

-- What a compaction of the engine leaves, these cursors being held: the nodes and keys that they and the windows need, so that these follow the windows, and the states that were found.
pub record HasCompacted (old new : EngineState) (held : List Open) : Type 0 where
  pub left : IsLeft new held
  pub dense : (events : List StreamEvent) → IsDense old events → IsDense new events
  pub window : (events : List StreamEvent) → StandsFor old events → IsDense old events → FollowsWindow new events held
  pub keys : (events : List StreamEvent) → StandsFor old events → KeysFollowWindow new events
  pub found : (query : ℕ) → found_of new query ≡ found_of old query
  pub fewer : (query : ℕ) → len_of new query ≤ len_of old query
  pub peak : (query : ℕ) → peak_of new query ≡ peak_of old query

-- What an event that was taken adds to the engine: states, nodes and keys.
pub record HasTaken (event : StreamEvent) (old new : EngineState) : Type 0 where
  pub added : HasAdded old new event
  pub keys : HasAddedKeys old new event

-- What is left of the engine where queries that have grown are compacted: the states that were found, and no more nodes.
pub record IsTended (old new : EngineState) : Type 0 where
  pub dense : (events : List StreamEvent) → IsDense old events → IsDense new events
  pub found : (query : ℕ) → found_of new query ≡ found_of old query
  pub fewer : (query : ℕ) → len_of new query ≤ len_of old query
  pub peak : (query : ℕ) → peak_of new query ≡ peak_of old query

-- The event was taken, and then queries that have grown may have been compacted.
pub record HasGoneOn (event : StreamEvent) (old new : EngineState) : Type 0 where
  pub between : EngineState
  pub same : SameQueries old between
  pub taken : HasTaken event old between
  pub tended : IsTended between new

-- an event that was taken is added to the engine, also where its position was not written whole; else the engine stays
abbrev pub IsAddedTo : StreamEvent → EngineState → EngineState → Result (Unit {0}) RunFault → Type 0
IsAddedTo event old new (Ok done) = HasTaken event old new
IsAddedTo event old new (Err (Refused why)) = new ≡ old
IsAddedTo event old new (Err WriteFault) = HasTaken event old new
IsAddedTo event old new (Err Memory) = (new ≡ old) ⊎ HasTaken event old new

-- and once its position was written, the session goes on
abbrev pub EventAdds : StreamEvent → EngineState → EngineState → Result (Unit {0}) RunFault → Type 0
EventAdds event old new (Ok done) = HasGoneOn event old new
EventAdds event old new (Err why) = IsAddedTo event old new (Err why)

-- the engine is compacted, or it stays
abbrev pub CompactionLeaves : EngineState → EngineState → List Open → Result (Unit {0}) RunFault → Type 0
CompactionLeaves old new held (Ok done) = HasCompacted old new held
CompactionLeaves old new held (Err why) = new ≡ old

-- What a command makes of the engine: an event adds, after which queries that have grown are compacted, a compaction leaves what is needed, and all else changes nothing.
abbrev pub EngineEnded : ScriptCommand → EngineState → Session → Result (Unit {0}) RunFault → Type 0
EngineEnded (command.Event event) old new result = EventAdds event old new.engine result
EngineEnded (command.OpenAt query cursor) old new result = new.engine ≡ old
EngineEnded (command.Pull cursor n) old new result = new.engine ≡ old
EngineEnded (command.Drop cursor) old new result = new.engine ≡ old
EngineEnded command.Compact old new result = CompactionLeaves old new.engine new.cursors result

-- how many steps a pull from a cursor may take: the delay of each answer that it gives, and one
abbrev pub pull_bound : ℕ → OpenCursor → ℕ
pull_bound n cursor = delays (take n cursor.left) + 1

-- no step where the command is refused, and else so many
abbrev pub UnlessRefused : ℕ → ℕ → Type 0 → Result (Unit {0}) RunFault → Type 0
UnlessRefused before after Bounded (Ok done) = Bounded
UnlessRefused before after Bounded (Err (Refused why)) = after ≡ before
UnlessRefused before after Bounded (Err WriteFault) = Bounded
UnlessRefused before after Bounded (Err Memory) = Bounded

-- so many steps for each query with so many states found, which pays for the query's compactions too
abbrev pub paid_bounds : EngineState → ℕ
paid_bounds engine = for_each_query (length engine.queries) (λ k. 28 * update_bound (found_of engine k))

-- so many for an event that is taken, none where it is refused, unless memory ran out
abbrev pub TakingIsWithin : Session → ℕ → ℕ → Result (Unit {0}) RunFault → Type 0
TakingIsWithin new before after (Ok done) = after ≤ before + update_bounds new.engine
TakingIsWithin new before after (Err (Refused why)) = after ≡ before
TakingIsWithin new before after (Err WriteFault) = after ≤ before + update_bounds new.engine
TakingIsWithin new before after (Err Memory) = Unit {0}

-- so many for an event, with what is put by at it, none where it is refused, unless memory ran out
abbrev pub EventIsWithin : Session → Session → ℕ → ℕ → Result (Unit {0}) RunFault → Type 0
EventIsWithin old new before after (Ok done) = after + put_by_in new ≤ before + put_by_in old + paid_bounds new.engine
EventIsWithin old new before after (Err why) = TakingIsWithin new before after (Err why)

-- so many for a pull from the cursor of the model that has the number
abbrev pub PullIsWithin : ℕ → ℕ → SessionModel → ℕ → ℕ → Type 0
PullIsWithin number n machine before after =
    (place : ℕ) (one : OpenCursor) → cursor_place number machine ≡ Some place → slice_get machine.cursors place ≡ Some one → after ≤ before + pull_bound n one

-- How many steps a command takes at most, none where it is refused. An event for which memory ran out is left open here.
abbrev pub StepsAreWithin : ScriptCommand → Session → SessionModel → Session → ℕ → ℕ → Result (Unit {0}) RunFault → Type 0
StepsAreWithin (command.Event event) old machine new before after result = EventIsWithin old new before after result
StepsAreWithin (command.OpenAt query cursor) old machine new before after result = UnlessRefused before after (after ≤ before + update_bound (found_of old.engine query)) result
StepsAreWithin (command.Pull cursor n) old machine new before after result = UnlessRefused before after (PullIsWithin cursor n machine before after) result
StepsAreWithin (command.Drop cursor) old machine new before after result = after ≡ before
StepsAreWithin command.Compact old machine new before after result = after ≤ before + compact_bounds old.engine

-- what a write that stopped is to a session
abbrev pub as_run_fault : OrMemory Failure → RunFault
as_run_fault (or.Fault f) = WriteFault
as_run_fault or.Memory = Memory
