-- How many steps each command of a session takes at most, by the states that the runs over all events meet.
use Rattle.std.specs.Prelude.{ℕ, ◌+◌, ◌*◌, ◌≤◌, List, [], ◌∷◌, ◌++◌, length, option_and_then, slice_get}
use Rattle.std.specs.Option.{option_map_or}
use Rattle.stream_schema.specs.declared.Event.{Event}
use Rattle.query_engine.specs.Bounds.{update_bound, for_each_query}
use Rattle.query_engine.specs.Counts.{MeetMost, HasFewNodes, compaction_bound}
use Rattle.command_session.specs.declared.command.ScriptCommand.{ScriptCommand}
use Rattle.command_session.specs.declared.command.ScriptCommand.TheVariants as command
use Rattle.command_session.specs.SessionModel.{SessionModel, cursor_place}
use Rattle.command_session.specs.Sessions.{Session, put_by_in, pull_bound}

-- the events so far, and the one that the command brings
abbrev pub events_with : ScriptCommand → SessionModel → List Event
events_with (command.Event event) machine = machine.events ++ event ∷ []
events_with (command.OpenAt query cursor) machine = machine.events
events_with (command.Pull cursor n) machine = machine.events
events_with (command.Drop cursor) machine = machine.events
events_with command.Compact machine = machine.events

-- the steps of a pull from the cursor of this number, none where it is not open
abbrev pub pull_cost : ℕ → ℕ → SessionModel → ℕ
pull_cost number n machine = option_map_or (pull_bound n) (option_and_then (slice_get machine.cursors) (cursor_place number machine)) 0

-- The steps of a command on the model: for an event 28 times the bound of an update of each query, which pays for the compactions that the session makes by itself, for an opening that of its query, for a pull the delay of each answer and one, for a compaction nine times the bound of an update for each query and event.
abbrev pub command_cost : ℕ → (ℕ → ℕ) → ScriptCommand → SessionModel → ℕ
command_cost queries most (command.Event event) machine = for_each_query queries (λ k. 28 * update_bound (most k))
command_cost queries most (command.OpenAt query cursor) machine = update_bound (most query)
command_cost queries most (command.Pull cursor n) machine = pull_cost cursor n machine
command_cost queries most (command.Drop cursor) machine = 0
command_cost queries most command.Compact machine = compaction_bound queries most (length machine.events)

-- However many states of each query the runs over the events meet, the steps, with what is put by before and after, are bounded by them, where the engine has no more nodes than the events may have added.
abbrev pub CostsAtMost : ScriptCommand → Session → SessionModel → Session → ℕ → ℕ → Type 0
CostsAtMost command old machine new before after = (most : ℕ → ℕ) → MeetMost old.engine.schema old.engine.queries (events_with command machine) most →
    HasFewNodes old.engine (length machine.events) most → after + put_by_in new ≤ before + put_by_in old + command_cost (length old.engine.queries) most command machine
