-- What a run over late events makes of its query file and its event file.
use Rattle.std.specs.Prelude.{List, Some}
use Rattle.stream_schema.specs.Types.{Declared}
use Rattle.cel_terms.specs.declared.Query.{Query}
use Rattle.reorder_gate.specs.AttributeClock.{clock_fits}
use Rattle.command_words.specs.declared.ReorderWords.{ReorderWords}
use Rattle.command_base.specs.Answering.{Answering, answering_task}
use Rattle.command_base.specs.Tasks.{Task}
use Rattle.command_reorder.specs.Late.{LateRequest, RunsLate}
use Rattle.command_reorder.specs.LateOutput.{AreReleasedRead}

-- what is asked of the events
abbrev pub feed_of : ReorderWords → Declared → List Query → LateRequest
feed_of w schema queries = record { order = w.order; schema = schema; queries = queries; clock = w.clock; late = w.late; most_bytes = w.most_bytes }

-- It writes the answers over the events of the file by their clocks, where each declared type has the clock. Where its source fails these are the events that need not wait, of the lines that end before what is left, each of them good and a first line of the file.
-- What waits when a line is refused or the file is too long is not answered.
abbrev pub answers_of : ReorderWords → Answering
answers_of w = record {
  queries = w.queries;
  events = w.events;
  clock = Some w.clock;
  fits = λ schema. clock_fits schema w.clock;
  order = w.order;
  every = w.compact_every;
  most_bytes = w.most_bytes;
  takes = λ schema queries. RunsLate (feed_of w schema queries);
  read = λ schema queries. AreReleasedRead (feed_of w schema queries);
}

-- what a run over late events is to the program
abbrev pub reorder_task : ReorderWords → Task
reorder_task w = answering_task (answers_of w)
