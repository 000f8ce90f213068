-- What a run makes of its query file and its event file.
use Rattle.std.specs.Prelude.{[], None, true}
use Rattle.event_run.specs.Runs.{RunsTo}
use Rattle.event_run.specs.Taking.{AreEventsReadAfter}
use Rattle.command_words.specs.declared.RunWords.{RunWords}
use Rattle.command_base.specs.Answering.{Answering, answering_task}
use Rattle.command_base.specs.Tasks.{Task}

-- It writes the answers over the events of the file, in the order of their lines. Where its source fails these are the events of the lines that end before what is left, each of them good and a first line of the file.
abbrev pub answers_of : RunWords → Answering
answers_of r = record {
  queries = r.queries;
  events = r.events;
  clock = None;
  fits = λ schema. true;
  order = r.order;
  every = r.compact_every;
  most_bytes = r.most_bytes;
  takes = λ schema queries. RunsTo schema queries r.most_bytes;
  read = λ schema queries left lines events. AreEventsReadAfter [] schema queries r.most_bytes lines left events;
}

-- what a run is to the program
abbrev pub run_task : RunWords → Task
run_task r = answering_task (answers_of r)
