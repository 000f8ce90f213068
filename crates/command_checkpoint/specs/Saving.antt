-- What a command that saves makes of its query file and its event file.
use Rattle.std.specs.Prelude.{List}
use Rattle.stream_schema.specs.Types.{Declared}
use Rattle.cel_terms.specs.declared.Query.{Query}
use Rattle.stream_answers.specs.Streams.{EventsRequest}
use Rattle.command_words.specs.declared.SaveWords.{SaveWords}
use Rattle.command_base.specs.Reporting.{Reporting, reporting_task}
use Rattle.command_base.specs.Tasks.{Task}
use Rattle.cer_base.specs.declared.limits.TheConstants.{MOST_BYTES}
use Rattle.command_checkpoint.specs.Saved.{IsCheckpointOf}

-- what is asked where a checkpoint is to be written
abbrev pub save_asked : Declared → List Query → EventsRequest
save_asked schema queries = record { schema = schema; queries = queries; most_bytes = MOST_BYTES }

-- it writes the checkpoint of all events that the queries take of the file
abbrev pub report_of : SaveWords → Reporting
report_of s = record { queries = s.queries; events = s.events; reports = λ schema queries lines bytes. IsCheckpointOf schema queries MOST_BYTES lines bytes }

-- what a command that saves is to the program
abbrev pub save_task : SaveWords → Task
save_task s = reporting_task (report_of s)
