-- What an explanation makes of its query file and its event file.
use Rattle.std.specs.Prelude.{List}
use Rattle.stream_schema.specs.Types.{Declared}
use Rattle.cel_terms.specs.declared.Query.{Query}
use Rattle.command_words.specs.declared.ExplainWords.{ExplainWords}
use Rattle.command_base.specs.Reporting.{Reporting, reporting_task}
use Rattle.command_base.specs.Tasks.{Task}
use Rattle.command_explain.specs.ExplanationOutput.{ExplainRequest, IsExplanationOf}

-- what is asked of the events
abbrev pub asked_of : ExplainWords → Declared → List Query → ExplainRequest
asked_of x schema queries = record { schema = schema; queries = queries; question = x.question }

-- it writes the explanation that is asked for, over all events of the file
abbrev pub report_of : ExplainWords → Reporting
report_of x = record { queries = x.queries; events = x.events; reports = λ schema queries lines bytes. IsExplanationOf (asked_of x schema queries) lines bytes }

-- what an explanation is to the program
abbrev pub explain_task : ExplainWords → Task
explain_task x = reporting_task (report_of x)
