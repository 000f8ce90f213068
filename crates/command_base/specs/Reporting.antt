-- What a command makes of its query file and its event file that writes a text once all events are read.
use Rattle.std.specs.Prelude.{◌≡◌, ◌≢◌, ℕ, true, List, Option, Some, None}
use Rattle.cer_outside.specs.Content.{Content, Missing, Holds}
use Rattle.stream_schema.specs.Types.{Declared}
use Rattle.stream_schema.specs.declared.Event.{Event}
use Rattle.cel_terms.specs.declared.Query.{Query}
use Rattle.event_run.specs.Runs.{End, RunsTo}
use Rattle.stream_answers.specs.AtEnd.{text_said}
use Rattle.stream_answers.specs.RunEnds.{EndClaims}
use Rattle.cer_base.specs.declared.limits.TheConstants.{MOST_BYTES}
use Rattle.command_base.specs.Accepted.{SaysOf}
use Rattle.command_base.specs.ReadLines.{whole_said}
use Rattle.command_base.specs.Tasks.{Task}

-- The names of its files. `reports schema queries lines text`: the text is what it writes of a file of these bytes, all of whose events the queries take.
pub record Reporting : Type 1 where
  pub queries : List ℕ
  pub events : List ℕ
  pub reports : Declared → List Query → List ℕ → List ℕ → Type 0

-- a text is written only of all events
abbrev pub IsOfAll : Reporting → Type 0
IsOfAll w = (schema : Declared) (queries : List Query) (lines text : List ℕ) → w.reports schema queries lines text → (events : List Event) × RunsTo schema queries MOST_BYTES lines events End

-- the text is written of all events of a source, where it tells its bytes
abbrev pub IsReportOver : Reporting → Declared → List Query → Option (List ℕ) → List ℕ → Type 0
IsReportOver w schema queries source text = (lines : List ℕ) → source ≡ Some lines → w.reports schema queries lines text

-- what is said of its end over a source
abbrev pub report_said : Reporting → Declared → List Query → Option (List ℕ) → Option (List ℕ) → Option (List ℕ) → EndClaims
report_said w schema queries source before after = text_said schema queries MOST_BYTES (IsReportOver w schema queries source) source before after

-- The host lacks neither file, and where it tells their bytes, this is what is written of them.
pub record IsFileReport (content : List ℕ → Content) (w : Reporting) (bytes : List ℕ) : Type 0 where
  pub has_queries : content w.queries ≢ Missing
  pub has_events : content w.events ≢ Missing
  pub reports : (text lines : List ℕ) → content w.queries ≡ Holds text → content w.events ≡ Holds lines → SaysOf text (λ schema queries. w.reports schema queries lines bytes)

-- what it is to the program
abbrev pub reporting_task : Reporting → Task
reporting_task w = record {
  queries = w.queries;
  checkpoint = None;
  events = w.events;
  clock = None;
  fits = λ schema. true;
  stops = λ schema queries kept lines halt. (events : List Event) × RunsTo schema queries MOST_BYTES lines events halt;
  said = λ content. whole_said content w.queries w.events MOST_BYTES (IsFileReport content w);
}
