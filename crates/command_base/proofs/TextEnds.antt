-- What holds of a command that writes a text once all events are read. For such commands and `core_top`.
use Rattle.std.proofs.Common.{◌≡◌, ℕ, List, Option, Some, refl}
use Rattle.cer_outside.specs.Causes.{AllStay}
use Rattle.cer_outside.specs.Content.{Content, HasOpened, OfOpened}
use Rattle.stream_schema.specs.Types.{Declared}
use Rattle.stream_schema.specs.declared.Event.{Event}
use Rattle.cel_terms.specs.declared.Query.{Query}
use Rattle.event_run.specs.Runs.{RunStop}
use Rattle.event_run.specs.Runs as stop
use Rattle.event_run.specs.Taking.{AreEventsRead}
use Rattle.event_run.proofs.ForCallers.{one_run_of_trees}
use Rattle.stream_answers.specs.AtEnd.{StopsOver, TextOrStop}
use Rattle.command_base.specs.declared.Cause.{Cause}
use Rattle.cer_base.specs.declared.limits.TheConstants.{MOST_BYTES}
use Rattle.command_base.specs.Accepted.{Accepts}
use Rattle.command_base.specs.Ending.{Outside, FileStop, TaskEnded}
use Rattle.command_base.specs.ReadLines.{AreReadLines, TookAtEnd}
use Rattle.command_base.specs.Reporting.{Reporting, IsOfAll, IsReportOver, IsFileReport, report_said, reporting_task}
use Rattle.command_base.specs.Sources.{Sources}
use Rattle.command_base.proofs.Ends.{Meets, two_files_ended}
use Rattle.command_base.proofs.Lawful.{IsLawful, takes_accepted}
use Rattle.command_base.proofs.Told.{not_missing, text_not_missing, source_told, text_told, read_so_far, read_behind, rest_of}

-- the text goes with a stop at the end
whole_or_stop : (schema : Declared) (queries : List Query) (most_bytes : ℕ) (source before after : Option (List ℕ)) (Tells : List ℕ → Type 0) (halt : RunStop) → ((text : List ℕ) → Tells text → StopsOver schema queries most_bytes source stop.End) →
    TextOrStop Tells (StopsOver schema queries most_bytes source) before after halt → StopsOver schema queries most_bytes source halt
whole_or_stop schema queries most_bytes source before after Tells stop.End ends wrote = ends wrote.0 wrote.1
whole_or_stop schema queries most_bytes source before after Tells (stop.Event line fault) ends wrote = wrote.1
whole_or_stop schema queries most_bytes source before after Tells (stop.InputTooLong taken) ends wrote = wrote.1

-- where the text that is told is of the files, that is what was taken
took_at_end : (Tells Are : List ℕ → Type 0) (Stops : RunStop → Type 0) (before after : Option (List ℕ)) (halt : RunStop) → ((text : List ℕ) → Tells text → Are text) → TextOrStop Tells Stops before after halt → TookAtEnd Are before after halt
took_at_end Tells Are Stops before after stop.End too wrote = (wrote.0, too wrote.0 wrote.1, wrote.2)
took_at_end Tells Are Stops before after (stop.Event line fault) too wrote = wrote.0
took_at_end Tells Are Stops before after (stop.InputTooLong taken) too wrote = wrote.0

-- the lines that were read of a source that failed are good
read_lines : (content : List ℕ → Content) (text events : List ℕ) (schema : Declared) (queries : List Query) (most_bytes : ℕ) (source left : Option (List ℕ)) →
    OfOpened (content text) (λ w. Accepts w schema queries) → HasOpened (content events) source → ((lines : List ℕ) → source ≡ Some lines → (came : List Event) × AreEventsRead schema queries most_bytes lines left came) →
    AreReadLines content text events most_bytes left
read_lines content text events schema queries most_bytes source left accepted opened read = record {
  has_queries = text_not_missing (content text) _ accepted;
  has_events = not_missing (content events) source opened;
  good = λ words lines rest first second same.
      let it = read lines (source_told (content events) source lines opened second) in record {
        schema = schema;
        queries = queries;
        accepted = text_told (content text) words (λ w. Accepts w schema queries) first accepted;
        says = (it.0, read_so_far schema queries most_bytes lines rest left it.0 it.1 same);
      };
}

-- a report over a source of the event file is one over both files
of_files : (content : List ℕ → Content) (w : Reporting) (schema : Declared) (queries : List Query) (source : Option (List ℕ)) → OfOpened (content w.queries) (λ text. Accepts text schema queries) → HasOpened (content w.events) source →
    (bytes : List ℕ) → IsReportOver w schema queries source bytes → IsFileReport content w bytes
of_files content w schema queries source accepted opened bytes over = record {
  has_queries = text_not_missing (content w.queries) _ accepted;
  has_events = not_missing (content w.events) source opened;
  reports = λ text lines first second. record {
    schema = schema;
    queries = queries;
    accepted = text_told (content w.queries) text (λ t. Accepts t schema queries) first accepted;
    says = over lines (source_told (content w.events) source lines opened second);
  };
}

-- what is said over a source is what the command makes of its files
meets : (o : Outside) (w : Reporting) (all : IsOfAll w) (schema : Declared) (queries : List Query) (source : Option (List ℕ)) → OfOpened (o.content w.queries) (λ text. Accepts text schema queries) → HasOpened (o.content w.events) source →
    Meets o (reporting_task w) (report_said w schema queries source o.before o.after)
meets o w all schema queries source accepted opened = record {
  files = record { queries = text_not_missing (o.content w.queries) _ accepted; checkpoint = λ has. absurd has; events = not_missing (o.content w.events) source opened };
  stops = λ halt wrote text kept lines first none second. record {
    schema = schema;
    queries = queries;
    accepted = text_told (o.content w.queries) text (λ t. Accepts t schema queries) first accepted;
    fits = refl;
    history = λ has. absurd has;
    stops = whole_or_stop schema queries MOST_BYTES source o.before o.after (IsReportOver w schema queries source) halt (λ bytes over them same. all schema queries them bytes (over them same)) wrote lines (source_told (o.content w.events) source lines opened second);
  };
  wrote = λ halt wrote. took_at_end (IsReportOver w schema queries source) (IsFileReport o.content w) (StopsOver schema queries MOST_BYTES source) o.before o.after halt (of_files o.content w schema queries source accepted opened) wrote;
  rest = λ left read. rest_of (o.content w.events) source left opened (λ lines told. let it = read.1 lines told in read_behind schema queries MOST_BYTES left lines it.0 it.1);
  read = λ left read. (read.0, read_lines o.content w.queries w.events schema queries MOST_BYTES source left accepted opened read.1);
  part = λ part. (part.0, of_files o.content w schema queries source accepted opened part.0 part.1, part.2);
  some = λ some. some;
}

-- how it ends over its event file
pub reporting_ended : {S H : Type 0} (sources : Sources S) (call : H → List ℕ → H → Type 0) (o : Outside) (w : Reporting) (all : IsOfAll w) (first middle last : H) (schema : Declared) (queries : List Query) (whole : List ℕ → Content) (held : List ℕ → ℕ) (given : Cause) (failed : Option S) →
    ((name : List ℕ) → whole name ≡ o.content name) → AllStay o.old held → OfOpened (o.content w.queries) (λ text. Accepts text schema queries) → call first w.queries middle → call middle w.events last →
    FileStop sources (λ source. report_said w schema queries source o.before o.after) w.events (record o { content = whole; old = held }) given failed → TaskEnded sources call o (reporting_task w) first last given failed
reporting_ended sources call o w all first middle last schema queries whole held given failed kept stay accepted one other ends =
    two_files_ended sources call o (reporting_task w) first middle last (λ source. report_said w schema queries source o.before o.after) whole held given failed (λ has. has) (λ source opened. meets o w all schema queries source accepted opened)
    (λ same. same) kept stay (takes_accepted (o.content w.queries) (reporting_task w) schema queries refl accepted) one other ends

-- what holds of it as a task
pub reporting_is_lawful : (w : Reporting) → IsLawful (reporting_task w)
reporting_is_lawful w = record {
  one = λ schema p q kept lines halt other same one two. (one_run_of_trees schema p q MOST_BYTES lines one.0 two.0 halt other same one.1 two.1).1;
  refused = λ content before after line fault none. none;
  too_long = λ content before after taken none. none;
  nothing = λ content before after none. none;
}
