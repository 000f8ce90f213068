-- What the steps of a script over a source are of the host's files, and how the session ends.
use Rattle.std.proofs.Common.{◌≡◌, ℕ, inl, inr, List, Option, Some, None, refl}
use Rattle.cer_outside.specs.Causes.{AllStay}
use Rattle.cer_outside.specs.Content.{Content, HasOpened, OfOpened}
use Rattle.cer_outside.specs.Bytes.{TookAll, TookPart}
use Rattle.answer_blocks.specs.SinkBytes.{TookPrefix}
use Rattle.stream_schema.specs.Types.{Declared}
use Rattle.cel_terms.specs.declared.Query.{Query}
use Rattle.event_run.specs.Runs.{RunStop}
use Rattle.command_words.specs.declared.SessionWords.{SessionWords}
use Rattle.command_base.specs.declared.Cause.{Cause}
use Rattle.command_base.specs.Accepted.{Accepts, SaysOf}
use Rattle.command_base.specs.SourceBytes.{IsRest}
use Rattle.command_base.specs.Sources.{Sources}
use Rattle.command_base.specs.Ending.{Outside, FileStop, TaskEnded}
use Rattle.command_base.proofs.Told.{not_missing, text_not_missing, source_told, text_told, rest_of}
use Rattle.command_base.proofs.Lawful.{takes_accepted}
use Rattle.command_base.proofs.Ends.{Meets, two_files_ended}
use Rattle.cer_base.specs.declared.limits.TheConstants.{MOST_BYTES}
use Rattle.command_session.specs.Scripts.{PlaysTo, BeginsPlay, WritesRead, WroteOver, play_said}
use Rattle.command_session.specs.Played.{WroteSteps, session_task}
use Rattle.command_session.specs.StepCounts.{script_asked}

-- what a script writes that stops so, of any schema and queries
abbrev Plays : RunStop → Declared → List Query → List ℕ → List ℕ → Type 0
Plays halt schema queries script bytes = PlaysTo schema queries MOST_BYTES script bytes halt

abbrev Begins : Declared → List Query → List ℕ → List ℕ → Type 0
Begins schema queries script bytes = BeginsPlay schema queries MOST_BYTES script bytes

abbrev Reads : Option (List ℕ) → Declared → List Query → List ℕ → List ℕ → Type 0
Reads left schema queries script bytes = WritesRead schema queries MOST_BYTES script left bytes

-- what was written over a source is written over the two files
over_files : (content : List ℕ → Content) (s : SessionWords) (schema : Declared) (queries : List Query) (source : Option (List ℕ)) (Are : Declared → List Query → List ℕ → List ℕ → Type 0) (Took : List ℕ → Type 0) →
    OfOpened (content s.queries) (λ text. Accepts text schema queries) → HasOpened (content s.script) source → WroteOver source (Are schema queries) Took →
    WroteSteps content s (λ text script bytes. SaysOf text (λ d qs. Are d qs script bytes)) Took
over_files content s schema queries source Are Took accepted opened wrote = record {
  has_queries = text_not_missing (content s.queries) _ accepted;
  has_script = not_missing (content s.script) source opened;
  bytes = wrote.bytes;
  took = wrote.took;
  are = λ text script first second. record {
    schema = schema;
    queries = queries;
    accepted = text_told (content s.queries) text (λ w. Accepts w schema queries) first accepted;
    says = wrote.are script (source_told (content s.script) source script opened second);
  };
}

-- what is left behind the lines that were read
script_behind : (schema : Declared) (queries : List Query) (left : Option (List ℕ)) (script bytes : List ℕ) → WritesRead schema queries MOST_BYTES script left bytes → IsRest (Some script) left
script_behind schema queries None script bytes read = read
script_behind schema queries (Some rest) script bytes read = (read.read, read.whole)

-- what is said over its source is what a session makes of its files
meets : (o : Outside) (s : SessionWords) (schema : Declared) (queries : List Query) (source : Option (List ℕ)) → OfOpened (o.content s.queries) (λ text. Accepts text schema queries) → HasOpened (o.content s.script) source →
    Meets o (session_task s) (play_said (script_asked schema queries) source o.before o.after)
meets o s schema queries source accepted opened = record {
  files = record { queries = text_not_missing (o.content s.queries) _ accepted; checkpoint = λ has. absurd has; events = not_missing (o.content s.script) source opened };
  stops = λ halt all text kept script first none second. record {
    schema = schema;
    queries = queries;
    accepted = text_told (o.content s.queries) text (λ w. Accepts w schema queries) first accepted;
    fits = refl;
    history = λ has. absurd has;
    stops = (all.bytes, all.are script (source_told (o.content s.script) source script opened second));
  };
  wrote = λ halt all. over_files o.content s schema queries source (Plays halt) (TookAll o.before o.after) accepted opened all;
  rest = λ left read. rest_of (o.content s.script) source left opened (λ script told. script_behind schema queries left script read.bytes (read.are script told));
  read = λ left read. over_files o.content s schema queries source (Reads left) (TookAll o.before o.after) accepted opened read;
  part = λ part. over_files o.content s schema queries source Begins (TookPart o.before o.after) accepted opened part;
  some = λ some. inr (over_files o.content s schema queries source Begins (TookPrefix o.before o.after) accepted opened some);
}

-- its end
pub play_ended : {S H : Type 0} (sources : Sources S) (call : H → List ℕ → H → Type 0) (o : Outside) (s : SessionWords) (first middle last : H) (schema : Declared) (queries : List Query) (whole : List ℕ → Content) (held : List ℕ → ℕ) (given : Cause) (failed : Option S) →
    ((name : List ℕ) → whole name ≡ o.content name) → AllStay o.old held → OfOpened (o.content s.queries) (λ text. Accepts text schema queries) → call first s.queries middle → call middle s.script last →
    FileStop sources (λ source. play_said (script_asked schema queries) source o.before o.after) s.script (record o { content = whole; old = held }) given failed → TaskEnded sources call o (session_task s) first last given failed
play_ended sources call o s first middle last schema queries whole held given failed kept stay accepted one other ends =
    two_files_ended sources call o (session_task s) first middle last (λ source. play_said (script_asked schema queries) source o.before o.after) whole held given failed (λ has. has) (λ source opened. meets o s schema queries source accepted opened)
    (λ same. inl same) kept stay (takes_accepted (o.content s.queries) (session_task s) schema queries refl accepted) one other ends
