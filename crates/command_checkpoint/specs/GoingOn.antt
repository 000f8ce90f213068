-- What a run that goes on from a checkpoint makes of its query file, its checkpoint and its event file.
-- A history leaves open which blank events it has: what comes after it is said of all streams that it tells.
use Rattle.std.specs.Prelude.{◌≡◌, ◌≢◌, ℕ, ◌⊎◌, true, List, Option, Some, None, Ok}
use Rattle.cer_outside.specs.Content.{Content, Missing, Holds}
use Rattle.cer_outside.specs.Bytes.{TookPart}
use Rattle.answer_blocks.specs.SinkBytes.{TookPrefix}
use Rattle.stream_schema.specs.Types.{Declared}
use Rattle.stream_schema.specs.declared.Event.{Event}
use Rattle.cel_terms.specs.declared.Query.{Query}
use Rattle.event_run.specs.Runs.{RunStop, RunsAfter}
use Rattle.event_run.specs.Taking.{AreEventsReadAfter}
use Rattle.checkpoint_text.specs.declared.history.History.{History}
use Rattle.checkpoint_text.specs.Checkpoints.{checkpoint_of}
use Rattle.stream_answers.specs.RunEnds.{EndClaims}
use Rattle.stream_answers.specs.Streams.{RunRequest, WroteOverAfter, WroteAllAfter, WrotePartOfAfter}
use Rattle.command_words.specs.declared.ResumeWords.{ResumeWords}
use Rattle.command_base.specs.Accepted.{Accepts}
use Rattle.command_base.specs.SourceBytes.{told_of}
use Rattle.command_base.specs.Tasks.{Task}
use Rattle.command_checkpoint.specs.Resumed.{AfterEach}

-- what is asked of the events of the event file
abbrev pub resume_asked_of : ResumeWords → Declared → List Query → RunRequest
resume_asked_of r schema queries = record { order = r.order; schema = schema; queries = queries; most_bytes = r.most_bytes }

-- The text is accepted, the checkpoint tells a history for its queries, and this is said of every stream of that.
pub record SaysAfter (text kept : List ℕ) (Says : Declared → List Query → List Event → Type 0) : Type 0 where
  pub schema : Declared
  pub queries : List Query
  pub history : History
  pub accepted : Accepts text schema queries
  pub told : checkpoint_of schema queries kept ≡ Ok history
  pub says : AfterEach schema history (Says schema queries)

-- The host lacks none of the three files, and where it tells the query text and the checkpoint, this is said of every stream of its history.
pub record OverHistory (content : List ℕ → Content) (r : ResumeWords) (Says : Declared → List Query → List Event → Type 0) : Type 0 where
  pub has_queries : content r.queries ≢ Missing
  pub has_checkpoint : content r.checkpoint ≢ Missing
  pub has_events : content r.events ≢ Missing
  pub over : (text kept : List ℕ) → content r.queries ≡ Holds text → content r.checkpoint ≡ Holds kept → SaysAfter text kept Says

-- All answers at the positions after the history were written, over the events of the event file, which stop so.
abbrev pub WroteAllResumed : (List ℕ → Content) → ResumeWords → RunStop → Option (List ℕ) → Option (List ℕ) → Type 0
WroteAllResumed content r halt before after =
    OverHistory content r (λ schema queries earlier. WroteAllAfter earlier (resume_asked_of r schema queries) (told_of (content r.events)) halt before after)

-- Those over the events of the lines that end among the bytes that a source, which failed, no longer has left.
abbrev pub WroteReadResumed : (List ℕ → Content) → ResumeWords → Option (List ℕ) → Option (List ℕ) → Option (List ℕ) → Type 0
WroteReadResumed content r left before after =
    OverHistory content r (λ schema queries earlier. WroteOverAfter earlier (resume_asked_of r schema queries) (told_of (content r.events)) (λ lines events. AreEventsReadAfter earlier schema queries r.most_bytes lines left events) before after)

-- A part of them.
abbrev pub WrotePartResumed : (List ℕ → Content) → ResumeWords → (List ℕ → Type 0) → Type 0
WrotePartResumed content r Took = OverHistory content r (λ schema queries earlier. WrotePartOfAfter earlier (resume_asked_of r schema queries) (told_of (content r.events)) Took)

-- What the output has taken, from before to after: as after a run, cut to the positions after the history.
abbrev pub resume_said : ResumeWords → (List ℕ → Content) → Option (List ℕ) → Option (List ℕ) → EndClaims
resume_said r content before after = record {
  stops = λ halt. WroteAllResumed content r halt before after;
  unread = λ left. WroteReadResumed content r left before after;
  unwritten = WrotePartResumed content r (TookPart before after);
  wants = (after ≡ before) ⊎ WrotePartResumed content r (TookPrefix before after);
}

-- what a run that goes on from a checkpoint is to the program
abbrev pub resume_task : ResumeWords → Task
resume_task r = record {
  queries = r.queries;
  checkpoint = Some r.checkpoint;
  events = r.events;
  clock = None;
  fits = λ schema. true;
  stops = λ schema queries kept lines halt. (history : History) × (checkpoint_of schema queries kept ≡ Ok history)
      × AfterEach schema history (λ earlier. (events : List Event) × RunsAfter earlier schema queries r.most_bytes lines events halt);
  said = resume_said r;
}
