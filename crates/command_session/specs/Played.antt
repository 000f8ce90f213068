-- What a session makes of its query file and its script.
use Rattle.std.specs.Prelude.{◌≡◌, ◌≢◌, ℕ, ◌⊎◌, true, List, Option, None}
use Rattle.cer_outside.specs.Content.{Content, Missing, Holds}
use Rattle.cer_outside.specs.Bytes.{TookAll, TookPart}
use Rattle.answer_blocks.specs.SinkBytes.{TookPrefix}
use Rattle.event_run.specs.Runs.{RunStop}
use Rattle.stream_answers.specs.RunEnds.{EndClaims}
use Rattle.command_words.specs.declared.SessionWords.{SessionWords}
use Rattle.command_base.specs.Accepted.{SaysOf}
use Rattle.command_base.specs.Tasks.{Task}
use Rattle.cer_base.specs.declared.limits.TheConstants.{MOST_BYTES}
use Rattle.command_session.specs.Scripts.{PlaysTo, BeginsPlay, WritesRead}

-- the bytes are those of the steps that a session makes by the script over the text's queries, which stops so
abbrev pub ScriptWrites : RunStop → List ℕ → List ℕ → List ℕ → Type 0
ScriptWrites halt text script bytes = SaysOf text (λ schema queries. PlaysTo schema queries MOST_BYTES script bytes halt)

-- the bytes are those of the first lines of the script, all of them good
abbrev pub ScriptBegins : List ℕ → List ℕ → List ℕ → Type 0
ScriptBegins text script bytes = SaysOf text (λ schema queries. BeginsPlay schema queries MOST_BYTES script bytes)

-- and those of the first lines that end among the bytes that a source, which failed, no longer has left, all of them good
abbrev pub ScriptWroteRead : Option (List ℕ) → List ℕ → List ℕ → List ℕ → Type 0
ScriptWroteRead left text script bytes = SaysOf text (λ schema queries. WritesRead schema queries MOST_BYTES script left bytes)

-- The host lacks neither file, the output took bytes so, and where the host tells both files this is what they are.
pub record WroteSteps (content : List ℕ → Content) (s : SessionWords) (Are : List ℕ → List ℕ → List ℕ → Type 0) (Took : List ℕ → Type 0) : Type 0 where
  pub has_queries : content s.queries ≢ Missing
  pub has_script : content s.script ≢ Missing
  pub bytes : List ℕ
  pub took : Took bytes
  pub are : (text script : List ℕ) → content s.queries ≡ Holds text → content s.script ≡ Holds script → Are text script bytes

-- What the output has taken, from before to after: all steps of the session up to the stop, or those of the lines that were read; a proper first part of those of the first lines where a write failed; and a first part or nothing where memory ran out.
abbrev pub session_said : SessionWords → (List ℕ → Content) → Option (List ℕ) → Option (List ℕ) → EndClaims
session_said s content before after = record {
  stops = λ halt. WroteSteps content s (ScriptWrites halt) (TookAll before after);
  unread = λ left. WroteSteps content s (ScriptWroteRead left) (TookAll before after);
  unwritten = WroteSteps content s ScriptBegins (TookPart before after);
  wants = (after ≡ before) ⊎ WroteSteps content s ScriptBegins (TookPrefix before after);
}

-- what a session is to the program: its script stands in the place of the events
abbrev pub session_task : SessionWords → Task
session_task s = record {
  queries = s.queries;
  checkpoint = None;
  events = s.script;
  clock = None;
  fits = λ schema. true;
  stops = λ schema queries kept script halt. (bytes : List ℕ) × PlaysTo schema queries MOST_BYTES script bytes halt;
  said = session_said s;
}
