-- What is written of the events of a source once all of them were read.
use Rattle.std.specs.Prelude.{◌≡◌, ℕ, List, Option, Some}
use Rattle.cer_outside.specs.Bytes.{TookAll, TookPart}
use Rattle.stream_schema.specs.Types.{Declared}
use Rattle.stream_schema.specs.declared.Event.{Event as StreamEvent}
use Rattle.cel_terms.specs.declared.Query.{Query}
use Rattle.event_run.specs.Runs.{RunStop, RunsTo}
use Rattle.event_run.specs.Runs as stop
use Rattle.event_run.specs.Taking.{AreEventsRead}
use Rattle.stream_answers.specs.RunEnds.{EndClaims}

-- The queries take some events of a source of these bytes, of which so many are too many, and stop so.
abbrev pub StopsOver : Declared → List Query → ℕ → Option (List ℕ) → RunStop → Type 0
StopsOver schema queries most_bytes source stop = (lines : List ℕ) → source ≡ Some lines → (events : List StreamEvent) × RunsTo schema queries most_bytes lines events stop

-- Where all events were read, the text that is told was written; where they stopped before, nothing was.
abbrev pub TextOrStop : (List ℕ → Type 0) → (RunStop → Type 0) → Option (List ℕ) → Option (List ℕ) → RunStop → Type 0
TextOrStop Tells Stops before after stop.End = (text : List ℕ) × Tells text × TookAll before after text
TextOrStop Tells Stops before after (stop.Event line refusal) = (after ≡ before) × Stops (stop.Event line refusal)
TextOrStop Tells Stops before after (stop.InputTooLong taken) = (after ≡ before) × Stops (stop.InputTooLong taken)

-- all of a text that is told, or a proper part of it after a fault of the sink; else nothing
abbrev pub text_said : Declared → List Query → ℕ → (List ℕ → Type 0) → Option (List ℕ) → Option (List ℕ) → Option (List ℕ) → EndClaims
text_said schema queries most_bytes Tells source before after = record {
  stops = TextOrStop Tells (StopsOver schema queries most_bytes source) before after;
  unread = λ left. (after ≡ before) × ((lines : List ℕ) → source ≡ Some lines → (events : List StreamEvent) × AreEventsRead schema queries most_bytes lines left events);
  unwritten = (text : List ℕ) × Tells text × TookPart before after text;
  wants = after ≡ before;
}
