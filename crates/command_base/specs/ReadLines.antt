-- What the output has taken of a text that is written once all events are read, and what is known of the lines that were read before a source failed. For the commands that write such a text.
use Rattle.std.specs.Prelude.{◌≡◌, ◌≢◌, ℕ, List, Option, Some}
use Rattle.cer_outside.specs.Content.{Content, Missing, Holds}
use Rattle.cer_outside.specs.Bytes.{TookAll, TookPart}
use Rattle.stream_schema.specs.declared.Event.{Event as StreamEvent}
use Rattle.event_run.specs.Runs.{RunStop, End, Event, InputTooLong}
use Rattle.event_run.specs.Taking.{AreEventsBefore}
use Rattle.stream_answers.specs.RunEnds.{EndClaims}
use Rattle.command_base.specs.Accepted.{SaysOf}

-- the text is accepted, and its queries take the events of all lines that end before these bytes are left: each of them is good and a first line of the file
abbrev pub AreGoodLines : List ℕ → ℕ → List ℕ → List ℕ → Type 0
AreGoodLines text most_bytes lines rest = SaysOf text (λ schema queries. (events : List StreamEvent) × AreEventsBefore schema queries most_bytes lines rest events)

-- The host lacks neither file, and where it tells their bytes, no line is refused that ends among those that a source, which failed, no longer has left.
pub record AreReadLines (content : List ℕ → Content) (queries events : List ℕ) (most_bytes : ℕ) (left : Option (List ℕ)) : Type 0 where
  pub has_queries : content queries ≢ Missing
  pub has_events : content events ≢ Missing
  pub good : (text lines rest : List ℕ) → content queries ≡ Holds text → content events ≡ Holds lines → left ≡ Some rest → AreGoodLines text most_bytes lines rest

-- all of such bytes were taken where the events were read to their end, and nothing where they stopped before
abbrev pub TookAtEnd : (List ℕ → Type 0) → Option (List ℕ) → Option (List ℕ) → RunStop → Type 0
TookAtEnd Are before after End = (bytes : List ℕ) × Are bytes × TookAll before after bytes
TookAtEnd Are before after (Event line fault) = after ≡ before
TookAtEnd Are before after (InputTooLong taken) = after ≡ before

-- What the output has taken of such bytes, from before to after: all of them or nothing by the stop; nothing where the source failed, and the lines that were read of the file are good; a proper first part where a write failed; and nothing where memory ran out.
abbrev pub whole_said : (List ℕ → Content) → List ℕ → List ℕ → ℕ → (List ℕ → Type 0) → Option (List ℕ) → Option (List ℕ) → EndClaims
whole_said content queries events most_bytes Are before after = record {
  stops = TookAtEnd Are before after;
  unread = λ left. (after ≡ before) × AreReadLines content queries events most_bytes left;
  unwritten = (bytes : List ℕ) × Are bytes × TookPart before after bytes;
  wants = after ≡ before;
}
