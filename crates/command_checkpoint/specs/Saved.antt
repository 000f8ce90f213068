-- What is saved of the events of a source: how many came, and the lines of those that the windows still need.
use Rattle.std.specs.Prelude.{◌≡◌, ℕ, List, [], ◌∷◌, flat_map, length, Option, Some, None, Result, Ok, Err}
use Rattle.std.specs.Str.Lines.{strip_carriage_return}
use Rattle.cer_base.specs.declared.OrMemory.{OrMemory}
use Rattle.stream_schema.specs.Types.{Declared}
use Rattle.stream_schema.specs.declared.Event.{Event as StreamEvent}
use Rattle.cel_terms.specs.declared.Query.{Query}
use Rattle.event_reader.specs.declared.EventFault.{EventFault}
use Rattle.event_reader.specs.Events.{event_of_line}
use Rattle.event_reader.specs.Lines.{file_lines}
use Rattle.event_run.specs.Runs.{RunsTo}
use Rattle.event_run.specs.Runs as stop
use Rattle.stream_answers.specs.declared.StreamFault.{StreamFault}
use Rattle.stream_answers.specs.AtEnd.{text_said}
use Rattle.stream_answers.specs.RunEnds.{EndClaims, ByEnd}
use Rattle.stream_answers.specs.Streams.{EventsRequest}
use Rattle.checkpoint_text.specs.Keeping.{checkpoint_text}
use Rattle.checkpoint_text.specs.KeepLaws.{placed_lines, kept_lines}
use Rattle.checkpoint_text.specs.Streams.{stream_of}

-- the event that a line gives, with the line's text but for a carriage return at its end
abbrev pub came_of : List ℕ → Result (Option StreamEvent) EventFault → List (StreamEvent × List ℕ)
came_of text (Ok (Some event)) = (event, strip_carriage_return text) ∷ []
came_of text (Ok None) = []
came_of text (Err refusal) = []

-- the events of the lines, each with its text
abbrev pub came_in : Declared → List (List ℕ) → List (StreamEvent × List ℕ)
came_in schema texts = flat_map (λ text. came_of text (event_of_line schema text)) texts

-- The queries take all events of a file of these bytes, and the text is the checkpoint of them: how many came, and the lines of those that some window still needs once all have come.
pub record IsCheckpointOf (schema : Declared) (queries : List Query) (most_bytes : ℕ) (bytes text : List ℕ) : Type 0 where
  pub came : List (StreamEvent × List ℕ)
  pub are : came ≡ came_in schema (file_lines most_bytes bytes).texts
  pub runs : RunsTo schema queries most_bytes bytes (stream_of came) stop.End
  pub spells : text ≡ checkpoint_text (length came) (kept_lines schema queries (placed_lines came))

-- The text is the checkpoint of all events of a source that is read to its end.
abbrev pub IsCheckpointOver : EventsRequest → Option (List ℕ) → List ℕ → Type 0
IsCheckpointOver a source text = (lines : List ℕ) → source ≡ Some lines → IsCheckpointOf a.schema a.queries a.most_bytes lines text

-- all of the checkpoint, or a proper part of it after a fault of the sink; else nothing
abbrev pub saved_said : EventsRequest → Option (List ℕ) → Option (List ℕ) → Option (List ℕ) → EndClaims
saved_said a source before after = text_said a.schema a.queries a.most_bytes (IsCheckpointOver a source) source before after

abbrev pub WroteCheckpoint : EventsRequest → Option (List ℕ) → Option (List ℕ) → Option (List ℕ) → Option (List ℕ) → {T : Type 0} → Result T (OrMemory StreamFault) → Type 0
WroteCheckpoint a source left before after result = ByEnd (saved_said a source before after) left result
