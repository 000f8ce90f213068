-- What has been written of a question over a source, by how the call ended.
use Rattle.std.specs.Prelude.{◌≡◌, ℕ, List, Option, Some, Result}
use Rattle.cer_base.specs.declared.OrMemory.{OrMemory}
use Rattle.stream_schema.specs.Types.{Declared}
use Rattle.stream_schema.specs.declared.Event.{Event as StreamEvent}
use Rattle.cel_terms.specs.declared.Query.{Query}
use Rattle.event_run.specs.Runs.{RunsTo}
use Rattle.event_run.specs.Runs as stop
use Rattle.stream_answers.specs.declared.StreamFault.{StreamFault}
use Rattle.stream_answers.specs.AtEnd.{text_said}
use Rattle.stream_answers.specs.RunEnds.{EndClaims, ByEnd}
use Rattle.cer_base.specs.declared.limits.TheConstants.{MOST_BYTES}
use Rattle.command_words.specs.declared.Question.{Question}
use Rattle.command_explain.specs.Explanations.{IsExplanation}

-- the schema and the queries, and what is asked of them
pub record ExplainRequest : Type 0 where
  pub schema : Declared
  pub queries : List Query
  pub question : Question

-- the bytes are the explanation over all events of a file of these bytes
abbrev pub IsExplanationOf : ExplainRequest → List ℕ → List ℕ → Type 0
IsExplanationOf a lines bytes = (events : List StreamEvent) × RunsTo a.schema a.queries MOST_BYTES lines events stop.End × IsExplanation a.schema a.queries events a.question bytes

-- and of a source
abbrev pub IsExplanationOver : ExplainRequest → Option (List ℕ) → List ℕ → Type 0
IsExplanationOver a source bytes = (lines : List ℕ) → source ≡ Some lines → IsExplanationOf a lines bytes

-- all of the explanation, or a proper part of it after a fault of the sink; else nothing
abbrev pub explained_said : ExplainRequest → Option (List ℕ) → Option (List ℕ) → Option (List ℕ) → EndClaims
explained_said a source before after = text_said a.schema a.queries MOST_BYTES (IsExplanationOver a source) source before after

abbrev pub WroteExplanation : ExplainRequest → Option (List ℕ) → Option (List ℕ) → Option (List ℕ) → Option (List ℕ) → {T : Type 0} → Result T (OrMemory StreamFault) → Type 0
WroteExplanation a source left before after result = ByEnd (explained_said a source before after) left result
