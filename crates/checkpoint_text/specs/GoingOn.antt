-- What is written where a run goes on after events of which the windows' need alone is kept.
use Rattle.std.specs.Prelude.{◌≡◌, ℕ, ◌↔◌, List, ◌++◌, length, All, None}
use Rattle.stream_schema.specs.Types.{Declared, IsWellDeclared}
use Rattle.stream_schema.specs.Events.{IsOfSchema}
use Rattle.stream_schema.specs.declared.Event.{Event}
use Rattle.cel_terms.specs.declared.Query.{Query}
use Rattle.cel_terms.specs.Checked.{IsChecked}
use Rattle.answer_text.specs.declared.Order.{Order}
use Rattle.answer_text.specs.declared.Order.TheVariants.{Sorted}
use Rattle.answer_text.specs.Output.{IsOutput}
use Rattle.output_laws.specs.After.{IsOutputFrom, IsOutputAfter}
use Rattle.query_engine.specs.Clocks.{NeverFalls}
use Rattle.checkpoint_text.specs.KeepLaws.{placed_lines, kept_lines, told_stream}
use Rattle.checkpoint_text.specs.Streams.{IsStreamOf, stream_of}

-- The output of the first events, and after it that of the positions after them, where these events stand before that some window still needs.
pub record IsOutputInTurn (order : Order) (schema : Declared) (queries : List Query) (first kept more : List Event) (bytes : List ℕ) : Type 0 where
  pub before : List ℕ
  pub after : List ℕ
  pub run : IsOutput order schema queries first before
  pub resumed : IsOutputFrom (length first) (length more) order schema queries (kept ++ more) after
  pub whole : bytes ≡ before ++ after

-- A run over all events writes what a run over the first writes, and after it one that goes on from what is kept of them.
abbrev pub RunsGoOn : Type 0
RunsGoOn = (order : Order) (schema : Declared) (queries : List Query) (came : List (Event × List ℕ)) (kept more : List Event) (bytes : List ℕ) →
    IsWellDeclared schema → All (IsChecked schema) queries → All (IsOfSchema schema) (stream_of came) → All (λ q. NeverFalls schema q (stream_of came ++ more)) queries →
    IsStreamOf schema (told_stream (length came) (kept_lines schema queries (placed_lines came))) kept →
    (IsOutput order schema queries (stream_of came ++ more) bytes) ↔ (IsOutputInTurn order schema queries (stream_of came) kept more bytes)

-- In sorted order, and where no query has ANY, it writes exactly what the first run writes and then what the one that goes on writes.
abbrev pub ResumedOutputIsTheRest : Type 0
ResumedOutputIsTheRest = (schema : Declared) (queries : List Query) (came : List (Event × List ℕ)) (kept more : List Event) (first behind all : List ℕ) →
    IsWellDeclared schema → All (IsChecked schema) queries → All (IsOfSchema schema) (stream_of came) → All (λ q. NeverFalls schema q (stream_of came ++ more)) queries → All (λ q. q.any ≡ None) queries →
    IsStreamOf schema (told_stream (length came) (kept_lines schema queries (placed_lines came))) kept →
    IsOutput Sorted schema queries (stream_of came) first → IsOutputAfter (length kept) Sorted schema queries (kept ++ more) behind → IsOutput Sorted schema queries (stream_of came ++ more) all →
    all ≡ first ++ behind
