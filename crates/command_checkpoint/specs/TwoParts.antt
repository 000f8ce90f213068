-- The events of a run, and what a saved run and the one that goes on from it write together.
use Rattle.std.specs.Prelude.{◌≡◌, ℕ, false, List, [], ◌∷◌, ◌++◌, length, All, None, nat_eq}
use Rattle.std.specs.List.{starts_with}
use Rattle.cer_base.specs.declared.bytes.TheConstants.{LINE_FEED}
use Rattle.stream_schema.specs.Types.{Declared, IsWellDeclared}
use Rattle.stream_schema.specs.Events.{IsOfSchema}
use Rattle.stream_schema.specs.declared.Event.{Event}
use Rattle.cel_terms.specs.declared.Query.{Query}
use Rattle.cel_terms.specs.Checked.{IsChecked}
use Rattle.answer_text.specs.declared.Order.TheVariants.{Sorted}
use Rattle.answer_text.specs.Output.{IsOutput}
use Rattle.output_laws.specs.After.{IsOutputAfter}
use Rattle.query_engine.specs.Clocks.{NeverFalls}
use Rattle.event_run.specs.Runs.{RunStop, RunsTo, RunsAfter}
use Rattle.event_run.specs.Runs as stop
use Rattle.checkpoint_text.specs.KeepLaws.{placed_lines, kept_lines, told_stream}
use Rattle.checkpoint_text.specs.Streams.{IsStreamOf, stream_of}

-- The events that the queries take of a file are of the schema, and along them no clock falls.
abbrev pub RunsNeverFall : Type 0
RunsNeverFall = (schema : Declared) (queries : List Query) (most_bytes : ℕ) (bytes : List ℕ) (events : List Event) (stop : RunStop) →
    IsWellDeclared schema → All (IsChecked schema) queries → RunsTo schema queries most_bytes bytes events stop →
    All (IsOfSchema schema) events × All (λ q. NeverFalls schema q events) queries

-- Of two event files the first ends with a line feed, and the second does not begin with a byte order mark; what some window still needs of the events of the first was saved.
-- In sorted order, and where no query has ANY, a run over both as one file writes what one over the first writes, and then what the resumed one writes over the second.
abbrev pub SavedRunsGoOn : Type 0
SavedRunsGoOn = (schema : Declared) (queries : List Query) (most least greatest : ℕ) (front second : List ℕ) (came : List (Event × List ℕ)) (kept behind all : List Event) (first resumed whole : List ℕ) →
    IsWellDeclared schema → All (IsChecked schema) queries → All (λ q. q.any ≡ None) queries →
    starts_with nat_eq second (239 ∷ 187 ∷ 191 ∷ []) ≡ false →
    RunsTo schema queries most (front ++ LINE_FEED ∷ []) (stream_of came) stop.End →
    IsStreamOf schema (told_stream (length came) (kept_lines schema queries (placed_lines came))) kept →
    RunsAfter kept schema queries least second behind stop.End →
    RunsTo schema queries greatest (front ++ LINE_FEED ∷ second) all stop.End →
    IsOutput Sorted schema queries (stream_of came) first → IsOutputAfter (length kept) Sorted schema queries behind resumed → IsOutput Sorted schema queries all whole →
    whole ≡ first ++ resumed
