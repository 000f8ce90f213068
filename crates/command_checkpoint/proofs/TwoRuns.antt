-- A run over two files, and one that goes on from what was saved of the first.
use Rattle.std.proofs.Common.{◌≡◌, ℕ, false, List, [], ◌∷◌, ◌++◌, length, All, None, subst}
use Rattle.std.specs.Prelude.{nat_eq}
use Rattle.std.specs.List.{starts_with}
use Rattle.cer_base.specs.declared.bytes.TheConstants.{LINE_FEED}
use Rattle.stream_schema.specs.Types.{Declared, IsWellDeclared}
use Rattle.stream_schema.specs.declared.Event.{Event}
use Rattle.cel_terms.specs.declared.Query.{Query}
use Rattle.cel_terms.specs.Checked.{IsChecked}
use Rattle.answer_text.specs.declared.Order.TheVariants.{Sorted}
use Rattle.answer_text.specs.Output.{IsOutput}
use Rattle.output_laws.specs.After.{IsOutputAfter}
use Rattle.query_engine.specs.Clocks.{NeverFalls}
use Rattle.event_run.specs.Runs.{RunsTo, RunsAfter}
use Rattle.event_run.specs.Runs as stop
use Rattle.event_run.proofs.TwoFiles.{two_files}
use Rattle.checkpoint_text.specs.KeepLaws.{placed_lines, kept_lines, told_stream}
use Rattle.checkpoint_text.specs.Streams.{IsStreamOf, stream_of}
use Rattle.checkpoint_text.proofs.GoingOn.{resumed_is_rest}
use Rattle.command_checkpoint.proofs.Level.{runs_never_fall}

pub two_runs : (schema : Declared) (queries : List Query) (most least greatest : ℕ) (front second : List ℕ) (came : List (Event × List ℕ)) (kept behind all : List Event) (first resumed whole : List ℕ) →
    IsWellDeclared schema → All (IsChecked schema) queries → All (λ q. q.any ≡ None) queries →
    starts_with nat_eq second (239 ∷ 187 ∷ 191 ∷ []) ≡ false →
    RunsTo schema queries most (front ++ LINE_FEED ∷ []) (stream_of came) stop.End →
    IsStreamOf schema (told_stream (length came) (kept_lines schema queries (placed_lines came))) kept →
    RunsAfter kept schema queries least second behind stop.End →
    RunsTo schema queries greatest (front ++ LINE_FEED ∷ second) all stop.End →
    IsOutput Sorted schema queries (stream_of came) first → IsOutputAfter (length kept) Sorted schema queries behind resumed → IsOutput Sorted schema queries all whole →
    whole ≡ first ++ resumed
two_runs schema queries most least greatest front second came kept behind all first resumed whole well checked any none one stream two both first_is resumed_is whole_is =
    let files = two_files schema queries most least greatest front second (stream_of came) kept behind all none one two both in
    let more = files.0 in
    let of = (runs_never_fall schema queries most (front ++ LINE_FEED ∷ []) (stream_of came) stop.End well checked one).0 in
    let level = (runs_never_fall schema queries greatest (front ++ LINE_FEED ∷ second) all stop.End well checked both).1 in
    resumed_is_rest schema queries came kept more first resumed whole well checked of (subst (λ (es : List Event). All (λ q. NeverFalls schema q es) queries) files.2 level) any stream
    first_is (subst (λ (es : List Event). IsOutputAfter (length kept) Sorted schema queries es resumed) files.1 resumed_is) (subst (λ (es : List Event). IsOutput Sorted schema queries es whole) files.2 whole_is)
