-- A stream of a history; and the events after all of its streams stop in one way.
use Rattle.std.proofs.Common.{◌≡◌, ℕ, ◌+◌, ◌<◌, ◌≤◌, List, [], ◌∷◌, ◌++◌, map, Ok, refl, arith}
use Rattle.std.specs.List.{AllByRecursion}
use Rattle.stream_schema.specs.Types.{Declared}
use Rattle.stream_schema.specs.declared.Event.{Event}
use Rattle.cel_terms.specs.declared.Query.{Query}
use Rattle.ceql_parser.specs.QueryTrees.{query_tree}
use Rattle.query_engine.proofs.Skipped.{blanks_between, some_blanks}
use Rattle.event_reader.specs.Lines.{file_lines}
use Rattle.event_run.specs.Runs.{RunStop, RunsAfter}
use Rattle.event_run.proofs.ForCallers.{one_run_after_of_trees}
use Rattle.checkpoint_text.specs.declared.history.EventAt.{EventAt}
use Rattle.checkpoint_text.specs.declared.history.History.{History}
use Rattle.cer_base.specs.declared.limits.TheConstants.{MOST_BYTES}
use Rattle.checkpoint_text.specs.Checkpoints.{checkpoint_of}
use Rattle.checkpoint_text.specs.Histories.{AreAscendingFrom}
use Rattle.checkpoint_text.specs.Spelling.{IsHistory}
use Rattle.checkpoint_text.specs.Streams.{AreEventsFrom, IsStreamOf}
use Rattle.checkpoint_text.proofs.Histories.{spelled}
use Rattle.command_checkpoint.specs.Resumed.{AfterEach}

-- one of the streams: its blank events have no type
pub filled : Declared → ℕ → ℕ → List EventAt → List Event
filled schema from to [] = blanks_between schema from to
filled schema from to (e ∷ es) = blanks_between schema from e.position ++ e.event ∷ filled schema (e.position + 1) to es

is_filled : (schema : Declared) (from to : ℕ) (es : List EventAt) → from ≤ to → AreAscendingFrom from es → AllByRecursion (λ e. e.position < to) es → AreEventsFrom schema from to es (filled schema from to es)
unfolding filled
is_filled schema from to [] upto ascending below = some_blanks schema from to upto
is_filled schema from to (e ∷ es) upto ascending below =
    let inside = below.0 in (
      blanks_between schema from e.position,
      filled schema (e.position + 1) to es,
      refl,
      some_blanks schema from e.position ascending.0,
      is_filled schema (e.position + 1) to es (omega (arith, inside)) ascending.1 below.1,
    )

abbrev pub stream_for : Declared → History → List Event
stream_for schema history = filled schema 0 history.positions history.events

pub is_stream : (schema : Declared) (queries : List Query) (history : History) → IsHistory schema queries history → IsStreamOf schema history (stream_for schema history)
is_stream schema queries history is = is_filled schema 0 history.positions history.events (omega arith) is.placed.ascending is.placed.below

-- a text that tells a history tells one that a checkpoint may tell
told_history : (schema : Declared) (queries : List Query) (kept : List ℕ) (history : History) → checkpoint_of schema queries kept ≡ Ok history → IsHistory schema queries history
told_history schema queries kept history told = (spelled schema queries (file_lines MOST_BYTES kept) history told).1.is

pub one_stop_after : (schema : Declared) (ps qs : List Query) (history : History) (most : ℕ) (kept lines : List ℕ) (s t : RunStop) → map query_tree ps ≡ map query_tree qs → checkpoint_of schema ps kept ≡ Ok history →
    AfterEach schema history (λ earlier. (events : List Event) × RunsAfter earlier schema ps most lines events s) → AfterEach schema history (λ earlier. (events : List Event) × RunsAfter earlier schema qs most lines events t) → s ≡ t
one_stop_after schema ps qs history most kept lines s t same told one other =
    let stream = stream_for schema history in
    let is = is_stream schema ps history (told_history schema ps kept history told) in
    let a = one stream is in
    let b = other stream is in
    (one_run_after_of_trees stream schema ps qs most lines a.0 b.0 s t same a.1 b.1).1
