-- Laws of runs, which follow from their definition.
use Rattle.std.specs.Prelude.{◌≡◌, ℕ, false, List, [], ◌∷◌, ◌++◌, map, nat_eq}
use Rattle.std.specs.List.{starts_with}
use Rattle.cer_base.specs.declared.bytes.TheConstants.{LINE_FEED}
use Rattle.stream_schema.specs.Types.{Declared}
use Rattle.stream_schema.specs.declared.Event.{Event}
use Rattle.cel_terms.specs.declared.Query.{Query}
use Rattle.ceql_parser.specs.QueryTrees.{query_tree}
use Rattle.event_run.specs.Runs.{RunStop, RunsTo, RunsAfter}
use Rattle.event_run.specs.Runs as stop

-- Queries that say the same take the same events of a file and stop in the same way.
abbrev pub RunsAreOne : Type 0
RunsAreOne = (schema : Declared) (queries others : List Query) (most_bytes : ℕ) (bytes : List ℕ) (events again : List Event) (stop halt : RunStop) →
    map query_tree queries ≡ map query_tree others → RunsTo schema queries most_bytes bytes events stop → RunsTo schema others most_bytes bytes again halt →
    (events ≡ again) × (stop ≡ halt)

-- Every file has a run.
abbrev pub SomeRunIs : Type 0
SomeRunIs = (schema : Declared) (queries : List Query) (most_bytes : ℕ) (bytes : List ℕ) →
    (events : List Event) × (stop : RunStop) × RunsTo schema queries most_bytes bytes events stop

-- Where the first of two files ends with a line feed and the second does not begin with a byte order mark, the events of both as one file are those of the first and then those of the second, after whatever events this is read.
abbrev pub FilesFollow : Type 0
FilesFollow = (schema : Declared) (queries : List Query) (most least greatest : ℕ) (front second : List ℕ) (first before behind all : List Event) → starts_with nat_eq second (239 ∷ 187 ∷ 191 ∷ []) ≡ false →
    RunsTo schema queries most (front ++ LINE_FEED ∷ []) first stop.End → RunsAfter before schema queries least second behind stop.End → RunsTo schema queries greatest (front ++ LINE_FEED ∷ second) all stop.End →
    (more : List Event) × (behind ≡ before ++ more) × (all ≡ first ++ more)
