-- Laws of scripts, which follow from their definition.
use Rattle.std.specs.Prelude.{◌≡◌, ℕ, List, map}
use Rattle.stream_schema.specs.Types.{Declared}
use Rattle.cel_terms.specs.declared.Query.{Query}
use Rattle.ceql_parser.specs.QueryTrees.{query_tree}
use Rattle.event_run.specs.Runs.{RunStop}
use Rattle.command_session.specs.Scripts.{PlaysTo}

-- A script stops in one way, whatever the order in which its cursors give their answers, and likewise over queries that say the same.
abbrev pub ScriptsStopOnce : Type 0
ScriptsStopOnce = (schema : Declared) (queries others : List Query) (most_bytes : ℕ) (script bytes again : List ℕ) (halt end : RunStop) →
    map query_tree queries ≡ map query_tree others → PlaysTo schema queries most_bytes script bytes halt → PlaysTo schema others most_bytes script again end → halt ≡ end
