use Rattle.std.proofs.Common.{take}
use Rattle.std.specs.Prelude.{◌==◌}
use Rattle.std.specs.List.{list_any}
use Rattle.cel_terms.specs.Answers.{types_of_stream}
use Rattle.query_state.specs.QueryStates.{AreMarked}
use Rattle.query_state.proofs.types.mark_streams.Given as goal

abbrev pub invariant-loop-name : goal.invariant-loop-name
invariant-loop-name l = AreMarked (λ ty. list_any (λ n. list_any (λ t. t == ty) (types_of_stream l.schema.streams n.text)) (take l.name-index l.names)) l.fn.table l.table
