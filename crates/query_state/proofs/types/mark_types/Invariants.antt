use Rattle.std.proofs.Common.{take}
use Rattle.std.specs.Prelude.{◌==◌}
use Rattle.std.specs.List.{list_any}
use Rattle.query_state.specs.QueryStates.{AreMarked}
use Rattle.query_state.proofs.types.mark_types.Given as goal

abbrev pub invariant-loop-ty : goal.invariant-loop-ty
invariant-loop-ty l = AreMarked (λ ty. list_any (λ t. t == ty) (take l.ty-index l.types)) l.fn.table l.table
