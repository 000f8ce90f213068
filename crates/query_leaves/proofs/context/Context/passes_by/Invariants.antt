use Rattle.std.proofs.Common.{◌≡◌, take, true}
use Rattle.std.specs.List.{list_all}
use Rattle.query_leaves.specs.Changes.{passes_by}
use Rattle.query_leaves.proofs.context.Context.passes_by.Given as goal

abbrev pub invariant-loop-k : goal.invariant-loop-k
invariant-loop-k l = list_all (λ c. passes_by l.name c) (take l.k l.fn.self) ≡ true
