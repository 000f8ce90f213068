use Rattle.std.proofs.Common.{◌≡◌, take}
use Rattle.query_leaves.specs.Changes.{change_all}
use Rattle.query_leaves.proofs.context.Context.change.Given as goal

abbrev pub invariant-loop-k : goal.invariant-loop-k
invariant-loop-k l = l.occurrence ≡ change_all (take l.k l.fn.self) l.initial.occurrence
