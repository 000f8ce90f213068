use Rattle.std.proofs.Common.{◌≡◌, take}
use Rattle.match_explain.specs.Bindings.{with_each}
use Rattle.match_explain.proofs.bindings.add_each.Given as goal

abbrev pub invariant-loop-other : goal.invariant-loop-other
invariant-loop-other l = l.names.items ≡ with_each l.initial.names.items (take l.other-index l.others)
