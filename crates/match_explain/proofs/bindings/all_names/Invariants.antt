use Rattle.std.proofs.Common.{◌≡◌, take}
use Rattle.match_explain.specs.Bindings.{all_names}
use Rattle.match_explain.proofs.bindings.all_names.Given as goal

abbrev pub invariant-loop-leaf : goal.invariant-loop-leaf
invariant-loop-leaf l = l.names.items ≡ all_names (take l.leaf-index l.leaves)
