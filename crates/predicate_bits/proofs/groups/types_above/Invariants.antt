use Rattle.std.proofs.Common.{◌<◌, All, take}
use Rattle.predicate_bits.proofs.groups.types_above.Given as goal

abbrev pub invariant-loop-leaf : goal.invariant-loop-leaf
invariant-loop-leaf l = All (λ leaf. leaf.ty < l.count) (take l.leaf-index l.list)
