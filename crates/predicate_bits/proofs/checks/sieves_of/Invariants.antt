use Rattle.std.proofs.Common.{take}
use Rattle.predicate_bits.specs.Checks.{AreSieves}
use Rattle.predicate_bits.proofs.checks.sieves_of.Given as goal

abbrev pub invariant-loop-leaf : goal.invariant-loop-leaf
invariant-loop-leaf l = AreSieves (take l.leaf-index l.list) l.sieves.items
