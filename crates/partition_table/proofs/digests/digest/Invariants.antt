use Rattle.std.proofs.Common.{◌≡◌, take}
use Rattle.partition_table.specs.Digests.{digest}
use Rattle.partition_table.proofs.digests.digest.Given as goal

abbrev pub invariant-loop-value : goal.invariant-loop-value
invariant-loop-value l = l.number ≡ digest (take l.value-index l.values)
