use Rattle.std.proofs.Common.{take, All}
use Rattle.partition_table.specs.Digests.{IsMarked}
use Rattle.partition_table.proofs.marks.mark_all.Given as goal

abbrev pub invariant-loop-k : goal.invariant-loop-k
invariant-loop-k l = All (IsMarked l.marks.items) (take l.k l.keys.keys)
