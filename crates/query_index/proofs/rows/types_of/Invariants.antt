use Rattle.std.proofs.Common.{take}
use Rattle.query_index.specs.Rows.{HaveTypes}
use Rattle.query_index.proofs.rows.types_of.Given as goal

abbrev pub invariant-loop-k : goal.invariant-loop-k
invariant-loop-k l = HaveTypes (take l.k l.list) l.some l.types
