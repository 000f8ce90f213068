use Rattle.std.proofs.Common.{List, take}
use Rattle.query_index.specs.declared.rows.IndexedLeaf.{IndexedLeaf}
use Rattle.query_index.specs.Rows.{awake, Marks}
use Rattle.query_index.specs.SharedTests.{AreSharing}
use Rattle.query_index.proofs.leaf_index.mark_run.Given as goal

abbrev pub invariant-loop-row : goal.invariant-loop-row
invariant-loop-row l = (leaves : List IndexedLeaf) → AreSharing leaves l.index.rows.items l.index.shared → Marks (awake l.open_queries (take l.row-index l.index.rows.items)) leaves l.event l.fn.into l.into l.fn.sets l.sets
