use Rattle.std.proofs.Common.{List, ℕ}
use Rattle.query_index.specs.declared.rows.LeafRow.{LeafRow}
use Rattle.query_index.specs.declared.rows.IndexedLeaf.{IndexedLeaf}
use Rattle.query_index.specs.Index.{AreBuckets}
use Rattle.query_index.specs.Runs.{ArePieces}
use Rattle.query_index.proofs.buckets.put_group.Given as goal

abbrev pub invariant-loop-number : goal.invariant-loop-number
invariant-loop-number l = (rows : List LeafRow) (leaves : List IndexedLeaf) (place : ℕ) → ArePieces rows leaves place l.whole l.pieces → AreBuckets rows leaves place l.whole.kind l.fn.buckets.items → AreBuckets rows leaves place l.whole.kind l.buckets.items
