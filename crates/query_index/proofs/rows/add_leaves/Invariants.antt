use Rattle.query_index.specs.Rows.{rows_of, waits_for, HasAdded, HaveRows}
use Rattle.query_index.proofs.rows.add_leaves.Given as goal

abbrev pub invariant-loop-leaf : goal.invariant-loop-leaf
invariant-loop-leaf l = record {
  next : (goal.iterator-loop-leaf).can_next l.leaf-iterator;
  finite : (goal.iterator-loop-leaf).is_finite l.leaf-iterator;
  rows : HaveRows l.query l.yielded (rows_of l.rows.items) l.leaves.items;
  added : HasAdded (waits_for l.types l.query) l.query 0 l.yielded (rows_of l.fn.rows.items) l.fn.leaves.items (rows_of l.rows.items) l.leaves.items;
}
