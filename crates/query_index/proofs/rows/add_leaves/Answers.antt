use Rattle.std.proofs.Common.{◌≡◌, ◌+◌, ◌-◌, ◌∷◌, [], length, subst, arith}
use Rattle.query_index.specs.Rows.{rows_of, waits_for, HasAdded, HasLeafRow}
use Rattle.query_index.proofs.Listed.{rows_next, added_more}
use Rattle.query_index.proofs.rows.add_leaves.Goals as goal

pub loop-leaf-preserved : goal.loop-leaf-preserved
loop-leaf-preserved c =
    let waiting = waits_for c.args.types.now c.args.query in
    let count = c.loop-leaf.invariant.added.count in
    let first = c.len-first.ensures in
    let now = c.len.ensures in
    let number : c.len.result - c.len-first.result ≡ length c.loop-leaf.yielded = omega arith in
    let from : c.len.result - c.len-first.result ≡ 0 + length c.loop-leaf.yielded = omega arith in
    record {
      next = tt;
      finite = tt;
      rows = rows_next waiting c.args.query c.loop-leaf.yielded c.in-Some.leaf (rows_of c.loop-leaf.rows.items) (rows_of c.add_leaf.new.rows.items) c.loop-leaf.leaves.items c.add_leaf.new.leaves.items c.loop-leaf.invariant.rows
          (subst (λ n. HasAdded waiting c.args.query n (c.in-Some.leaf ∷ []) (rows_of c.loop-leaf.rows.items) c.loop-leaf.leaves.items (rows_of c.add_leaf.new.rows.items) c.add_leaf.new.leaves.items) number (c.in_ok-add_leaf.ensures.added waiting c.waits_for-waits.ensures))
          (subst (λ n. HasLeafRow c.args.query n (rows_of c.add_leaf.new.rows.items) c.add_leaf.new.leaves.items c.in-Some.leaf) number c.in_ok-add_leaf.ensures.row);
      added = added_more waiting c.args.query 0 c.loop-leaf.yielded (c.in-Some.leaf ∷ []) (rows_of c.args.rows.now.items) (rows_of c.loop-leaf.rows.items) (rows_of c.add_leaf.new.rows.items) c.args.leaves.now.items c.loop-leaf.leaves.items c.add_leaf.new.leaves.items c.loop-leaf.invariant.added
          (subst (λ n. HasAdded waiting c.args.query n (c.in-Some.leaf ∷ []) (rows_of c.loop-leaf.rows.items) c.loop-leaf.leaves.items (rows_of c.add_leaf.new.rows.items) c.add_leaf.new.leaves.items) from (c.in_ok-add_leaf.ensures.added waiting c.waits_for-waits.ensures));
    }
