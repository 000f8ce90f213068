use Rattle.std.proofs.Common.{◌+◌, ◌∙◌, sym, ap, subst, take, Vec, Global}
use Rattle.query_index.specs.declared.rows.LeafRow.{LeafRow}
use Rattle.query_index.specs.Index.{AreSplit}
use Rattle.query_index.proofs.Indexed.{split_taken, split_left, split_all}
use Rattle.query_index.proofs.index.split.Goals.{then-is_served+in_ok-push, else-is_served+in_ok-push-2}
use Rattle.query_index.proofs.index.split.Goals as goal

pub loop-row-preserved : goal.loop-row-preserved
loop-row-preserved c = elim c.if-is_served.branch [
  | then-is_served+in_ok-push w ↦ subst (λ (v : Vec LeafRow Global). AreSplit (take (c.loop-row.row-index + 1) c.args.rows.now) c.if-is_served.taken.items v.items) (sym w.left-is) (split_taken c.args.rows.now c.loop-row.row-index _ c.loop-row.taken.items c.loop-row.left.items c.if-is_served.taken.items c.loop-row-test.true (ap (λ (v : Vec LeafRow Global). v.items) w.taken-is ∙ w.in_ok-push.ensures.items) c.loop-row.invariant)
  | else-is_served+in_ok-push-2 w ↦ subst (λ (v : Vec LeafRow Global). AreSplit (take (c.loop-row.row-index + 1) c.args.rows.now) v.items c.if-is_served.left.items) (sym w.taken-is) (split_left c.args.rows.now c.loop-row.row-index _ c.loop-row.taken.items c.loop-row.left.items c.if-is_served.left.items c.loop-row-test.true (ap (λ (v : Vec LeafRow Global). v.items) w.left-is ∙ w.in_ok-push-2.ensures.items) c.loop-row.invariant)
]

pub returns : goal.returns
returns c = split_all c.args.rows.now c.loop-row.row-index c.loop-row.taken.items c.loop-row.left.items c.loop-row-test.false c.loop-row.invariant
