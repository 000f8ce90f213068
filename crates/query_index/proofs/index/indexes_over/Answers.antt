use Rattle.std.proofs.Common.{◌++◌, sym, subst}
use Rattle.query_index.specs.Index.{AreSplit, HaveSame, gathered}
use Rattle.query_index.proofs.Indexed.{same_next, each_next, rest_told}
use Rattle.query_index.proofs.index.indexes_over.Goals as goal

pub loop-k-preserved : goal.loop-k-preserved
loop-k-preserved c = record {
  rows = same_next c.args.rows.now c.loop-k.left.items c.in_ok-parts.parts.taken.items c.in_ok-parts.parts.left.items c.loop-k.indexes.items c.push.new.self.items c.in_ok-index_of.field-0 c.in_ok-push.ensures.items c.in_ok-index_of.ensures.rows (subst (λ xs. AreSplit xs c.in_ok-parts.parts.taken.items c.in_ok-parts.parts.left.items) c.as_slice.ensures.value c.in_ok-parts.ensures) c.loop-k.invariant.rows;
  each = each_next c.args.leaves.now c.loop-k.indexes.items c.push.new.self.items c.in_ok-index_of.field-0 c.in_ok-push.ensures.items c.in_ok-index_of.ensures.index c.loop-k.invariant.each;
}

pub returns : goal.returns
returns c = rest_told c.with_rest.result c.args.leaves.now c.args.rows.now c.put_runs.new.indexes.items c.in_ok-plain.plain.items (c.in_ok-plain.ensures.each c.loop-k.invariant.each) (c.in_ok-plain.ensures.rows c.args.rows.now (subst (λ xs. HaveSame c.args.rows.now (gathered c.loop-k.indexes.items ++ xs)) (sym c.as_slice-2.ensures.value) c.loop-k.invariant.rows)) c.with_rest.ensures
