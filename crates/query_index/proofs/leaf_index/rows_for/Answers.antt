use Rattle.std.proofs.Common.{List, Vec, Global, ap}
use Rattle.query_index.specs.declared.rows.LeafRow.{LeafRow}
use Rattle.query_index.specs.Rows.{rows_of}
use Rattle.query_index.proofs.Listed.{leaf_index_none, leaf_index_next, leaf_index_all, exact_all, below_all, waiting_all}
use Rattle.query_index.proofs.leaf_index.rows_for.Goals as goal

pub loop-k-init : goal.loop-k-init
loop-k-init c = leaf_index_none c.args.schema.now c.args.queries.now (rows_of c.new-rows.result.items) c.args.leaves.now.items (ap (λ (vs : List (Vec LeafRow Global)). rows_of vs) c.new-rows.ensures.items)

pub loop-k-preserved : goal.loop-k-preserved
loop-k-preserved c = leaf_index_next c.loop-k.k c.args.schema.now c.args.queries.now c.index-queries-k.result (rows_of c.loop-k.rows.items) (rows_of c.add_query.new.rows.items) c.loop-k.leaves.items c.add_query.new.leaves.items c.loop-k-test.true c.index-queries-k.is c.loop-k.invariant c.in_ok-add_query.ensures.watched c.in_ok-add_query.ensures.added

pub returns-clause-leaf_index : goal.returns-clause-leaf_index
returns-clause-leaf_index c = leaf_index_all c.loop-k.k c.args.schema.now c.args.queries.now (rows_of c.loop-k.rows.items) c.loop-k.leaves.items c.loop-k-test.false c.loop-k.invariant

pub returns-clause-exact : goal.returns-clause-exact
returns-clause-exact c = exact_all c.loop-k.k c.args.schema.now c.args.queries.now (rows_of c.loop-k.rows.items) c.loop-k.leaves.items c.loop-k-test.false c.loop-k.invariant

pub returns-clause-below : goal.returns-clause-below
returns-clause-below c = below_all c.loop-k.k c.args.schema.now c.args.queries.now (rows_of c.loop-k.rows.items) c.loop-k.leaves.items c.loop-k.auto.k-end c.loop-k.invariant

pub returns-clause-waiting : goal.returns-clause-waiting
returns-clause-waiting c = waiting_all c.loop-k.k c.args.schema.now c.args.queries.now (rows_of c.loop-k.rows.items) c.loop-k.leaves.items c.loop-k-test.false c.loop-k.invariant

pub returns-clause-alike : goal.returns-clause-alike
returns-clause-alike c = c.loop-k.invariant.alike
