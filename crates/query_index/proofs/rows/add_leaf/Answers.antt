use Rattle.std.proofs.Common.{refl, subst, arith}
use Rattle.std.proofs.lemmas.Grind.{common_steps}
use Rattle.query_leaves.specs.Shapes.{each_holds}
use Rattle.query_index.specs.TextPrefilters.{AsksToOpen}
use Rattle.query_index.specs.Rows.{rows_of}
use Rattle.query_index.proofs.Listed.{added_leaf, leaf_row, range_of_leaf}
use Rattle.query_index.proofs.rows.add_leaf.Goals as goal

pub returns-clause-row : goal.returns-clause-row
returns-clause-row c = leaf_row c.args.query c.args.number _ _ c.args.leaf (rows_of c.args.rows.now.items) (rows_of c.put.new.rows.items) c.args.leaves.now.items c.push.new.self.items c.in_ok-push.ensures.items (let e = c.len-place.ensures in grind (arith, common_steps)) refl refl refl c.in_ok-put.ensures

pub returns-clause-added : goal.returns-clause-added
returns-clause-added c waiting waits = added_leaf waiting c.args.query c.args.number _ _ c.args.leaf (rows_of c.args.rows.now.items) (rows_of c.put.new.rows.items) c.args.leaves.now.items c.push.new.self.items c.in_ok-push.ensures.items (let e = c.len-place.ensures in grind (arith, common_steps)) refl refl refl
    (range_of_leaf c.args.query c.args.number c.range_of-range.result c.in_ok-checks.checks c.args.leaf.tests _ _ c.as_slice.ensures.value c.as_slice-3.ensures.value c.range_of-range.ensures c.in_ok-checks.ensures) (subst (λ ts. AsksToOpen c.text_prefilter_of-text_prefilter.result (each_holds ts)) c.as_slice-2.ensures.value c.text_prefilter_of-text_prefilter.ensures) waits c.in_ok-put.ensures
