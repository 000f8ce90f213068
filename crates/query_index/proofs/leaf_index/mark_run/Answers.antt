use Rattle.std.proofs.Common.{◌≤◌, List, length, subst, arith}
use Rattle.query_index.specs.declared.shared_tests.SharingRow.{SharingRow}
use Rattle.query_index.specs.SharedTests.{HasFailing}
use Rattle.query_index.proofs.Listed.{marks_none}
use Rattle.query_index.proofs.Awake.{awake_all}
use Rattle.query_index.proofs.SharedRows.{has_place, run_marked}
use Rattle.query_index.proofs.leaf_index.mark_run.Goals as goal

pub loop-row-init : goal.loop-row-init
loop-row-init c = λ leaves are. marks_none leaves c.args.event.now c.args.into.now c.args.sets.now

pub mark_sharing-requires : goal.mark_sharing-requires
mark_sharing-requires c =
    let marks = c.loop-row.invariant c.requires.leaves c.requires.sharing in
    has_place c.args.index.now c.args.event.now c.failing_of-failing.result c.loop-row.row-index c.as_slice-row-items.result.now (record { mask = 0; waits = 0; query = 0; number = 0 }) c.args.into.now c.loop-row.into c.args.sets.now c.loop-row.sets c.requires (subst (λ ts. HasFailing ts c.failing_of-failing.result c.args.event.now) c.as_slice.ensures.value c.failing_of-failing.ensures) c.as_slice-row-items.ensures.value c.loop-row-test.true marks.room marks.rooms

pub loop-row-preserved : goal.loop-row-preserved
loop-row-preserved c = λ leaves are. run_marked c.args.open_queries.now c.args.index.now c.as_slice-row-items.result.now c.loop-row.row-index (record { mask = 0; waits = 0; query = 0; number = 0 }) c.failing_of-failing.result c.args.event.now leaves c.args.into.now c.loop-row.into c.mark_sharing.new.into c.args.sets.now c.loop-row.sets c.mark_sharing.new.sets c.as_slice-row-items.ensures.value c.loop-row-test.true (subst (λ ts. HasFailing ts c.failing_of-failing.result c.args.event.now) c.as_slice.ensures.value c.failing_of-failing.ensures) c.mark_sharing.ensures are (c.loop-row.invariant leaves are)

pub returns : goal.returns
returns c = λ leaves are.
    let own = subst (λ (xs : List SharingRow). length xs ≤ c.loop-row.row-index) c.as_slice-row-items.ensures.value c.loop-row-test.false in
    awake_all c.args.open_queries.now c.loop-row.row-index c.args.index.now.rows.items leaves c.args.event.now c.args.into.now c.loop-row.into c.args.sets.now c.loop-row.sets (omega (arith, are.count)) (c.loop-row.invariant leaves are)
