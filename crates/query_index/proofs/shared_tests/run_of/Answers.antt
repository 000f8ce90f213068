use Rattle.std.proofs.Common.{sym, subst, take}
use Rattle.std.proofs.lemmas.List.{take_more}
use Rattle.query_index.specs.SharedTests.{AreSharing}
use Rattle.query_index.proofs.TestWords.{sharing_none}
use Rattle.query_index.proofs.shared_tests.run_of.Goals as goal

pub loop-row-init : goal.loop-row-init
loop-row-init c = sharing_none c.args.leaves.now c.nothing_shared-shared.result c.nothing_shared-shared.ensures.rows

pub loop-row-preserved : goal.loop-row-preserved
loop-row-preserved c = subst (λ rs. AreSharing c.args.leaves.now rs c.put_row.new.shared) (sym (take_more c.args.rows.now c.loop-row.row-index _ c.loop-row-test.true)) (c.in_ok-put_row.ensures.put c.if-not-branch.false (take c.loop-row.row-index c.args.rows.now) c.loop-row.invariant)
