use Rattle.std.proofs.Common.{◌+◌, ◌∙◌, sym, ap, subst, arith}
use Rattle.query_index.specs.SharedTests.{one_holds}
use Rattle.query_index.proofs.TestWords.{HasFailingTo, failing_none, failing_next, failing_past, failing_all}
use Rattle.query_index.proofs.shared_tests.failing_of.Goals.{then-not-one_holds, else-not-one_holds}
use Rattle.query_index.proofs.shared_tests.failing_of.Goals as goal

pub loop-k-init : goal.loop-k-init
loop-k-init c = failing_none c.args.tests.now c.args.event.now

pub loop-k-preserved : goal.loop-k-preserved
loop-k-preserved c = elim c.if-not-one_holds.branch [
  | then-not-one_holds w ↦ subst (λ f. HasFailingTo (c.loop-k.k + 1) c.args.tests.now f c.args.event.now) (sym w.failing-is) (failing_next c.loop-k.k c.args.tests.now c.loop-k.failing w.with_bit-failing.result c.args.event.now c.index-tests-k.result (omega (arith, c.loop-k-test.true, c.min-k-end.ensures)) (ap (λ t. one_holds t c.args.event.now) (sym c.index-tests-k.is) ∙ (sym c.one_holds.ensures ∙ w.if-not-one_holds.true)) w.with_bit-failing.ensures c.loop-k.invariant)
  | else-not-one_holds w ↦ subst (λ f. HasFailingTo (c.loop-k.k + 1) c.args.tests.now f c.args.event.now) (sym w.failing-is) (failing_past c.loop-k.k c.args.tests.now c.loop-k.failing c.args.event.now c.index-tests-k.result (omega (arith, c.loop-k-test.true, c.min-k-end.ensures)) (ap (λ t. one_holds t c.args.event.now) (sym c.index-tests-k.is) ∙ (sym c.one_holds.ensures ∙ w.if-not-one_holds.false)) c.loop-k.invariant)
]

pub returns : goal.returns
returns c = failing_all c.loop-k.k c.args.tests.now c.loop-k.failing c.args.event.now (λ k low inside. omega (arith, c.loop-k-test.false, c.min-k-end.ensures)) c.loop-k.invariant
