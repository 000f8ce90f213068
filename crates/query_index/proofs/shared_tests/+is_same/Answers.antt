use Rattle.std.proofs.Common.{◌∙◌, sym, ap, arith}
use Rattle.query_leaves.specs.Shapes.{test_holds}
use Rattle.query_index.proofs.TestWords.{alike_all, alike_any, alike_next, alike_each}
use Rattle.query_index.proofs.shared_tests.+is_same.Goals as goal

pub is_same-returns-in-All-other : goal.is_same-returns-in-All-other
is_same-returns-in-All-other t c = λ same event. ap (λ x. test_holds x event) c.in-All.is ∙ (alike_all c.in-All.tests c.in-All-other.others c.deref-in-All-other.result.now c.deref-in-All-other-2.result.now c.deref-in-All-other.ensures.value c.deref-in-All-other-2.ensures.value (c.are_same.ensures same) event ∙ ap (λ x. test_holds x event) (sym c.in-All-other.is))

pub is_same-returns-in-Any-other : goal.is_same-returns-in-Any-other
is_same-returns-in-Any-other t c = λ same event. ap (λ x. test_holds x event) c.in-Any.is ∙ (alike_any c.in-Any.tests c.in-Any-other.others c.deref-in-Any-other.result.now c.deref-in-Any-other-2.result.now c.deref-in-Any-other.ensures.value c.deref-in-Any-other-2.ensures.value (c.are_same-in-Any-other.ensures same) event ∙ ap (λ x. test_holds x event) (sym c.in-Any-other.is))

pub are_same-loop-k-preserved : goal.are_same-loop-k-preserved
are_same-loop-k-preserved t c = alike_next c.loop-k.k c.args.tests.now c.args.others.now c.index-tests-k.result c.index-others-k.result c.index-tests-k.is c.index-others-k.is c.loop-k-test.true (omega (arith, c.loop-k-test.true, c.if-tests-others.false)) (c.is_same.ensures c.if-not-is_same.false) c.loop-k.invariant

pub are_same-returns : goal.are_same-returns
are_same-returns t c = λ same. alike_each c.loop-k.k c.args.tests.now c.args.others.now c.if-tests-others.false (omega (arith, c.loop-k-test.false)) c.loop-k.invariant
