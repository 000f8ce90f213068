use Rattle.std.proofs.Common.{sym, subst, arith}
use Rattle.query_leaves.specs.declared.Test as test
use Rattle.query_leaves.specs.Tests.{IsTestOf, AreTestsOf}
use Rattle.query_leaves.proofs.Tested.{all_tested, any_tested}
use Rattle.query_leaves.proofs.Pairs.{of_equals, one_more_each, all_each}
use Rattle.query_leaves.proofs.test_of.+is_test_of.Goals as goal

pub is_test_of-returns-in-All-test : goal.is_test_of-returns-in-All-test
is_test_of-returns-in-All-test t c = λ same.
    let tests = c.in-All-test.tests in
    let schema = c.args.schema.now in
    subst (IsTestOf schema c.args.ty c.args.pred.now) (sym c.in-All-test.is)
    (subst (λ p. IsTestOf schema c.args.ty p (test.All tests)) (sym c.in-All.is)
    (all_tested schema c.args.ty c.in-All.preds tests
    (subst (AreTestsOf schema c.args.ty c.in-All.preds.items) c.deref-in-All-test-2.ensures.value
    (subst (λ ps. AreTestsOf schema c.args.ty ps c.deref-in-All-test-2.result.now) c.deref-in-All-test.ensures.value (c.are_tests_of.ensures same)))))

pub is_test_of-returns-in-Any-test : goal.is_test_of-returns-in-Any-test
is_test_of-returns-in-Any-test t c = λ same.
    let tests = c.in-Any-test.tests in
    let schema = c.args.schema.now in
    subst (IsTestOf schema c.args.ty c.args.pred.now) (sym c.in-Any-test.is)
    (subst (λ p. IsTestOf schema c.args.ty p (test.Any tests)) (sym c.in-Any.is)
    (any_tested schema c.args.ty c.in-Any.preds tests
    (subst (AreTestsOf schema c.args.ty c.in-Any.preds.items) c.deref-in-Any-test-2.ensures.value
    (subst (λ ps. AreTestsOf schema c.args.ty ps c.deref-in-Any-test-2.result.now) c.deref-in-Any-test.ensures.value (c.are_tests_of-in-Any-test.ensures same)))))

pub are_tests_of-loop-k-preserved : goal.are_tests_of-loop-k-preserved
are_tests_of-loop-k-preserved t c =
    let is = IsTestOf c.args.schema.now c.args.ty in
    let tests = c.args.tests.now in
    let k = c.loop-k.k in
    one_more_each is c.args.preds.now tests k c.index-preds-k.result c.index-tests-k.result c.loop-k-test.true (omega (arith, c.loop-k-test.true, c.if-preds-tests.false)) c.loop-k.invariant
    (of_equals is c.index-preds-k.result _ c.index-tests-k.result _ c.index-preds-k.is c.index-tests-k.is (c.is_test_of.ensures c.if-not-is_test_of.false))

pub are_tests_of-returns : goal.are_tests_of-returns
are_tests_of-returns t c = λ same.
    all_each (IsTestOf c.args.schema.now c.args.ty) c.args.preds.now c.args.tests.now c.loop-k.k c.if-preds-tests.false c.loop-k-test.false c.loop-k.invariant
