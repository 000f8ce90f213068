use Rattle.std.proofs.Common.{sym, subst, take, ◌+◌}
use Rattle.query_leaves.specs.declared.Test.{Test}
use Rattle.query_leaves.specs.declared.Test as test
use Rattle.query_leaves.specs.Tests.{IsTestOf, AreTestsOf}
use Rattle.query_leaves.proofs.Tested.{all_tested, any_tested}
use Rattle.query_leaves.proofs.Pairs.{one_more}
use Rattle.query_leaves.proofs.test_of.+test_of.Goals as goal

pub test_of-returns-in_ok-tests-in-All : goal.test_of-returns-in_ok-tests-in-All
test_of-returns-in_ok-tests-in-All t c =
    let tests = c.in_ok-tests-in-All.tests in
    subst (λ p. IsTestOf c.args.schema.now c.args.ty p (test.All tests)) (sym c.in-All.is)
    (all_tested c.args.schema.now c.args.ty c.in-All.preds tests
    (subst (λ ps. AreTestsOf c.args.schema.now c.args.ty ps tests.items) c.deref-in-All.ensures.value c.in_ok-tests-in-All.ensures))

pub test_of-returns-in_ok-tests-in-Any : goal.test_of-returns-in_ok-tests-in-Any
test_of-returns-in_ok-tests-in-Any t c =
    let tests = c.in_ok-tests-in-Any.tests in
    subst (λ p. IsTestOf c.args.schema.now c.args.ty p (test.Any tests)) (sym c.in-Any.is)
    (any_tested c.args.schema.now c.args.ty c.in-Any.preds tests
    (subst (λ ps. AreTestsOf c.args.schema.now c.args.ty ps tests.items) c.deref-in-Any.ensures.value c.in_ok-tests-in-Any.ensures))

pub tests_of-loop-pred-preserved : goal.tests_of-loop-pred-preserved
tests_of-loop-pred-preserved t c =
    let schema = c.args.schema.now in
    let preds = c.args.preds.now in
    subst (AreTestsOf schema c.args.ty (take (c.loop-pred.pred-index + 1) preds)) (sym c.in_ok-push.ensures.items)
    (one_more (IsTestOf schema c.args.ty) preds c.loop-pred.pred-index c.pred-item.result c.loop-pred.tests.items c.in_ok-test_of.field-0 c.loop-pred-test.true c.loop-pred.invariant
    (subst (λ p. IsTestOf schema c.args.ty p c.in_ok-test_of.field-0) c.pred-item.is c.in_ok-test_of.ensures))
