use Rattle.query_leaves.specs.Tests.{IsTestOf}
use Rattle.query_leaves.proofs.Pairs.{of_equals, none_from, one_more_each_from, all_from}
use Rattle.query_leaves.proofs.test_of.are_tests_of_all.Goals as goal

pub loop-k-init : goal.loop-k-init
loop-k-init c = none_from (λ p. p.now) (IsTestOf c.args.schema.now c.args.ty) c.args.preds.now c.args.tests.now

pub loop-k-preserved : goal.loop-k-preserved
loop-k-preserved c =
    let is = IsTestOf c.args.schema.now c.args.ty in
    one_more_each_from (λ p. p.now) is c.args.preds.now c.args.tests.now c.loop-k.k c.index-preds-k.result c.index-tests-tests.result c.if-preds-tests.false c.loop-k-test.true c.loop-k.auto.k c.loop-k.invariant
    (of_equals (λ p. is p.now) c.index-preds-k.result _ c.index-tests-tests.result _ c.index-preds-k.is c.index-tests-tests.is (c.is_test_of.ensures c.if-not-is_test_of.false))

pub returns : goal.returns
returns c = λ same.
    all_from (λ p. p.now) (IsTestOf c.args.schema.now c.args.ty) c.args.preds.now c.args.tests.now c.loop-k.k c.if-preds-tests.false c.loop-k-test.false c.loop-k.invariant
