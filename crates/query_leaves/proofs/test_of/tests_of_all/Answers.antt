use Rattle.std.proofs.Common.{sym, subst, drop, map, ◌-◌, arith}
use Rattle.std.specs.Prelude.{reverse}
use Rattle.query_leaves.specs.Tests.{IsTestOf, AreTestsOf}
use Rattle.query_leaves.proofs.Pairs.{one_more_from}
use Rattle.query_leaves.proofs.test_of.tests_of_all.Goals as goal

pub loop-k-preserved : goal.loop-k-preserved
loop-k-preserved c =
    let schema = c.args.schema.now in
    let preds = c.args.preds.now in
    let k = c.loop-k.k in
    subst (AreTestsOf schema c.args.ty (map (λ p. p.now) (reverse (drop (k - 1) preds)))) (sym c.in_ok-push.ensures.items)
    (one_more_from (λ p. p.now) (IsTestOf schema c.args.ty) preds k c.index-preds-k.result c.loop-k.tests.items c.in_ok-test_of.field-0 (omega (arith, c.loop-k-test.true)) (omega (arith, c.loop-k.auto.k)) c.loop-k.invariant
    (subst (λ p. IsTestOf schema c.args.ty p.now c.in_ok-test_of.field-0) c.index-preds-k.is c.in_ok-test_of.ensures))
