use Rattle.std.proofs.Common.{◌≡◌, true, ap, sym, subst, ◌∙◌, take_all}
use Rattle.std.specs.List.{list_all, list_any}
use Rattle.query_leaves.specs.Shapes.{test_holds}
use Rattle.predicate_bits.specs.Spans.{allows}
use Rattle.predicate_bits.proofs.Listed.{holds_all, holds_any}
use Rattle.predicate_bits.proofs.Spanned.{all_more, any_more}
use Rattle.predicate_bits.proofs.outcomes.+outcome_of.Goals as goal

pub outcome_of_all-loop-test-preserved : goal.outcome_of_all-loop-test-preserved
outcome_of_all-loop-test-preserved t c = λ event at. all_more c.args.tests.now c.loop-test.test-index c.test-item.result c.loop-test.all c.outcome_of-one.result event c.loop-test-test.true c.test-item.is (c.loop-test.invariant event at) (c.outcome_of-one.ensures event at)

pub outcome_of_all-returns : goal.outcome_of_all-returns
outcome_of_all-returns t c = λ event at. subst (λ ts. allows c.loop-test.all (list_all (λ p. test_holds p event) ts) ≡ true) (take_all c.loop-test.test-index c.args.tests.now c.loop-test-test.false) (c.loop-test.invariant event at)

pub outcome_of_any-loop-test-preserved : goal.outcome_of_any-loop-test-preserved
outcome_of_any-loop-test-preserved t c = λ event at. any_more c.args.tests.now c.loop-test.test-index c.test-item.result c.loop-test.any c.outcome_of-one.result event c.loop-test-test.true c.test-item.is (c.loop-test.invariant event at) (c.outcome_of-one.ensures event at)

pub outcome_of_any-returns : goal.outcome_of_any-returns
outcome_of_any-returns t c = λ event at. subst (λ ts. allows c.loop-test.any (list_any (λ p. test_holds p event) ts) ≡ true) (take_all c.loop-test.test-index c.args.tests.now c.loop-test-test.false) (c.loop-test.invariant event at)

pub outcome_of-returns-in-All : goal.outcome_of-returns-in-All
outcome_of-returns-in-All t c = λ event at. subst (λ b. allows c.outcome_of_all.result b ≡ true) (ap (list_all (λ p. test_holds p event)) c.deref-in-All.ensures.value ∙ (sym (holds_all event c.in-All.tests) ∙ sym (ap (λ p. test_holds p event) c.in-All.is))) (c.outcome_of_all.ensures event at)

pub outcome_of-returns-in-Any : goal.outcome_of-returns-in-Any
outcome_of-returns-in-Any t c = λ event at. subst (λ b. allows c.outcome_of_any.result b ≡ true) (ap (list_any (λ p. test_holds p event)) c.deref-in-Any.ensures.value ∙ (sym (holds_any event c.in-Any.tests) ∙ sym (ap (λ p. test_holds p event) c.in-Any.is))) (c.outcome_of_any.ensures event at)
