use Rattle.std.proofs.Common.{refl}
use Rattle.std.proofs.lemmas.Bool.{not-true}
use Rattle.predicate_bits.proofs.Listed.{one_fails}
use Rattle.predicate_bits.proofs.Spanned.{not_held}
use Rattle.predicate_bits.proofs.outcomes.may_all_hold.Goals as goal

pub returns-then-not-outcome_of : goal.returns-then-not-outcome_of
returns-then-not-outcome_of c = λ none event at.
    one_fails event c.args.tests.now c.loop-test.test-index c.test-item.result c.loop-test-test.true c.test-item.is
    (not_held c.outcome_of.result _ _ (c.outcome_of.ensures event at) refl (not-true c.outcome_of.result.may_hold c.if-not-outcome_of.true))
