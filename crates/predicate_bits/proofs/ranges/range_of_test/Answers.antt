use Rattle.std.proofs.Common.{ap, sym, subst, ◌∙◌}
use Rattle.std.specs.List.{list_all}
use Rattle.query_leaves.specs.Shapes.{test_holds}
use Rattle.predicate_bits.specs.Ranges.{Narrows}
use Rattle.predicate_bits.proofs.Listed.{holds_all}
use Rattle.predicate_bits.proofs.Ranged.{asks_whole, asks_more}
use Rattle.predicate_bits.proofs.ranges.range_of_test.Goals as goal

pub returns-in-All : goal.returns-in-All
returns-in-All c =
    let tests = c.in-All.joined in
    let r = c.narrowed_by.result in
    let narrows = subst (λ ts. Narrows c.whole.result r (λ event. list_all (λ t. test_holds t event) ts)) c.as_slice-tests.ensures.value c.narrowed_by.ensures in
    asks_more r (λ event. list_all (λ t. test_holds t event) tests.items) (test_holds c.args.test.now) (λ event h. sym (holds_all event tests) ∙ (sym (ap (λ p. test_holds p event) c.in-All.is) ∙ h))
    (asks_whole c.whole.result r (λ event. list_all (λ t. test_holds t event) tests.items) c.whole.ensures narrows)

pub returns-in_default : goal.returns-in_default
returns-in_default c = asks_whole c.whole-in_default.result c.narrowed.result (test_holds c.args.test.now) c.whole-in_default.ensures c.narrowed.ensures
