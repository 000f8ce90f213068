use Rattle.std.proofs.Common.{ap, sym, ◌∙◌}
use Rattle.std.specs.List.{list_all, list_any}
use Rattle.query_leaves.specs.Shapes.{test_holds}
use Rattle.predicate_bits.proofs.Listed.{holds_all, holds_any}
use Rattle.predicate_bits.proofs.holding.+holds.Goals as goal

pub holds-returns-in-All : goal.holds-returns-in-All
holds-returns-in-All t c =
    let e = holds_all c.args.event.now c.in-All.tests in
    let v = c.deref-in-All.ensures.value in
    let i = ap (λ p. test_holds p c.args.event.now) c.in-All.is in
    c.all_hold.ensures ∙ ap (list_all (λ p. test_holds p c.args.event.now)) v ∙ sym e ∙ sym i

pub holds-returns-in-Any : goal.holds-returns-in-Any
holds-returns-in-Any t c =
    let e = holds_any c.args.event.now c.in-Any.tests in
    let v = c.deref-in-Any.ensures.value in
    let i = ap (λ p. test_holds p c.args.event.now) c.in-Any.is in
    c.any_holds.ensures ∙ ap (list_any (λ p. test_holds p c.args.event.now)) v ∙ sym e ∙ sym i
