use Rattle.std.proofs.Common.{ap, sym, ◌∙◌}
use Rattle.std.specs.List.{list_all, list_any}
use Rattle.query_leaves.specs.Shapes.{test_holds}
use Rattle.predicate_bits.proofs.Listed.{holds_all, holds_any}
use Rattle.predicate_bits.proofs.holding.holds_joined.Goals as goal

pub returns-in-All : goal.returns-in-All
returns-in-All c =
    let e = holds_all c.args.event.now c.in-All.tests in
    let v = c.as_slice.ensures.value in
    let i = ap (λ p. test_holds p c.args.event.now) c.in-All.is in
    c.all_hold_flat.ensures ∙ ap (list_all (λ p. test_holds p c.args.event.now)) v ∙ sym e ∙ sym i

pub returns-in-Any : goal.returns-in-Any
returns-in-Any c =
    let e = holds_any c.args.event.now c.in-Any.tests in
    let v = c.as_slice-in-Any.ensures.value in
    let i = ap (λ p. test_holds p c.args.event.now) c.in-Any.is in
    c.any_holds_flat.ensures ∙ ap (list_any (λ p. test_holds p c.args.event.now)) v ∙ sym e ∙ sym i
