use Rattle.std.proofs.Common.{ap, sym, ◌∙◌}
use Rattle.std.specs.List.{list_all, list_any}
use Rattle.cel_terms.specs.Predicate.{holds}
use Rattle.cel_plain.proofs.Predicates.{holds_all, holds_any}
use Rattle.cel_plain.proofs.predicate.+holds.Goals as goal

pub holds-returns-in-All : goal.holds-returns-in-All
holds-returns-in-All t c =
    let e = holds_all c.args.schema.now c.args.event.now c.in-All.preds in
    let v = c.deref-in-All.ensures.value in
    let i = ap (λ p. holds c.args.schema.now p c.args.event.now) c.in-All.is in
    c.all_hold.ensures ∙ ap (list_all (λ p. holds c.args.schema.now p c.args.event.now)) v ∙ sym e ∙ sym i

pub holds-returns-in-Any : goal.holds-returns-in-Any
holds-returns-in-Any t c =
    let e = holds_any c.args.schema.now c.args.event.now c.in-Any.preds in
    let v = c.deref-in-Any.ensures.value in
    let i = ap (λ p. holds c.args.schema.now p c.args.event.now) c.in-Any.is in
    c.any_holds.ensures ∙ ap (list_any (λ p. holds c.args.schema.now p c.args.event.now)) v ∙ sym e ∙ sym i
