use Rattle.std.proofs.Common.{ap, sym, ◌∙◌}
use Rattle.std.specs.List.{list_all, list_any}
use Rattle.cel_lists.specs.Lists.{meets}
use Rattle.cel_plain.proofs.Naming.{meets_all_is, meets_any_is}
use Rattle.cel_plain.proofs.filter.+meets.Goals as goal

pub meets-returns-in-All : goal.meets-returns-in-All
meets-returns-in-All t c =
    let e = meets_all_is c.args.schema.now c.args.events.now c.args.bounds.now c.in-All.filters in
    let i = ap (λ f. meets c.args.schema.now c.args.events.now f c.args.bounds.now) c.in-All.is in
    c.meets_all.ensures ∙ ap (list_all (λ f. meets c.args.schema.now c.args.events.now f c.args.bounds.now)) c.deref.ensures.value ∙ sym e ∙ sym i

pub meets-returns-in-Any : goal.meets-returns-in-Any
meets-returns-in-Any t c =
    let e = meets_any_is c.args.schema.now c.args.events.now c.args.bounds.now c.in-Any.filters in
    let i = ap (λ f. meets c.args.schema.now c.args.events.now f c.args.bounds.now) c.in-Any.is in
    c.meets_any.ensures ∙ ap (list_any (λ f. meets c.args.schema.now c.args.events.now f c.args.bounds.now)) c.deref-in-Any.ensures.value ∙ sym e ∙ sym i
