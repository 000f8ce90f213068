use Rattle.std.proofs.Common.{ap, ◌∙◌}
use Rattle.std.specs.Prelude.{slice_get}
use Rattle.cel_terms.proofs.TypesAndValues.{value_there}
use Rattle.cel_terms.proofs.reading.value_of.Goals as goal

pub returns-in-Some-attr_place : goal.returns-in-Some-attr_place
returns-in-Some-attr_place c =
    value_there c.args.name.now (slice_get c.args.schema.now.types c.args.event.now.ty) c.args.event.now.values c.in-Some.attrs.now c.in-Some-attr_place.place _
    c.in-Some.ensures c.in-Some-attr_place.ensures
    (c.value_at.ensures ∙ ap (λ vs. slice_get vs c.in-Some-attr_place.place) c.as_slice.ensures)
