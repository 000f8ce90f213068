use Rattle.std.proofs.Common.{◌≡◌, refl, eqb, sym, ◌∙◌}
use Rattle.std.specs.Cmp.Lexicographic.{pointwise}
use Rattle.std.proofs.lemmas.Bool.Decides.{Decides-eqb}
use Rattle.std.proofs.lemmas.Slice.Eq.{slice_eq-Decides}
use Rattle.stream_schema.proofs.WellDeclared.{one_attr}
use Rattle.query_leaves.proofs.Tested.{attr_found}
use Rattle.query_leaves.proofs.test_of.is_named.Goals as goal

pub returns-in-Some-attr_there : goal.returns-in-Some-attr_there
returns-in-Some-attr_there c is =
    let schema = c.args.schema.now in
    let a = c.in-Some-attr_there.attr.now in
    let there = attr_found schema.types c.args.ty c.args.place c.in-Some.attrs.now a c.in-Some.ensures (sym c.in-Some-attr_there.ensures) in
    let same : c.as_str.result.now ≡ c.args.name.now = (slice_eq-Decides Decides-eqb c.as_str.result.now c.args.name.now (pointwise eqb c.as_str.result.now c.args.name.now) refl).0 (sym c.eq.ensures ∙ is) in
    (a.kind, one_attr schema c.well_declared.ensures c.args.name.now c.args.ty c.args.place a there (sym c.as_str.ensures ∙ same))
