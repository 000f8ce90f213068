use Rattle.std.proofs.Common.{◌∙◌, ap, ap₂, ◌≡◌, bytes_eq}
use Rattle.std.specs.List.{position_from}
use Rattle.stream_schema.specs.Names.{attr_index}
use Rattle.stream_schema.proofs.Distinct.{position-map}
use Rattle.stream_schema.proofs.declarations.TypeDecl.place.Goals as goal

pub returns-clause-place : goal.returns-clause-place
returns-clause-place c =
    c.place.ensures.place
    ∙ ap₂ (λ name names. position_from (λ n. bytes_eq n name) 0 names) c.as_bytes.ensures.value c.self.invariant.1
    ∙ position-map (λ a. a.name) c.self.inside.attrs c.args.name.now 0
    ∙ ap (λ t. attr_index c.args.name.now t.attrs) c.self.view_is
