use Rattle.std.proofs.Common.{sym, ◌∙◌, ap, subst, option_and_then, slice_get, Some}
use Rattle.stream_schema.specs.Types.{DeclaredType, IsWellDeclared}
use Rattle.stream_schema.specs.Names.{attr_among}
use Rattle.stream_schema.proofs.WellDeclared.{one_attr}
use Rattle.stream_schema.proofs.registry.Schema.attr.Goals as goal

pub returns-in-Some-clause-only : goal.returns-in-Some-clause-only
returns-in-Some-clause-only c i a at is =
    let there = c.in-Some.ensures ∙ ap (λ ts. slice_get ts c.args.ty) c.as_slice.ensures.value ∙ ap (λ s. slice_get s.types c.args.ty) c.self.view_is in
    c.attr.ensures ∙ ap (option_and_then (λ (t : DeclaredType). attr_among t.attrs c.args.name.now)) there
    ∙ one_attr c.args.self.now (subst IsWellDeclared c.self.view_is c.self.invariant.declared) c.args.name.now c.args.ty i a at is

pub returns-in-None-clause-only : goal.returns-in-None-clause-only
returns-in-None-clause-only c i a at is =
    let there = c.in-None.ensures ∙ ap (λ ts. slice_get ts c.args.ty) c.as_slice.ensures.value ∙ ap (λ s. slice_get s.types c.args.ty) c.self.view_is in
    ap (option_and_then (λ (t : DeclaredType). attr_among t.attrs c.args.name.now)) there
    ∙ one_attr c.args.self.now (subst IsWellDeclared c.self.view_is c.self.invariant.declared) c.args.name.now c.args.ty i a at is
