use Rattle.std.proofs.Common.{sym, ◌∙◌, ap}
use Rattle.stream_schema.specs.Types.{name_of_type}
use Rattle.stream_schema.specs.Names.{type_number}
use Rattle.stream_schema.proofs.WellDeclared.{found_in, one_type}
use Rattle.stream_schema.proofs.registry.Schema.type_of_bytes.Goals as goal

pub returns-in-Some-clause-place : goal.returns-in-Some-clause-place
returns-in-Some-clause-place c =
    sym c.in-Some.is ∙ c.place.ensures.place ∙ found_in (λ t. t.name) c.self.inside.types.items c.self.inside.type_names c.self.invariant.types c.args.name.now
    ∙ ap (λ s. type_number s.types c.args.name.now) c.self.view_is

pub returns-in-Some-clause-only : goal.returns-in-Some-clause-only
returns-in-Some-clause-only c ty has =
    returns-in-Some-clause-place c
    ∙ sym (ap (λ s. type_number s.types c.args.name.now) c.self.view_is)
    ∙ one_type _ c.self.invariant.declared c.args.name.now ty (ap (λ s. name_of_type s.types ty) c.self.view_is ∙ has)

pub returns-in-None-clause-place : goal.returns-in-None-clause-place
returns-in-None-clause-place c =
    sym c.in-None.is ∙ c.place.ensures.place ∙ found_in (λ t. t.name) c.self.inside.types.items c.self.inside.type_names c.self.invariant.types c.args.name.now
    ∙ ap (λ s. type_number s.types c.args.name.now) c.self.view_is

pub returns-in-None-clause-only : goal.returns-in-None-clause-only
returns-in-None-clause-only c ty has =
    returns-in-None-clause-place c
    ∙ sym (ap (λ s. type_number s.types c.args.name.now) c.self.view_is)
    ∙ one_type _ c.self.invariant.declared c.args.name.now ty (ap (λ s. name_of_type s.types ty) c.self.view_is ∙ has)
