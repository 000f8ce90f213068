use Rattle.std.proofs.Common.{sym, ◌∙◌, ap, ap₂, bytes_eq, Some}
use Rattle.std.specs.List.{position_from}
use Rattle.stream_schema.specs.Names.{stream_types}
use Rattle.stream_schema.proofs.WellDeclared.{stream_found, no_stream_found}
use Rattle.stream_schema.proofs.registry.Schema.streams.Goals as goal

pub returns-in-Some : goal.returns-in-Some
returns-in-Some c =
    ap (λ ts. Some ts) c.types.ensures
    ∙ stream_found c.self.inside.streams.items c.self.inside.stream_names c.self.invariant.streams c.args.name.now c.in-Some.place c.index.result.now
    (c.in-Some.ensures.place ∙ ap (λ name. position_from (λ n. bytes_eq n name) 0 c.self.inside.stream_names) c.as_bytes.ensures.value) c.in-Some.ensures.bound c.index.ensures
    ∙ ap (λ s. stream_types s.streams c.args.name.now) c.self.view_is

pub returns-in-None : goal.returns-in-None
returns-in-None c =
    no_stream_found c.self.inside.streams.items c.self.inside.stream_names c.self.invariant.streams c.args.name.now (c.in-None.ensures.place ∙ ap (λ name. position_from (λ n. bytes_eq n name) 0 c.self.inside.stream_names) c.as_bytes.ensures.value)
    ∙ ap (λ s. stream_types s.streams c.args.name.now) c.self.view_is
