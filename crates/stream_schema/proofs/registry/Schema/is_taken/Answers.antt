use Rattle.std.proofs.Common.{sym, ◌∙◌, ap, ap₂, ◌||◌, bytes_eq}
use Rattle.std.specs.List.{list_any}
use Rattle.stream_schema.specs.Names.{is_taken}
use Rattle.stream_schema.proofs.WellDeclared.{taken_is, taken_first, taken_second}
use Rattle.stream_schema.proofs.registry.Schema.is_taken.Goals as goal

pub returns-then-has : goal.returns-then-has
returns-then-has c =
    taken_first _ _ _ c.self.invariant c.as_bytes.result.now c.has.result c.if-has.true c.has.ensures
    ∙ ap₂ (λ s name. is_taken s name) c.self.view_is c.as_bytes.ensures.value

pub returns-else-has : goal.returns-else-has
returns-else-has c =
    taken_second _ _ _ c.self.invariant c.args.name.now c.has.result c.has-else-has.result c.if-has.false
    (c.has.ensures ∙ ap (λ name. list_any (λ n. bytes_eq n name) c.self.inside.type_names) c.as_bytes.ensures.value)
    (c.has-else-has.ensures ∙ ap (λ name. list_any (λ n. bytes_eq n name) c.self.inside.stream_names) c.as_bytes-else-has.ensures.value)
    ∙ ap (λ s. is_taken s c.args.name.now) c.self.view_is
