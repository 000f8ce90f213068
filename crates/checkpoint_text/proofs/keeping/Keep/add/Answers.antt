use Rattle.std.proofs.Common.{List, Option, ℤ, length, ◌++◌, ◌∷◌, [], sym, ap, ◌∙◌}
use Rattle.std.specs.Str.Lines.{strip_carriage_return}
use Rattle.checkpoint_text.specs.LastClocks.{next_clocks}
use Rattle.checkpoint_text.specs.declared.keeping.KeptLine.{KeptLine}
use Rattle.checkpoint_text.proofs.Needs.{added, next_long}
use Rattle.checkpoint_text.proofs.keeping.Keep.add.Goals as goal

pub invariant_of-self-2 : goal.invariant_of-self-2
invariant_of-self-2 c =
    ap length c.in_ok-lasts.ensures ∙ next_long c.self.inside.schema.now c.self.inside.queries.now c.as_slice.result.now _ (ap length c.as_slice.ensures.value ∙ c.self.invariant)

pub returns-clause-added : goal.returns-clause-added
returns-clause-added c =
    c.give_up_some.ensures
    ∙ added c.self.inside.schema.now c.self.inside.queries.now c.self.inside.positions c.self.inside.lines.items c.self.inside.lasts.items c.args.event.now (strip_carriage_return c.args.text.now) c.push.new.self.items c.in_ok-lasts.lasts.items c.args.self.now
    (sym c.self.view_is) c.requires.level
    (c.in_ok-lasts.ensures ∙ ap (λ (ls : List (Option ℤ)). next_clocks c.self.inside.schema.now c.self.inside.queries.now ls (record { position = c.self.inside.positions; event = c.args.event.now })) c.as_slice.ensures.value)
    (c.in_ok-push.ensures.items ∙ ap (λ (l : KeptLine). c.self.inside.lines.items ++ l ∷ []) c.in_ok-line.ensures)
