use Rattle.std.proofs.Common.{ap, sym, ◌∙◌, map, nat_eq}
use Rattle.std.specs.Prelude.{reverse}
use Rattle.std.specs.List.{list_any}
use Rattle.query_leaves.specs.Changes.{change_leaf}
use Rattle.query_leaves.proofs.Keyed.{not_changed}
use Rattle.query_leaves.proofs.occurrence.Occurrence.may_change_by.Goals as goal

pub returns : goal.returns
returns c change is without =
    let own = c.self.inside in
    let none = ap (λ ds. list_any (λ d. nat_eq d c.args.key) ds) (sym (c.as_slice.ensures.value ∙ c.self.invariant)) ∙ sym c.has_key.ensures ∙ without in
    ap (change_leaf change) (sym c.self.view_is)
    ∙ not_changed c.args.key change own.ty.now (map (λ p. p.now) (reverse own.tests.items)) own.names.items is c.if-key-eq-EVERY.false none
    ∙ c.self.view_is
