use Rattle.std.proofs.Common.{◌≡◌, ◌∙◌, All, sym, subst, rules}
use Rattle.event_update.specs.Dormancy.{AreDormant}
use Rattle.query_state.specs.Matches.{OpenMatches}
use Rattle.query_state.proofs.Dormant.{none_active_keys}
use Rattle.query_state.proofs.matches.Matches.all_rest.Goals as goal

pub returns : goal.returns
returns c known =
    let none : c.self.inside.active_keys ≡ 0 = search rules in
    subst (λ (h : OpenMatches). All (AreDormant h.table) h.rows) c.self.view_is (none_active_keys c.self.inside.lazy_dfa c.self.inside.no_op_sets.items c.self.inside.lists.items (sym c.self.invariant.2 ∙ none) c.self.invariant.1)
