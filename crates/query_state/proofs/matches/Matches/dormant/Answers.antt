use Rattle.std.proofs.Common.{◌≡◌, ◌<◌, true, rules, ap, subst, length, Some, slice_get, arith}
use Rattle.event_update.specs.Dormancy.{AreDormant}
use Rattle.query_state.specs.Matches.{OpenMatches, MayBeDormant}
use Rattle.query_state.proofs.Cuts.{row_at, rows_length}
use Rattle.query_state.proofs.Dormant.{all_there}
use Rattle.query_state.proofs.matches.Matches.dormant.Goals as goal

pub returns-then-index-clause-rest : goal.returns-then-index-clause-rest
returns-then-index-clause-rest c known =
    let told : c.index.result.now.is_dormant ≡ true = search rules in
    let less = c.requires in
    let inside : c.args.number < length c.self.inside.lists.items = (let l = rows_length _ c.self.inside.lists.items c.args.self.now.rows (ap (λ (h : OpenMatches). h.rows) c.self.view_is) in omega arith) in (
      c.index.result.now.active.entries,
      subst (λ (h : OpenMatches). slice_get h.rows c.args.number ≡ Some c.index.result.now.active.entries) c.self.view_is (row_at _ c.self.inside.lists.items c.args.number c.index.result.now inside c.index.ensures),
      subst (λ (h : OpenMatches). AreDormant h.table c.index.result.now.active.entries) c.self.view_is ((all_there (MayBeDormant c.self.inside.lazy_dfa c.self.inside.no_op_sets.items) c.self.inside.lists.items c.args.number c.index.result.now inside c.index.ensures c.self.invariant.1).rest told),
    )
