use Rattle.std.proofs.Common.{◌≡◌, ◌<◌, ◌∙◌, length, Some, slice_get, sym, ap, subst, List, arith}
use Rattle.event_update.specs.Dormancy.{AreNoOp}
use Rattle.query_standing.specs.Kept.{Rows}
use Rattle.query_state.specs.declared.lists.Lists.{Lists}
use Rattle.query_state.specs.Matches.{OpenMatches, MayBeDormant}
use Rattle.query_state.proofs.Cuts.{row_at, rows_length}
use Rattle.query_state.proofs.NoOp.{active_keys_same}
use Rattle.query_state.proofs.Dormant.{is_no_op_set, more_sets, noted_all, all_there, set_long, rows_set}
use Rattle.query_state.proofs.matches.Matches.learn.Goals as goal

pub invariant_of-self : goal.invariant_of-self
invariant_of-self c =
    let less = c.requires.inside in
    let inside : c.args.number < length c.self.inside.lists.items = (let l = rows_length _ c.self.inside.lists.items c.args.self.now.rows (ap (λ (h : OpenMatches). h.rows) c.self.view_is) in omega arith) in
    let there = row_at (λ (l : Lists). l.active.entries) c.self.inside.lists.items c.args.number c.index_mut.result.now inside c.index_mut.ensures.value in
    let passes = c.requires.no_op (c.is_unchanged.ensures c.if-is_unchanged.true) c.index_mut.result.now.active.entries (subst (λ (h : OpenMatches). slice_get h.rows c.args.number ≡ Some c.index_mut.result.now.active.entries) c.self.view_is there) in
    let sets = c.number_of_set-set.new.sets.items in
    let no_op : AreNoOp c.self.inside.lazy_dfa c.args.bits.now c.index_mut.result.now.active.entries = subst (λ (h : OpenMatches). AreNoOp h.table c.args.bits.now c.index_mut.result.now.active.entries) (sym c.self.view_is) passes in
    let all = more_sets c.self.inside.lazy_dfa c.self.inside.no_op_sets.items sets c.self.inside.lists.items c.number_of_set-set.ensures.kept c.self.invariant.1 in
    let set = is_no_op_set c.self.inside.lazy_dfa sets c.index_mut.result.now.active.entries c.args.bits.now c.number_of_set-set.result no_op c.number_of_set-set.ensures.is in (
      c.self.invariant.0 ∙ sym (set_long c.self.inside.lists.items c.args.number c.learn.new.self),
      noted_all (MayBeDormant c.self.inside.lazy_dfa sets) c.self.inside.lists.items c.args.number c.learn.new.self all (c.learn.ensures.are.is_dormant c.self.inside.lazy_dfa sets (set, all_there (MayBeDormant c.self.inside.lazy_dfa sets) c.self.inside.lists.items c.args.number c.index_mut.result.now inside c.index_mut.ensures.value all)),
      c.self.invariant.2 ∙ sym (active_keys_same c.self.inside.lists.items c.args.number c.index_mut.result.now c.learn.new.self inside (c.learn.ensures.known ∙ ap (λ (l : Lists). l.is_dormant) c.index_mut.ensures.value)),
      c.self.invariant.3,
    )

pub returns-then-is_unchanged : goal.returns-then-is_unchanged
returns-then-is_unchanged c =
    let less = c.requires.inside in
    let inside : c.args.number < length c.self.inside.lists.items = (let l = rows_length _ c.self.inside.lists.items c.args.self.now.rows (ap (λ (h : OpenMatches). h.rows) c.self.view_is) in omega arith) in
    let view : List Rows → OpenMatches = λ rows. record { table = c.self.inside.lazy_dfa; nodes = c.self.inside.store.nodes; keys = c.self.inside.keys; rows = rows } in
    ap view (rows_set c.self.inside.lists.items c.args.number c.index_mut.result.now c.learn.new.self inside (c.learn.ensures.are.rows ∙ ap (λ (l : Lists). l.active.entries) c.index_mut.ensures.value)) ∙ c.self.view_is
