use Rattle.std.proofs.Common.{◌≡◌, ◌<◌, ◌∙◌, ap, sym, subst, [], length, Some, slice_get, arith}
use Rattle.std.specs.List.{IsDistinct}
use Rattle.cea_determinise.specs.LazyDfa.{IsSound}
use Rattle.cea_determinise.specs.Keys.{are_same_sets}
use Rattle.event_update.specs.Dormancy.{AreNoOp}
use Rattle.event_update.specs.Update.{accepted_entries}
use Rattle.event_update.proofs.Dormant.{none_accepted}
use Rattle.query_state.specs.Matches.{OpenMatches, MayBeDormant}
use Rattle.query_state.proofs.Cuts.{row_at, rows_length}
use Rattle.query_state.proofs.NoOp.{not_so, no_op_states}
use Rattle.query_state.proofs.Dormant.{all_there}
use Rattle.query_state.proofs.matches.Matches.lets_own_pass.Goals as goal

pub some_accepts-requires : goal.some_accepts-requires
some_accepts-requires c =
    let less = c.requires in
    let inside : c.args.number < length c.self.inside.lists.items = (let l = rows_length _ c.self.inside.lists.items c.args.self.now.rows (ap (λ (h : OpenMatches). h.rows) c.self.view_is) in omega arith) in
    let may = all_there (MayBeDormant c.self.inside.lazy_dfa c.self.inside.no_op_sets.items) c.self.inside.lists.items c.args.number c.index-lists.result.now inside c.index-lists.ensures c.self.invariant.1 in
    record { states = no_op_states c.self.inside.lazy_dfa c.args.bits.now c.index-lists.result.now.active.entries (c.let_pass.ensures c.if-let_pass.true c.self.inside.lazy_dfa (subst (λ sets. MayBeDormant c.self.inside.lazy_dfa sets c.index-lists.result.now) (sym c.as_slice.ensures.value) may)).each }

pub returns-then-let_pass : goal.returns-then-let_pass
returns-then-let_pass c told =
    let less = c.requires in
    let inside : c.args.number < length c.self.inside.lists.items = (let l = rows_length _ c.self.inside.lists.items c.args.self.now.rows (ap (λ (h : OpenMatches). h.rows) c.self.view_is) in omega arith) in
    let may = all_there (MayBeDormant c.self.inside.lazy_dfa c.self.inside.no_op_sets.items) c.self.inside.lists.items c.args.number c.index-lists.result.now inside c.index-lists.ensures c.self.invariant.1 in
    let no_op = c.let_pass.ensures c.if-let_pass.true c.self.inside.lazy_dfa (subst (λ sets. MayBeDormant c.self.inside.lazy_dfa sets c.index-lists.result.now) (sym c.as_slice.ensures.value) may) in
    let none = none_accepted c.self.inside.lazy_dfa c.index-lists.result.now.active.entries (sym c.some_accepts.ensures ∙ not_so c.some_accepts.result told) in
    record {
      rows = c.index-lists.result.now.active.entries;
      at = subst (λ (h : OpenMatches). slice_get h.rows c.args.number ≡ Some c.index-lists.result.now.active.entries) c.self.view_is (row_at _ c.self.inside.lists.items c.args.number c.index-lists.result.now inside c.index-lists.ensures);
      no_op = subst (λ (h : OpenMatches). AreNoOp h.table c.args.bits.now c.index-lists.result.now.active.entries) c.self.view_is no_op;
      none = subst (λ (h : OpenMatches). accepted_entries h.table c.index-lists.result.now.active.entries ≡ []) c.self.view_is none;
      sound = subst (λ (h : OpenMatches). IsSound h.table) c.self.view_is c.sizes-sizes.ensures.sound;
      distinct = subst (λ (h : OpenMatches). IsDistinct are_same_sets h.table.states) c.self.view_is c.found-found.ensures.once;
    }
