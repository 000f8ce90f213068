use Rattle.std.proofs.Common.{◌≡◌, ◌∙◌, All, map, sym, ap, subst, [], length, arith, slice_set, slice_index_or}
use Rattle.std.proofs.lemmas.List.{with_items_is}
use Rattle.event_update.specs.Update.{rows_after}
use Rattle.query_state.specs.Matches.{OpenMatches, MayBeDormant, active_keys_in, AreDormantStates}
use Rattle.query_state.specs.declared.lists.Lists.{Lists}
use Rattle.query_state.proofs.Cuts.{rows_length}
use Rattle.query_state.proofs.matches.Matches.put.Goals as goal

pub put_lists-requires-clause-inside : goal.put_lists-requires-clause-inside
put_lists-requires-clause-inside c =
    let less = c.requires in
    let count = ap length c.as_mut_slice.ensures.value in
    let l = rows_length _ c.self.inside.lists.items c.args.self.now.rows (ap (λ (h : OpenMatches). h.rows) c.self.view_is) in
    omega arith

pub put_lists-requires-clause-active_keys : goal.put_lists-requires-clause-active_keys
put_lists-requires-clause-active_keys c = c.self.invariant.2 ∙ sym (ap active_keys_in c.as_mut_slice.ensures.value)

pub returns : goal.returns
returns c =
    let v = c.self.view_is in
    let long : length c.put_lists.new.lists ≡ c.self.inside.lists.len = (let e = c.as_mut_slice.ensures.len in let f = c.put_lists.auto.lists in omega arith) in
    let items = with_items_is c.self.inside.lists c.put_lists.new.lists long in
    let rows =
    ap (map (λ (l : Lists). l.active.entries)) items
    ∙ (c.put_lists.ensures.rows
    ∙ (ap (λ ls. slice_set (map (λ (l : Lists). l.active.entries) ls) c.args.number (rows_after (slice_index_or (map (λ (l : Lists). l.active.entries) ls) c.args.number []) c.args.staged)) c.as_mut_slice.ensures.value
    ∙ ap (λ rs. slice_set rs c.args.number (rows_after (slice_index_or rs c.args.number []) c.args.staged)) (ap (λ (h : OpenMatches). h.rows) v)))
    in
    λ i. record { table = (v i).table; nodes = (v i).nodes; keys = (v i).keys; rows = rows i }

pub invariant_of-self : goal.invariant_of-self
invariant_of-self c =
    let long : length c.put_lists.new.lists ≡ c.self.inside.lists.len = (let e = c.as_mut_slice.ensures.len in let f = c.put_lists.auto.lists in omega arith) in
    let items = with_items_is c.self.inside.lists c.put_lists.new.lists long in
    let same : length c.put_lists.new.lists ≡ length c.self.inside.lists.items = c.put_lists.auto.lists ∙ ap length c.as_mut_slice.ensures.value in (
      c.self.invariant.0 ∙ sym (ap length items ∙ same),
      subst (All (MayBeDormant c.self.inside.lazy_dfa c.self.inside.no_op_sets.items)) (sym items) (c.put_lists.ensures.is_dormant c.self.inside.lazy_dfa c.self.inside.no_op_sets.items (subst (AreDormantStates c.self.inside.lazy_dfa) (sym c.as_slice.ensures.value) c.self.invariant.3) (subst (All (MayBeDormant c.self.inside.lazy_dfa c.self.inside.no_op_sets.items)) (sym c.as_mut_slice.ensures.value) c.self.invariant.1)),
      c.put_lists.ensures.active_keys ∙ sym (ap active_keys_in items),
      c.self.invariant.3,
    )
