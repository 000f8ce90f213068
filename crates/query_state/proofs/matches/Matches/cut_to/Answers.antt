use Rattle.std.proofs.Common.{◌≡◌, ◌∙◌, All, sym, ap, subst, length, map, arith}
use Rattle.std.proofs.lemmas.List.{with_items_is}
use Rattle.query_state.specs.declared.lists.Lists.{Lists}
use Rattle.query_state.specs.Matches.{MayBeDormant, active_keys_in, AreDormantStates, cut}
use Rattle.query_state.proofs.Cuts.{rows_cut}
use Rattle.query_state.proofs.Dormant.{take_same, none_still}
use Rattle.query_state.proofs.matches.Matches.cut_to.Goals as goal

pub invariant_of-self : goal.invariant_of-self
invariant_of-self c =
    let long : length c.look_over-self-inside.new.lists ≡ c.truncate.new.self.len = (let e = c.as_mut_slice.ensures.len in let f = c.look_over-self-inside.auto.lists in omega arith) in
    let items = with_items_is c.truncate.new.self c.look_over-self-inside.new.lists long in
    let same : length c.look_over-self-inside.new.lists ≡ length c.truncate.new.self.items = c.look_over-self-inside.auto.lists ∙ ap length c.as_mut_slice.ensures.value in (
      ap length c.cut_to-2.ensures ∙ (take_same c.args.sizes.keys c.self.inside.keys c.self.inside.lists.items c.self.invariant.0 ∙ (sym (ap length c.truncate.ensures.items) ∙ (sym same ∙ sym (ap length items)))),
      subst (All (MayBeDormant c.back.new.self c.self.inside.no_op_sets.items)) (sym items) (c.look_over-self-inside.ensures.is_dormant c.back.new.self c.self.inside.no_op_sets.items (subst (AreDormantStates c.back.new.self) (sym (c.as_slice.ensures.value ∙ c.clear.ensures.items)) (none_still c.back.new.self))),
      c.look_over-self-inside.ensures.active_keys ∙ sym (ap active_keys_in items),
      subst (AreDormantStates c.back.new.self) (sym c.clear.ensures.items) (none_still c.back.new.self),
    )

pub returns : goal.returns
returns c =
    let long : length c.look_over-self-inside.new.lists ≡ c.truncate.new.self.len = (let e = c.as_mut_slice.ensures.len in let f = c.look_over-self-inside.auto.lists in omega arith) in
    let items = with_items_is c.truncate.new.self c.look_over-self-inside.new.lists long in
    let rows =
    ap (map (λ (l : Lists). l.active.entries)) items
    ∙ (c.look_over-self-inside.ensures.rows ∙ (ap (map (λ (l : Lists). l.active.entries)) c.as_mut_slice.ensures.value ∙ rows_cut (λ (l : Lists). l.active.entries) c.args.sizes.keys c.self.inside.lists.items c.truncate.new.self.items c.truncate.ensures.items))
    in
    (λ i. record { table = c.back.ensures i; nodes = c.cut_to.ensures.nodes i; keys = c.cut_to-2.ensures i; rows = rows i }) ∙ ap (cut c.args.sizes) c.self.view_is
