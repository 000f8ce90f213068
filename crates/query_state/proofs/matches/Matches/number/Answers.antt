use Rattle.std.proofs.Common.{◌≡◌, ◌∙◌, suc, ◌++◌, ◌∷◌, [], All, take, sym, ap, subst, inl, inr, length, arith}
use Rattle.std.specs.Prelude.{if◌then◌else◌}
use Rattle.std.proofs.lemmas.List.Elements.{All-push, All-take}
use Rattle.std.proofs.lemmas.Grind.{common_steps}
use Rattle.query_standing.proofs.QueryStates.{length_more}
use Rattle.query_state.specs.Matches.{MayBeDormant, active_keys_in}
use Rattle.query_state.proofs.Dormant.{active_keys_push, popped}
use Rattle.query_state.proofs.matches.Matches.number.Goals as goal

pub invariant_of-self-in-Ok : goal.invariant_of-self-in-Ok
invariant_of-self-in-Ok c =
    let pushed : c.push.new.self.items ≡ c.self.inside.lists.items ++ c.none.result ∷ [] = c.in_ok-push.ensures.items in (
      elim c.in-Ok.ensures.added [
        | inl h ↦ absurd (c.in_default.ensures h.0)
        | inr h ↦
            let keys = ap length h.1 in
            let lists = ap length pushed in
            let before = c.self.invariant.0 in
            let one = length_more c.self.inside.keys c.args.key.now in
            let two = length_more c.self.inside.lists.items c.none.result in
            omega arith
      ],
      subst (All (MayBeDormant c.self.inside.lazy_dfa c.self.inside.no_op_sets.items)) (sym pushed) (All-push (MayBeDormant c.self.inside.lazy_dfa c.self.inside.no_op_sets.items) c.self.inside.lists.items c.none.result c.self.invariant.1 (c.none.ensures.is_dormant c.self.inside.lazy_dfa c.self.inside.no_op_sets.items)),
      c.self.invariant.2 ∙ sym (ap active_keys_in pushed ∙ (active_keys_push c.self.inside.lists.items c.none.result ∙ ap (λ b. if b then active_keys_in c.self.inside.lists.items else suc (active_keys_in c.self.inside.lists.items)) c.none.ensures.known)),
      c.self.invariant.3,
    )

pub invariant_of-self-in-Err : goal.invariant_of-self-in-Err
invariant_of-self-in-Err c =
    let pushed : c.push.new.self.items ≡ c.self.inside.lists.items ++ c.none.result ∷ [] = c.in_ok-push.ensures.items in
    let all = subst (All (MayBeDormant c.self.inside.lazy_dfa c.self.inside.no_op_sets.items)) (sym pushed) (All-push (MayBeDormant c.self.inside.lazy_dfa c.self.inside.no_op_sets.items) c.self.inside.lists.items c.none.result c.self.invariant.1 (c.none.ensures.is_dormant c.self.inside.lazy_dfa c.self.inside.no_op_sets.items)) in
    let long : length c.number.new.self ≡ length c.pop-none.new.self.items = grind (arith, common_steps) in
    let back : length c.pop-none.new.self.items ≡ length c.self.inside.lists.items = grind (arith, common_steps) in (
      long,
      subst (All (MayBeDormant c.self.inside.lazy_dfa c.self.inside.no_op_sets.items)) (sym c.pop-none.ensures.rest) (All-take (MayBeDormant c.self.inside.lazy_dfa c.self.inside.no_op_sets.items) _ c.push.new.self.items all),
      c.self.invariant.2 ∙ sym (ap active_keys_in (c.pop-none.ensures.rest ∙ (ap (take _) pushed ∙ popped c.self.inside.lists.items c.none.result _ (sym (ap length (c.pop-none.ensures.rest ∙ ap (take _) pushed)) ∙ back)))),
      c.self.invariant.3,
    )
