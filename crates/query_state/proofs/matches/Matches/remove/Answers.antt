use Rattle.std.proofs.Common.{◌≡◌, ◌∙◌, All, sym, ap, subst, length, arith}
use Rattle.std.specs.Vec.{with_items}
use Rattle.std.proofs.lemmas.List.{with_items_is}
use Rattle.query_standing.specs.Giving.{AreRemoved}
use Rattle.query_state.specs.Dropping.{rows_of, HaveLists}
use Rattle.query_state.specs.Matches.{OpenMatches, MayBeDormant, active_keys_in, AreDormantStates}
use Rattle.query_state.proofs.Removed.{given_told}
use Rattle.query_state.proofs.matches.Matches.remove.Goals as goal

pub invariant_of-self : goal.invariant_of-self
invariant_of-self c =
    let long : length c.look_over-self-inside.new.lists ≡ c.remove_all-now.new.lists.len = (let a = c.as_mut_slice.ensures.len in let d = c.look_over-self-inside.auto.lists in omega arith) in
    let items = with_items_is c.remove_all-now.new.lists c.look_over-self-inside.new.lists long in
    let same : length c.look_over-self-inside.new.lists ≡ length c.remove_all-now.new.lists.items = c.look_over-self-inside.auto.lists ∙ ap length c.as_mut_slice.ensures.value in (
      c.remove_all-now.ensures.removed.count ∙ sym (ap length items ∙ same),
      subst (All (MayBeDormant c.self.inside.lazy_dfa c.self.inside.no_op_sets.items)) (sym items) (c.look_over-self-inside.ensures.is_dormant c.self.inside.lazy_dfa c.self.inside.no_op_sets.items (subst (AreDormantStates c.self.inside.lazy_dfa) (sym c.as_slice.ensures.value) c.self.invariant.3)),
      c.look_over-self-inside.ensures.active_keys ∙ sym (ap active_keys_in items),
      c.self.invariant.3,
    )

pub returns-clause-given : goal.returns-clause-given
returns-clause-given c =
    let long : length c.look_over-self-inside.new.lists ≡ c.remove_all-now.new.lists.len = (let a = c.as_mut_slice.ensures.len in let d = c.look_over-self-inside.auto.lists in omega arith) in
    let items = with_items_is c.remove_all-now.new.lists c.look_over-self-inside.new.lists long in
    let rows = ap rows_of items ∙ (c.look_over-self-inside.ensures.rows ∙ ap rows_of c.as_mut_slice.ensures.value) in
    let given = given_told c.self.inside.keys c.remove_all-now.new.keys (rows_of c.self.inside.lists.items) (rows_of c.remove_all-now.new.lists.items) c.args.told c.key_to_stay-stays.result c.remove_all-now.result c.number_of.result c.key_to_stay-stays.ensures c.number_of.ensures.none c.number_of.ensures.some c.remove_all-now.ensures.removed.given in
    let raw = (with_items c.remove_all-now.new.lists c.look_over-self-inside.new.lists).items in
    subst (λ (h : OpenMatches). AreRemoved h.keys h.rows c.args.told c.remove_all-now.new.keys (rows_of raw) c.number_of.result) c.self.view_is (subst (λ rs. AreRemoved c.self.inside.keys (rows_of c.self.inside.lists.items) c.args.told c.remove_all-now.new.keys rs c.number_of.result) (sym rows) given)

pub returns-clause-have : goal.returns-clause-have
returns-clause-have c =
    let long : length c.look_over-self-inside.new.lists ≡ c.remove_all-now.new.lists.len = (let a = c.as_mut_slice.ensures.len in let d = c.look_over-self-inside.auto.lists in omega arith) in
    let items = with_items_is c.remove_all-now.new.lists c.look_over-self-inside.new.lists long in
    let rows = ap rows_of items ∙ (c.look_over-self-inside.ensures.rows ∙ ap rows_of c.as_mut_slice.ensures.value) in
    record { number = c.remove_all-now.result; others = subst (λ rs. HaveLists 0 rs c.remove_all-now.result) (sym rows) c.remove_all-now.ensures.kept }
