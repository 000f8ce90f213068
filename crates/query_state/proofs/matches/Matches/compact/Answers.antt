use Rattle.std.proofs.Common.{◌≡◌, ◌∙◌, All, List, sym, ap, subst, length, map, arith}
use Rattle.std.specs.Int.{w128}
use Rattle.std.proofs.lemmas.Int.{to_z-of_z}
use Rattle.std.proofs.lemmas.List.{with_items_is}
use Rattle.std.proofs.lemmas.List.Elements.{All-map, All-weaker}
use Rattle.cer_base.specs.declared.node.Node.{Node}
use Rattle.query_standing.specs.Kept.{Rows}
use Rattle.arena_compact.specs.Compacted.{Compacted}
use Rattle.query_state.specs.declared.lists.Lists.{Lists}
use Rattle.query_state.specs.Matches.{OpenMatches, HasStatesOnce, MayBeDormant, active_keys_in, AreDormantStates}
use Rattle.query_state.proofs.matches.Matches.compact.Goals as goal

pub invariant_of-self : goal.invariant_of-self
invariant_of-self g c =
    let long : length c.look_over-self-inside.new.lists ≡ c.self.inside.lists.len = (let a = c.as_mut_slice-lists.ensures.len in let b = c.compact.auto.keys in let d = c.look_over-self-inside.auto.lists in omega arith) in
    let items = with_items_is c.self.inside.lists c.look_over-self-inside.new.lists long in
    let same : length c.look_over-self-inside.new.lists ≡ length c.self.inside.lists.items = c.look_over-self-inside.auto.lists ∙ (c.compact.auto.keys ∙ ap length c.as_mut_slice-lists.ensures.value) in (
      c.self.invariant.0 ∙ sym (ap length items ∙ same),
      subst (All (MayBeDormant c.self.inside.lazy_dfa c.self.inside.no_op_sets.items)) (sym items) (c.look_over-self-inside.ensures.is_dormant c.self.inside.lazy_dfa c.self.inside.no_op_sets.items (subst (AreDormantStates c.self.inside.lazy_dfa) (sym c.as_slice.ensures.value) c.self.invariant.3)),
      c.look_over-self-inside.ensures.active_keys ∙ sym (ap active_keys_in items),
      c.self.invariant.3,
    )

pub returns-clause-nodes : goal.returns-clause-nodes
returns-clause-nodes g c =
    let long : length c.look_over-self-inside.new.lists ≡ c.self.inside.lists.len = (let a = c.as_mut_slice-lists.ensures.len in let b = c.compact.auto.keys in let d = c.look_over-self-inside.auto.lists in omega arith) in
    let items = with_items_is c.self.inside.lists c.look_over-self-inside.new.lists long in
    let rows = ap (map (λ (l : Lists). l.active.entries)) items ∙ c.look_over-self-inside.ensures.rows in
    let vs = map g.C.HasCursor.walk c.compact.new.cursors in
    let left = rw (to_z-of_z w128 c.args.low c.ranges.low) at c.compact.ensures.nodes in
    subst (λ (rs : List Rows). Compacted c.args.query c.args.low c.args.self.now.nodes c.compact.new.store.nodes rs vs) (sym rows)
    (subst (λ (ns : List Node). Compacted c.args.query c.args.low ns c.compact.new.store.nodes (map (λ (l : Lists). l.active.entries) c.compact.new.keys) vs) (ap (λ (h : OpenMatches). h.nodes) c.self.view_is) left)

pub returns-clause-once : goal.returns-clause-once
returns-clause-once g c =
    subst (λ (h : OpenMatches). All HasStatesOnce h.rows) c.self.view_is (All-map HasStatesOnce (λ (l : Lists). l.active.entries) c.self.inside.lists.items
    (All-weaker (MayBeDormant c.self.inside.lazy_dfa c.self.inside.no_op_sets.items) (λ (l : Lists). HasStatesOnce l.active.entries) (λ l may. may.once) c.self.inside.lists.items c.self.invariant.1))
