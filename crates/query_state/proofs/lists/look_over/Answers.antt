use Rattle.std.proofs.Common.{◌≡◌, ◌∙◌, ◌<◌, ◌≤◌, suc, true, false, take, sym, ap, length, arith, add-one, rules}
use Rattle.std.specs.Prelude.{if◌then◌else◌}
use Rattle.std.proofs.lemmas.List.{take_all}
use Rattle.query_state.specs.Matches.{MayBeDormant, active_keys_in}
use Rattle.query_state.proofs.Dormant.{rows_set, taken_set, active_keys_few, active_keys_next}
use Rattle.query_state.proofs.lists.look_over.Goals.{then-not-lists-k, else-not-lists-k}
use Rattle.query_state.proofs.lists.look_over.Goals as goal

pub overflow_add-active_keys : goal.overflow_add-active_keys
overflow_add-active_keys c =
    let few = active_keys_few c.loop-k.k c.loop-k.lists in
    let count = c.loop-k.invariant.2 in
    let less = c.loop-k-test.true in
    record { fits = omega arith }

pub loop-k-preserved : goal.loop-k-preserved
loop-k-preserved c =
    let less : c.loop-k.k < length c.loop-k.lists = (let e = c.loop-k.auto.lists in let l = c.loop-k-test.true in omega arith) in (
      rows_set c.loop-k.lists c.loop-k.k c.index-lists-k.result c.look_again.new.self less c.look_again.ensures.rows ∙ c.loop-k.invariant.0,
      (λ t sets dormant_states. rw add-one (taken_set (MayBeDormant t sets) c.loop-k.lists c.loop-k.k c.look_again.new.self less (c.loop-k.invariant.1 t sets dormant_states) (c.look_again.ensures.is_dormant t sets dormant_states))),
      (
          let next = active_keys_next c.loop-k.lists c.loop-k.k c.look_again.new.self less in
          elim c.if-not-lists-k.branch [
            | then-not-lists-k w ↦
                let active_keys : c.look_again.new.self.is_dormant ≡ false = search rules in
                let more = w.active_keys-is in
                let count = c.loop-k.invariant.2 in
                rw add-one (sym (next ∙ ap (λ b. if b then active_keys_in (take c.loop-k.k c.loop-k.lists) else suc (active_keys_in (take c.loop-k.k c.loop-k.lists))) active_keys ∙ omega arith))
            | else-not-lists-k w ↦
                let is_dormant : c.look_again.new.self.is_dormant ≡ true = search rules in
                let same = w.active_keys-is in
                let count = c.loop-k.invariant.2 in
                rw add-one (sym (next ∙ ap (λ b. if b then active_keys_in (take c.loop-k.k c.loop-k.lists) else suc (active_keys_in (take c.loop-k.k c.loop-k.lists))) is_dormant ∙ omega arith))
          ]
          ),
    )

pub returns-clause-is_dormant : goal.returns-clause-is_dormant
returns-clause-is_dormant c t sets dormant_states =
    let long : length c.loop-k.lists ≤ c.loop-k.k = (let e = c.loop-k.auto.lists in let l = c.loop-k-test.false in omega arith) in
    let all = take_all c.loop-k.k c.loop-k.lists long in
    rw all at (c.loop-k.invariant.1 t sets dormant_states)
