use Rattle.std.proofs.Common.{ℕ, List, map, nat_eq, sym, subst}
use Rattle.std.specs.List.{IsDistinct}
use Rattle.cer_base.specs.declared.node.Root.{Root}
use Rattle.event_update.proofs.Moving.{distinct_moved}
use Rattle.event_update.proofs.rows.ActiveStates.move_to.Goals as goal

pub invariant_of-self : goal.invariant_of-self
invariant_of-self c =
    let distinct = subst (λ (ns : List ℕ). IsDistinct nat_eq ns) (sym c.as_slice.ensures.states) c.as_slice.ensures.unique in
    subst (λ (rows : List (ℕ × List Root)). IsDistinct nat_eq (map (λ (r : ℕ × List Root). r.0) rows)) (sym c.write_states.ensures) (distinct_moved c.as_slice.result.now c.self.inside.rows.items distinct)
