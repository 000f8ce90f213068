use Rattle.std.proofs.Common.{ℕ, List, nat_eq, sym, subst}
use Rattle.std.specs.List.{IsDistinct}
use Rattle.event_update.specs.Update.{IsOther}
use Rattle.event_update.proofs.Moving.{distinct_other}
use Rattle.event_update.proofs.relabel.Apart.push.Goals as goal

pub invariant_of-self-2 : goal.invariant_of-self-2
invariant_of-self-2 c =
    let other = subst (λ (ns : List ℕ). IsOther c.args.state ns) (sym c.self.view_is) c.requires in
    subst (λ (ns : List ℕ). IsDistinct nat_eq ns) (sym c.in_ok-push.ensures.items) (distinct_other c.args.state c.self.inside.states.items c.self.invariant other)
