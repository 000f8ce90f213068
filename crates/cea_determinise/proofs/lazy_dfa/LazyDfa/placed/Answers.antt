use Rattle.std.proofs.Common.{◌≡◌, ◌∙◌, sym, subst, Some}
use Rattle.std.specs.Map.{lookup}
use Rattle.cea_determinise.specs.Keys.{is_same_key, Decides-key}
use Rattle.cea_determinise.specs.declared.table.TransitionKey.{TransitionKey}
use Rattle.cea_determinise.specs.LazyDfa.{Table, IsSound}
use Rattle.cea_determinise.proofs.Growth.{found_right}
use Rattle.cea_determinise.proofs.lazy_dfa.LazyDfa.placed.Goals as goal

pub returns-then-eq : goal.returns-then-eq
returns-then-eq c =
    let t = c.args.self.now in
    let found = c.in-Some.found.now in
    let same : c.in-Some.stored.now ≡ c.args.key = (Decides-key c.in-Some.stored.now c.args.key).0 (sym c.eq.ensures ∙ c.if-eq.true) in
    let value = subst (λ (k : TransitionKey). lookup (is_same_key k) c.self.inside.transitions.entries ≡ Some found) same c.in-Some.ensures.value in
    let now = subst (λ (o : Table). lookup (is_same_key c.args.key) o.transitions ≡ Some found) c.self.view_is value in
    record { value = now; right = found_right t.cea t.states t.event_classes c.args.key t.transitions found now (subst IsSound c.self.view_is c.self.invariant.0).transitions }
