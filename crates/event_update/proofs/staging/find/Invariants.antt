use Rattle.std.proofs.Common.{◌≡◌, ℕ, List, All, take}
use Rattle.cer_base.specs.declared.node.Root.{Root}
use Rattle.event_update.proofs.staging.find.Given as goal

-- the state stands nowhere among the first k
abbrev pub invariant-loop-k : goal.invariant-loop-k
invariant-loop-k l = All (λ (r : ℕ × List Root). (r.0 ≡ l.state) → ⊥) (take l.k l.rows.entries)
