use Rattle.std.proofs.Common.{◌≡◌, ℕ, true, false, subst}
use Rattle.std.specs.Prelude.{◌&&◌}
use Rattle.cer_base.specs.Bits.{has}
use Rattle.cea_determinise.specs.LazyDfa.{Table}
use Rattle.cea_determinise.proofs.Growth.{meets_tells}
use Rattle.cea_determinise.proofs.lazy_dfa.LazyDfa.work_out_accepts.Goals as goal

pub returns-in-Some : goal.returns-in-Some
returns-in-Some c =
    let r = c.meets.result in
    let fresh = c.in-Some.state_sets.now.fresh in
    let some = subst (λ (t : Table). r ≡ true → (k : ℕ) × (has fresh k && has t.cea.last k ≡ true)) c.self.view_is c.meets.ensures.some in
    let none = subst (λ (t : Table). r ≡ false → (k : ℕ) → has fresh k && has t.cea.last k ≡ false) c.self.view_is c.meets.ensures.none in
    rw (← c.in-Some.ensures.value) (meets_tells c.args.self.now.cea fresh r c.in-Some.ensures.below.fresh some none)
