use Rattle.std.proofs.Common.{◌≡◌, ◌∙◌, rules, ℤ, inl, inr, sym, subst, IfSome}
use Rattle.std.specs.Prelude.{◌≤ℤ◌}
use Rattle.std.specs.Int.{w128}
use mir.Val.{SFits}
use Rattle.std.proofs.lemmas.Int.{to_z-of_z}
use Rattle.query_engine.proofs.times.Group.test.Goals as goal

pub returns-then-self-clause-in_time : goal.returns-then-self-clause-in_time
returns-then-self-clause-in_time c = inl c.if-self.true

pub returns-in-Ok-clause-in_time : goal.returns-in-Ok-clause-in_time
returns-in-Ok-clause-in_time c = inr (λ now is. (
    let same : c.in-Ok.field-0 ≡ now = (let both = sym c.in-Ok.ensures.clock ∙ is in cc) in
    subst (λ (n : ℤ). IfSome c.args.self.now.clock.last (λ before. before ≤ℤ n)) same c.in-Ok.ensures.in_time
    ))

pub returns-in-Err-clause-falls : goal.returns-in-Err-clause-falls
returns-in-Err-clause-falls c =
    let before : SFits w128 c.in-Err.back.before = search rules in
    let now : SFits w128 c.in-Err.back.now = search rules in
    simp to_z-of_z c.in-Err.ensures.back
