-- The service is put back, and the engine is open as before.
use Rattle.std.proofs.Common.{rules, refl, ◌∙◌, ℤ, w32, to_z, of_z}
use Rattle.std.proofs.lemmas.Int.{to_z-of_z}
use Rattle.core_service.specs.Services.{ServiceState}
use Rattle.core_c.specs.Calls.{HasAnswered}
use Rattle.core_c.proofs.Outcomes.{carried}
use Rattle.core_c.proofs.answers.core_next.Goals as goal

pub returns-in-Some-clause-open : goal.returns-in-Some-clause-open
returns-in-Some-clause-open c full = (
  record { full = c.give.ensures.full; low = refl; high = refl },
  carried (λ (old new : ServiceState) (s : ℤ). HasAnswered old new s c.args.answer.now c.next_of-status.new.answer c.args.positions.now c.next_of-status.new.positions)
      c.args.engine.now.handle.service c.deref_mut.result.now c.give.new.self.service c.next_of-status.new.service c.next_of-status.result (to_z w32 (of_z w32 c.next_of-status.result))
      (c.deref_mut.ensures.value ∙ c.in-Some.ensures.service) c.give.ensures.service (to_z-of_z w32 c.next_of-status.result (search rules)) c.next_of-status.ensures,
)
