-- The queries that were asked have nothing left.
use Rattle.std.proofs.Common.{[], ◌-◌, length}
use Rattle.core_service.specs.Answering.{Leaves, CanAnswer}
use Rattle.core_service.proofs.answering.PositionAnswers.draw.Given as goal

abbrev pub invariant-loop-self : goal.invariant-loop-self
invariant-loop-self g l = record {
  can : CanAnswer l.engine l.self;
  leaves : Leaves l.engine l.fn.self l.self [];
}

abbrev pub decreases-loop-self : goal.decreases-loop-self
decreases-loop-self g l = length l.engine.queries - l.self.asked
