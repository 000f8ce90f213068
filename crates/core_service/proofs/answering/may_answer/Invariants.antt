-- The queries of the numbers so far have no answer.
use Rattle.core_service.proofs.Above.{NoneOf}
use Rattle.core_service.proofs.answering.may_answer.Given as goal

abbrev pub invariant-loop-number : goal.invariant-loop-number
invariant-loop-number l = NoneOf l.engine l.numbers l.number-index
