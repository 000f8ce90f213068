-- A number more, or all of them.
use Rattle.std.proofs.Common.{refl, arith}
use Rattle.std.specs.Prelude.{slice_index_or}
use Rattle.query_engine.proofs.Named.{among_at}
use Rattle.core_service.proofs.Above.{none_yet, none_more, none_at_all}
use Rattle.core_service.proofs.answering.may_answer.Goals as goal

pub may_answer-requires-clause-numbered : goal.may_answer-requires-clause-numbered
may_answer-requires-clause-numbered c =
    c.answering-numbers.ensures.within (slice_index_or c.answering-numbers.result.now c.loop-number.number-index 0) (among_at c.answering-numbers.result.now c.loop-number.number-index c.loop-number-test.true)

pub loop-number-init : goal.loop-number-init
loop-number-init c = none_yet c.args.engine.now c.answering-numbers.result.now

pub loop-number-preserved : goal.loop-number-preserved
loop-number-preserved c = none_more c.args.engine.now c.answering-numbers.result.now c.loop-number.number-index c.loop-number.invariant (c.if-may_answer.ensures.none refl)

pub returns : goal.returns
returns c = λ no. none_at_all c.args.engine.now c.answering-numbers.result.now c.loop-number.number-index c.answering-numbers.ensures (omega arith) c.loop-number.invariant
