-- The first number above, or none.
use Rattle.std.proofs.Common.{ℕ, ap, refl, subst, length, arith}
use Rattle.std.specs.Prelude.{slice_index_or}
use Rattle.core_service.specs.Answering.{AnswersState, HaveNoAnswer, IsNextQuery}
use Rattle.core_service.proofs.Above.{next_at, none_at}
use Rattle.core_service.proofs.answering.PositionAnswers.next_query.Goals as goal

pub returns-then-place-numbers-clause-next : goal.returns-then-place-numbers-clause-next
returns-then-place-numbers-clause-next c =
    let engine = c.args.engine.now in
    let numbers = c.answering-numbers.result.now in
    let place = c.place_above-place.result in
    let number = slice_index_or numbers place 0 in
    subst (λ (n : ℕ). IsNextQuery engine n number) (ap (λ (a : AnswersState). a.asked) c.self.view_is)
    (next_at engine numbers c.answering-numbers.ensures c.self.inside.asked place c.place_above-place.ensures.below number c.if-place-numbers.true refl (c.place_above-place.ensures.above c.if-place-numbers.true))

pub returns-clause-none : goal.returns-clause-none
returns-clause-none c =
    let engine = c.args.engine.now in
    let numbers = c.answering-numbers.result.now in
    let place = c.place_above-place.result in
    subst (λ (n : ℕ). HaveNoAnswer engine n (length engine.queries)) (ap (λ (a : AnswersState). a.asked) c.self.view_is)
    (none_at engine numbers c.answering-numbers.ensures c.self.inside.asked place c.place_above-place.ensures.below (omega arith))
