use Rattle.std.proofs.Common.{ap, sym, ◌∙◌, get_or, List, arith}
use Rattle.cel_terms.specs.Answers.{Answer}
use Rattle.cel_lists.specs.Below.{answer_of, with_new}
use Rattle.cel_lists.proofs.Places.{answers_more}
use Rattle.cel_plain.proofs.answers.answers_from.Goals as goal

pub loop-one-preserved : goal.loop-one-preserved
loop-one-preserved c =
    let of = answer_of c.args.schema.now c.args.query.now c.args.events.now c.args.positions.now c.args.end in
    c.in_ok-add_new.ensures
    ∙ (ap (with_new c.loop-one.answers.items) (c.in_ok-answer.ensures ∙ ap of c.one-item.is)
    ∙ (ap (λ (found : List Answer). with_new found (of (get_or c.args.found.now c.loop-one.one-index c.one-item.result))) c.loop-one.invariant
    ∙ sym (answers_more c.args.schema.now c.args.query.now c.args.events.now c.args.positions.now c.args.end c.args.found.now c.loop-one.one-index c.one-item.result (omega arith))))
