use Rattle.std.proofs.Common.{ap, sym, ◌∙◌, ℕ, List}
use Rattle.cel_lists.specs.Lists.{matches_of}
use Rattle.cel_lists.proofs.Exact.{if_ok}
use Rattle.cel_lists.proofs.Answering.{are_answers}
use Rattle.cel_plain.proofs.answers.answers.Goals as goal

pub returns : goal.returns
returns c =
    if_ok _ _ c.answers_from.result
    (λ answers is. are_answers c.args.schema.now c.args.query.now c.args.events.now c.args.end c.as_slice-2.result.now c.as_slice-3.result.now answers.items
    (c.as_slice-2.ensures.value ∙ c.in_ok-positions.ensures)
    (c.as_slice-3.ensures.value ∙ (c.in_ok-found.ensures ∙ ap (λ (ps : List ℕ). matches_of c.args.schema.now c.args.events.now ps c.args.query.now.formula) (c.as_slice.ensures.value ∙ sym c.as_slice-2.ensures.value)))
    is)
    c.answers_from.ensures
