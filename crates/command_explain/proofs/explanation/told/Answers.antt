use Rattle.std.proofs.Common.{ℕ, List, ◌++◌, take, ap, ap₂, sym, ◌∙◌}
use Rattle.std.proofs.lemmas.List.{take_all}
use Rattle.answer_text.specs.Explanations.{binding_line}
use Rattle.command_explain.specs.Explanations.{told}
use Rattle.command_explain.proofs.Telling.{told_more}
use Rattle.command_explain.proofs.explanation.told.Goals as goal

pub loop-binding-preserved : goal.loop-binding-preserved
loop-binding-preserved c =
    let i = c.loop-binding.binding-index in
    let before : List ℕ = told c.args.question.now c.args.marks.now (take i c.args.bindings.now) in
    c.in_ok-push_binding.ensures ∙ ap (λ (w : List ℕ). w ++ binding_line c.as_str.result.now c.as_slice.result.now) c.loop-binding.invariant
    ∙ ap₂ (λ (name positions : List ℕ). before ++ binding_line name positions) c.as_str.ensures c.as_slice.ensures
    ∙ sym (told_more c.args.question.now c.args.marks.now c.args.bindings.now i c.binding-item.result c.loop-binding-test.true c.binding-item.is)

pub returns : goal.returns
returns c = c.loop-binding.invariant ∙ ap (told c.args.question.now c.args.marks.now) (take_all c.loop-binding.binding-index c.args.bindings.now c.loop-binding-test.false)
