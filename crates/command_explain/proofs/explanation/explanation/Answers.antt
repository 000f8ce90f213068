use Rattle.std.proofs.Common.{ℕ, List, sym, subst}
use Rattle.std.proofs.lemmas.Result.{IfOk-weaker}
use Rattle.command_explain.specs.Explanations.{AreMarksOf}
use Rattle.command_explain.proofs.explanation.explanation.Goals as goal

pub returns : goal.returns
returns c =
    let given = subst (λ (ps : List ℕ). AreMarksOf ps c.in_ok-marks.marks.items) c.as_slice.ensures c.in_ok-marks.ensures in
    let are = subst (λ (ms : List ℕ). AreMarksOf c.args.question.now.positions ms) (sym c.as_slice-2.ensures.value) given in
    IfOk-weaker c.telling.result _ _ (λ text tells. record { marks = c.as_slice-2.result.now; are = are; tells = tells }) c.telling.ensures
