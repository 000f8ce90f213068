use Rattle.std.proofs.Common.{refl, sym}
use Rattle.std.proofs.lemmas.Bool.{false≢true}
use Rattle.std.proofs.lemmas.Result.{IfOk-weaker}
use Rattle.command_explain.proofs.Telling.{tells_answer, tells_none}
use Rattle.command_explain.proofs.explanation.telling.Goals as goal

pub returns-in-Ok-Some : goal.returns-in-Ok-Some
returns-in-Ok-Some c =
    let explains = rw c.in-Ok-Some.field-0-is at c.in-Ok-Some.ensures.explains in
    let exactly = rw c.in-Ok-Some.field-0-is at c.in-Ok-Some.ensures.exactly in
    IfOk-weaker c.told.result _ _ (λ text is. tells_answer c.args.schema.now c.args.queries.now c.args.events.now c.args.question.now c.args.marks.now c.in-Some.query.now c.in-Ok-Some.valuation c.as_slice.result.now text.items
    (sym c.in-Some.ensures) (exactly.0 refl) explains c.as_slice.ensures is) c.told.ensures

pub returns-in-Ok-None : goal.returns-in-Ok-None
returns-in-Ok-None c =
    let exactly = rw c.in-Ok-None.field-0-is at c.in-Ok-None.ensures.exactly in
    IfOk-weaker c.none-in-Ok-None.result _ _ (λ text is. tells_none c.args.schema.now c.args.queries.now c.args.events.now c.args.question.now c.args.marks.now c.in-Some.query.now text.items
    (sym c.in-Some.ensures) (λ answer. false≢true (exactly.1 answer)) is) c.none-in-Ok-None.ensures
