use Rattle.std.proofs.Common.{arith, refl}
use Rattle.event_reader.proofs.LineMarks.{mark_place}
use Rattle.event_reader.proofs.fields.quote_at.Goals as goal

pub returns-then-marks-ne0-clause-within : goal.returns-then-marks-ne0-clause-within
returns-then-marks-ne0-clause-within c =
    let first = mark_place 34 refl c.args.text.now c.quotes-marks.result c.if-text-ge-NEAR.true c.quotes-marks.ensures (omega (arith, c.if-marks-ne0.true)) c.quotes-marks.type_inv in
    omega (arith, first.0)

pub returns-then-marks-ne0-clause-none : goal.returns-then-marks-ne0-clause-none
returns-then-marks-ne0-clause-none c =
    (mark_place 34 refl c.args.text.now c.quotes-marks.result c.if-text-ge-NEAR.true c.quotes-marks.ensures (omega (arith, c.if-marks-ne0.true)) c.quotes-marks.type_inv).1

pub returns-then-marks-ne0-clause-here : goal.returns-then-marks-ne0-clause-here
returns-then-marks-ne0-clause-here c = λ less.
    (mark_place 34 refl c.args.text.now c.quotes-marks.result c.if-text-ge-NEAR.true c.quotes-marks.ensures (omega (arith, c.if-marks-ne0.true)) c.quotes-marks.type_inv).2
