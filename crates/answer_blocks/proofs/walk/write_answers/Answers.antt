-- A line more, or an error at it.
use Rattle.std.proofs.Common.{◌≡◌, ℕ, List, ◌∷◌, reverse, sym, ◌∙◌, ap}
use Rattle.std.proofs.lemmas.Result.{err_from_is_err_and}
use Rattle.cel_terms.specs.Answers.{Answer}
use Rattle.answer_blocks.specs.Wanted.{to_give}
use Rattle.answer_blocks.proofs.Counting.{one_more_given, all_given, line_stops}
use Rattle.answer_blocks.proofs.Writing.{line_written, line_failed}
use Rattle.answer_blocks.proofs.walk.write_answers.Goals as goal

-- the answer by the positions that are lent
lent_is : (start : ℕ) (path lent : List ℕ) (left later : List Answer) → lent ≡ path →
    left ≡ record { start = start; marks = reverse path } ∷ later → left ≡ record { start = start; marks = reverse lent } ∷ later
lent_is start path lent left later same is = is ∙ ap (λ (p : List ℕ). record { start = start; marks = reverse p } ∷ later) (sym same)

pub loop-start-preserved : goal.loop-start-preserved
loop-start-preserved g c = record {
  fits = c.next.ensures.fits;
  counted = c.in_ok-write_line.ensures.cause ∙ c.loop-start.invariant.counted;
  given =
      let h = c.loop-start.invariant.given in
      let left = to_give c.args.engine.now c.loop-start.pulling.left c.loop-start.pulling.cursor in
      let later = to_give c.args.engine.now c.next.new.self.left c.next.new.self.cursor in
      line_written c.args.query c.args.end (g.K.Sink.taken c.args.out.now) (g.K.Sink.taken c.loop-start.out) (g.K.Sink.taken c.write_line.new.out)
      (to_give c.args.engine.now c.args.pulling.now.left c.args.pulling.now.cursor) h.0 left later
      (record { start = c.in-Some.start; marks = reverse c.positions.result.now }) h.1
      (lent_is c.in-Some.start c.next.new.self.cursor.path c.positions.result.now left later c.positions.ensures c.in-Some.ensures.answer)
      h.2 c.in_ok-write_line.ensures.took;
  delayed =
      one_more_given c.args.steps.now c.loop-start.steps c.next.new.steps c.in-Some.start c.next.new.self.cursor.path
      (to_give c.args.engine.now c.args.pulling.now.left c.args.pulling.now.cursor)
      (to_give c.args.engine.now c.loop-start.pulling.left c.loop-start.pulling.cursor)
      (to_give c.args.engine.now c.next.new.self.left c.next.new.self.cursor) c.loop-start.invariant.delayed c.in-Some.ensures.answer c.in-Some.ensures.delay;
}

pub returns-clause-rows : goal.returns-clause-rows
returns-clause-rows g c =
    let h = c.loop-start.invariant.given in
    all_given c.args.query c.args.end (g.K.Sink.taken c.args.out.now) (g.K.Sink.taken c.loop-start.out)
    (to_give c.args.engine.now c.args.pulling.now.left c.args.pulling.now.cursor) h.0
    (to_give c.args.engine.now c.loop-start.pulling.left c.loop-start.pulling.cursor) c.args.steps.now c.loop-start.steps c.next.new.steps h.1 c.in_default.ensures.answer h.2
    c.loop-start.invariant.delayed c.in_default.ensures.delay

pub returns-in_err-write_line-clause-rows : goal.returns-in_err-write_line-clause-rows
returns-in_err-write_line-clause-rows g c =
    let p = err_from_is_err_and c.from_residual.result c.from_residual.ensures.1 in
    rw (p.1, p.2) (let h = c.loop-start.invariant.given in
    let all = to_give c.args.engine.now c.args.pulling.now.left c.args.pulling.now.cursor in
    let left = to_give c.args.engine.now c.loop-start.pulling.left c.loop-start.pulling.cursor in
    let later = to_give c.args.engine.now c.next.new.self.left c.next.new.self.cursor in
    line_stops c.args.query c.args.end (g.K.Sink.taken c.args.out.now) (g.K.Sink.taken c.loop-start.out) (g.K.Sink.taken c.write_line.new.out) all h.0 left later
    (record { start = c.in-Some.start; marks = reverse c.positions.result.now }) c.args.steps.now c.next.new.steps c.in_err-write_line.field-0.0 h.1
    (lent_is c.in-Some.start c.next.new.self.cursor.path c.positions.result.now left later c.positions.ensures c.in-Some.ensures.answer) h.2
    (one_more_given c.args.steps.now c.loop-start.steps c.next.new.steps c.in-Some.start c.next.new.self.cursor.path all left later c.loop-start.invariant.delayed c.in-Some.ensures.answer c.in-Some.ensures.delay)
    c.in_err-write_line.ensures.took)

pub returns-in_err-write_line-clause-took : goal.returns-in_err-write_line-clause-took
returns-in_err-write_line-clause-took g c =
    let p = err_from_is_err_and c.from_residual.result c.from_residual.ensures.1 in
    rw (p.1, p.2) (let h = c.loop-start.invariant.given in
    let left = to_give c.args.engine.now c.loop-start.pulling.left c.loop-start.pulling.cursor in
    let later = to_give c.args.engine.now c.next.new.self.left c.next.new.self.cursor in
    line_failed c.args.query c.args.end (g.K.Sink.taken c.args.out.now) (g.K.Sink.taken c.loop-start.out) (g.K.Sink.taken c.write_line.new.out)
    (to_give c.args.engine.now c.args.pulling.now.left c.args.pulling.now.cursor) h.0 left later
    (record { start = c.in-Some.start; marks = reverse c.positions.result.now }) c.in_err-write_line.field-0.0 h.1
    (lent_is c.in-Some.start c.next.new.self.cursor.path c.positions.result.now left later c.positions.ensures c.in-Some.ensures.answer)
    h.2 c.in_err-write_line.ensures.took)
