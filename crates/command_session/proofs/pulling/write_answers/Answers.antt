-- A line more, or an error at it.
use Rattle.std.proofs.Common.{◌≡◌, reverse, map, refl, ◌∙◌, ap, arith}
use Rattle.std.proofs.lemmas.Result.{err_from_is_err_and}
use Rattle.cel_terms.specs.Answers.{Answer}
use Rattle.query_engine.specs.Engine.{rest}
use Rattle.query_engine.specs.Holding.{answer_of}
use Rattle.command_session.specs.Sessions.{left_of}
use Rattle.answer_blocks.proofs.Writing.{cause_after}
use Rattle.command_session.proofs.Pulled.{gave_none, gave_more, given_end, given_all, given_some, is_next, named, named_stop}
use Rattle.command_session.proofs.pulling.write_answers.Goals as goal

pub loop-k-init : goal.loop-k-init
loop-k-init g c = record {
  fits = c.requires.fits;
  query = refl;
  counted = refl;
  gave = gave_none c.args.cursor.now.query c.args.end (g.K.Sink.taken c.args.out.now) (left_of c.args.engine.now c.args.cursor.now) c.args.steps.now;
}

pub loop-k-preserved : goal.loop-k-preserved
loop-k-preserved g c =
    let e = c.args.engine.now in
    let a : Answer = record { start = c.in-Some.start.pos; marks = reverse c.positions.result.now } in
    let same : c.query.result ≡ c.args.cursor.now.query = c.query.ensures ∙ (c.pull.ensures.query ∙ c.loop-k.invariant.query) in
    let next = is_next c.in-Some.start c.pull.new.cursor.path c.positions.result.now (rest e c.loop-k.cursor) (rest e c.pull.new.cursor) c.loop-k.steps c.pull.new.steps c.positions.ensures c.in-Some.ensures.answer c.in-Some.ensures.delay in record {
      fits = c.pull.ensures.fits;
      query = c.pull.ensures.query ∙ c.loop-k.invariant.query;
      counted = c.in_ok-write_line-in-Some.ensures.cause ∙ c.loop-k.invariant.counted;
      gave =
          gave_more c.args.cursor.now.query c.args.end (g.K.Sink.taken c.args.out.now) (g.K.Sink.taken c.loop-k.out) (g.K.Sink.taken c.write_line.new.out)
          (left_of e c.args.cursor.now) (left_of e c.loop-k.cursor) (left_of e c.pull.new.cursor) c.loop-k._k c.args.steps.now c.loop-k.steps c.pull.new.steps a
          c.loop-k.invariant.gave next.next (named c.query.result c.args.cursor.now.query c.args.end (g.K.Sink.taken c.loop-k.out) (g.K.Sink.taken c.write_line.new.out) a same c.in_ok-write_line-in-Some.ensures.took) next.within;
    }

pub returns-in_err-write_line-in-Some-clause-took : goal.returns-in_err-write_line-in-Some-clause-took
returns-in_err-write_line-in-Some-clause-took g c =
    let p = err_from_is_err_and c.from_residual.result c.from_residual.ensures.1 in
    rw (p.1, p.2) (let e = c.args.engine.now in
    let a : Answer = record { start = c.in-Some.start.pos; marks = reverse c.positions.result.now } in
    let same : c.query.result ≡ c.args.cursor.now.query = c.query.ensures ∙ (c.pull.ensures.query ∙ c.loop-k.invariant.query) in
    let next = is_next c.in-Some.start c.pull.new.cursor.path c.positions.result.now (rest e c.loop-k.cursor) (rest e c.pull.new.cursor) c.loop-k.steps c.pull.new.steps c.positions.ensures c.in-Some.ensures.answer c.in-Some.ensures.delay in
    (given_some c.args.cursor.now.query c.args.end (g.K.Sink.taken c.args.out.now) (g.K.Sink.taken c.loop-k.out) (g.K.Sink.taken c.write_line.new.out)
    (left_of e c.args.cursor.now) (left_of e c.loop-k.cursor) (left_of e c.pull.new.cursor) c.args.n c.loop-k._k c.args.steps.now c.loop-k.steps c.pull.new.steps a c.in_err-write_line-in-Some.field-0.0 (omega arith)
    c.loop-k.invariant.gave next.next (named_stop c.query.result c.args.cursor.now.query c.args.end (g.K.Sink.taken c.loop-k.out) (g.K.Sink.taken c.write_line.new.out) a c.in_err-write_line-in-Some.field-0.0 same c.in_err-write_line-in-Some.ensures.took) next.within).took)

pub returns-in_err-write_line-in-Some-clause-steps : goal.returns-in_err-write_line-in-Some-clause-steps
returns-in_err-write_line-in-Some-clause-steps g c =
    let e = c.args.engine.now in
    let a : Answer = record { start = c.in-Some.start.pos; marks = reverse c.positions.result.now } in
    let same : c.query.result ≡ c.args.cursor.now.query = c.query.ensures ∙ (c.pull.ensures.query ∙ c.loop-k.invariant.query) in
    let next = is_next c.in-Some.start c.pull.new.cursor.path c.positions.result.now (rest e c.loop-k.cursor) (rest e c.pull.new.cursor) c.loop-k.steps c.pull.new.steps c.positions.ensures c.in-Some.ensures.answer c.in-Some.ensures.delay in
    (given_some c.args.cursor.now.query c.args.end (g.K.Sink.taken c.args.out.now) (g.K.Sink.taken c.loop-k.out) (g.K.Sink.taken c.write_line.new.out)
    (left_of e c.args.cursor.now) (left_of e c.loop-k.cursor) (left_of e c.pull.new.cursor) c.args.n c.loop-k._k c.args.steps.now c.loop-k.steps c.pull.new.steps a c.in_err-write_line-in-Some.field-0.0 (omega arith)
    c.loop-k.invariant.gave next.next (named_stop c.query.result c.args.cursor.now.query c.args.end (g.K.Sink.taken c.loop-k.out) (g.K.Sink.taken c.write_line.new.out) a c.in_err-write_line-in-Some.field-0.0 same c.in_err-write_line-in-Some.ensures.took) next.within).within

pub returns-in_err-write_line-in-Some-clause-query : goal.returns-in_err-write_line-in-Some-clause-query
returns-in_err-write_line-in-Some-clause-query g c = c.pull.ensures.query ∙ c.loop-k.invariant.query

pub returns-in_err-write_line-in-Some-clause-cause : goal.returns-in_err-write_line-in-Some-clause-cause
returns-in_err-write_line-in-Some-clause-cause g c =
    let p = err_from_is_err_and c.from_residual.result c.from_residual.ensures.1 in
    rw (p.1, p.2) (cause_after (g.K.Sink.faults c.args.out.now) (g.K.Sink.faults c.loop-k.out) (g.K.Sink.faults c.write_line.new.out) c.in_err-write_line-in-Some.field-0.0 c.loop-k.invariant.counted c.in_err-write_line-in-Some.ensures.cause)

pub returns-in-None-clause-took : goal.returns-in-None-clause-took
returns-in-None-clause-took g c =
    let e = c.args.engine.now in
    (given_all c.args.cursor.now.query c.args.end (g.K.Sink.taken c.args.out.now) (g.K.Sink.taken c.loop-k.out) (left_of e c.args.cursor.now) (left_of e c.loop-k.cursor) (left_of e c.pull.new.cursor)
    c.args.n c.loop-k._k c.args.steps.now c.loop-k.steps c.pull.new.steps (omega arith) c.loop-k.invariant.gave (ap (map answer_of) c.in-None.ensures.answer) (ap (map answer_of) c.in-None.ensures.none.0) c.in-None.ensures.delay).took

pub returns-in-None-clause-left : goal.returns-in-None-clause-left
returns-in-None-clause-left g c =
    let e = c.args.engine.now in
    (given_all c.args.cursor.now.query c.args.end (g.K.Sink.taken c.args.out.now) (g.K.Sink.taken c.loop-k.out) (left_of e c.args.cursor.now) (left_of e c.loop-k.cursor) (left_of e c.pull.new.cursor)
    c.args.n c.loop-k._k c.args.steps.now c.loop-k.steps c.pull.new.steps (omega arith) c.loop-k.invariant.gave (ap (map answer_of) c.in-None.ensures.answer) (ap (map answer_of) c.in-None.ensures.none.0) c.in-None.ensures.delay).rest

pub returns-in-None-clause-steps : goal.returns-in-None-clause-steps
returns-in-None-clause-steps g c =
    let e = c.args.engine.now in
    (given_all c.args.cursor.now.query c.args.end (g.K.Sink.taken c.args.out.now) (g.K.Sink.taken c.loop-k.out) (left_of e c.args.cursor.now) (left_of e c.loop-k.cursor) (left_of e c.pull.new.cursor)
    c.args.n c.loop-k._k c.args.steps.now c.loop-k.steps c.pull.new.steps (omega arith) c.loop-k.invariant.gave (ap (map answer_of) c.in-None.ensures.answer) (ap (map answer_of) c.in-None.ensures.none.0) c.in-None.ensures.delay).within

pub returns-in-None-clause-query : goal.returns-in-None-clause-query
returns-in-None-clause-query g c = c.pull.ensures.query ∙ c.loop-k.invariant.query

pub returns-clause-took : goal.returns-clause-took
returns-clause-took g c =
    let e = c.args.engine.now in
    (given_end c.args.cursor.now.query c.args.end (g.K.Sink.taken c.args.out.now) (g.K.Sink.taken c.loop-k.out) (left_of e c.args.cursor.now) (left_of e c.loop-k.cursor)
    c.args.n c.loop-k._k c.args.steps.now c.loop-k.steps (omega arith) (omega arith) c.loop-k.invariant.gave).took

pub returns-clause-left : goal.returns-clause-left
returns-clause-left g c =
    let e = c.args.engine.now in
    (given_end c.args.cursor.now.query c.args.end (g.K.Sink.taken c.args.out.now) (g.K.Sink.taken c.loop-k.out) (left_of e c.args.cursor.now) (left_of e c.loop-k.cursor)
    c.args.n c.loop-k._k c.args.steps.now c.loop-k.steps (omega arith) (omega arith) c.loop-k.invariant.gave).rest

pub returns-clause-steps : goal.returns-clause-steps
returns-clause-steps g c =
    let e = c.args.engine.now in
    (given_end c.args.cursor.now.query c.args.end (g.K.Sink.taken c.args.out.now) (g.K.Sink.taken c.loop-k.out) (left_of e c.args.cursor.now) (left_of e c.loop-k.cursor)
    c.args.n c.loop-k._k c.args.steps.now c.loop-k.steps (omega arith) (omega arith) c.loop-k.invariant.gave).within
