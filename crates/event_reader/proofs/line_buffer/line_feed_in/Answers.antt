use Rattle.std.proofs.Common.{arith, refl}
use Rattle.event_reader.proofs.LineMarks.{none_marked, first_marked}
use Rattle.event_reader.proofs.line_buffer.line_feed_in.Goals as goal

pub line_feed_from-requires-clause-none : goal.line_feed_from-requires-clause-none
line_feed_from-requires-clause-none c = λ k low high p. omega arith

pub line_feed_from-requires-then-marks-eq0-clause-none : goal.line_feed_from-requires-then-marks-eq0-clause-none
line_feed_from-requires-then-marks-eq0-clause-none c = none_marked 10 refl c.args.bytes.now c.line_feeds-marks.result c.line_feeds-marks.ensures c.if-marks-eq0.true

pub returns : goal.returns
returns c = first_marked 10 refl c.args.bytes.now c.line_feeds-marks.result c.if-bytes-lt-NEAR.false c.line_feeds-marks.ensures (omega (arith, c.if-marks-eq0.false)) c.line_feeds-marks.type_inv
