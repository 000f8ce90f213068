-- The positions come last, and the span is theirs.
use Rattle.std.proofs.Common.{arith}
use Rattle.answer_text.proofs.Spans.{pushed}
use Rattle.answer_text.proofs.answers.Answers.push.Goals as goal

pub returns : goal.returns
returns c =
    pushed c.self.inside.positions.items c.args.falling.now c.extend_from_slice.new.self.items c.self.inside.spans.items c.push.new.self.items c.args.self.now c.args.start c.len-from.result c.len-to.result
    c.in_ok-extend_from_slice.ensures.items c.in_ok-push.ensures.items (let ok = c.self.inside.positions.ok.0 in let e = c.len-from.ensures in omega arith) (let ok = c.extend_from_slice.new.self.ok.0 in let e = c.len-to.ensures in omega arith) c.self.invariant c.self.view_is
