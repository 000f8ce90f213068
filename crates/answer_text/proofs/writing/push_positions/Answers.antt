-- A position more, from the end of the list.
use Rattle.std.proofs.Common.{reverse, drop, arith}
use Rattle.std.proofs.lemmas.Result.{err_from_is_err_and}
use Rattle.answer_text.specs.Output.{positions_text}
use Rattle.answer_text.proofs.PositionsText.{listed_from_the_end, still_starts}
use Rattle.answer_text.proofs.writing.push_positions.Goals as goal

pub loop-k-preserved : goal.loop-k-preserved
loop-k-preserved c =
    listed_from_the_end c.args.text.now.items c.loop-k.text.items c.push_listed.new.text.items c.args.falling.now c.loop-k.k
    (omega arith) (omega arith) c.loop-k.invariant c.in_ok-push_listed.ensures.first c.in_ok-push_listed.ensures.later

pub returns-in_err-push_listed-clause-kept : goal.returns-in_err-push_listed-clause-kept
returns-in_err-push_listed-clause-kept c =
    let p = err_from_is_err_and c.from_residual.result c.from_residual.ensures.1 in
    rw p.1 (still_starts c.args.text.now.items c.loop-k.text.items c.push_listed.new.text.items
    (positions_text (reverse (drop c.loop-k.k c.args.falling.now))) c.loop-k.invariant c.in_err-push_listed.ensures.kept)
