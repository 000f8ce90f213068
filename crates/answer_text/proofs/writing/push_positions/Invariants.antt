-- The positions so far are written, the least first.
use Rattle.std.proofs.Common.{◌≡◌, ◌++◌, reverse, drop}
use Rattle.answer_text.specs.Output.{positions_text}
use Rattle.answer_text.proofs.writing.push_positions.Given as goal

abbrev pub invariant-loop-k : goal.invariant-loop-k
invariant-loop-k l = l.text.items ≡ l.fn.text.items ++ positions_text (reverse (drop l.k l.falling))
