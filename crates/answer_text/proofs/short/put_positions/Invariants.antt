-- The positions so far stand in front of the end, the last of them first.
use Rattle.std.proofs.Common.{◌≡◌, ◌+◌, ◌*◌, ◌≤◌, ◌++◌, length, reverse, take, drop}
use Rattle.answer_text.specs.Output.{positions_text}
use Rattle.answer_text.proofs.short.put_positions.Given as goal

abbrev pub invariant-loop-k : goal.invariant-loop-k
invariant-loop-k l = (l.at ≤ l.end) × (l.end ≤ l.at + 21 * l.k) × (length l.buf ≡ length l.fn.buf)
    × (drop l.at l.buf ≡ positions_text (reverse (take l.k l.falling)) ++ drop l.end l.fn.buf)
