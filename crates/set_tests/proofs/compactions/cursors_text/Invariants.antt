use Rattle.std.proofs.Common.{◌≡◌, ℕ, ◌≤◌, get_or}
use Rattle.tecs_enumerate.specs.Remaining.{CursorState}
use Rattle.set_tests.proofs.compactions.cursors_text.Given as goal

-- the cursors from the one at hand on are as they were
abbrev pub invariant-loop-k : goal.invariant-loop-k
invariant-loop-k g l = (j : ℕ) (d : CursorState) → l.k ≤ j → get_or l.cursors j d ≡ get_or l.fn.cursors j d
