use Rattle.std.proofs.Common.{map}
use Rattle.arena_compact.proofs.Readings.{CursorsMoved}
use Rattle.arena_compact.proofs.cursors.move_cursors.Given as goal

abbrev pub invariant-loop-k : goal.invariant-loop-k
invariant-loop-k g l = CursorsMoved l.query l.table (map g.C.HasCursor.walk l.fn.cursors) (map g.C.HasCursor.walk l.cursors) l.k
