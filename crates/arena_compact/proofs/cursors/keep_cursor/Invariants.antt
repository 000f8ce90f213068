use Rattle.std.proofs.Common.{◌≡◌, ◌≤◌, ◌++◌, ℕ, ℤ, List, Option, length, map, take}
use Rattle.cer_base.specs.declared.node.Node.{Node}
use Rattle.tecs_enumerate.specs.Remaining.{CursorState, Fits, id_of}
use Rattle.arena_compact.specs.Marks.{AreNodeMarks, needed_from}
use Rattle.arena_compact.proofs.cursors.keep_cursor.Given as goal

-- The first k entries' nodes are kept.
pub record Keeps (w : CursorState) (before now : List (Option ℕ)) (lows_before lows_now : List ℤ) (k : ℕ) : Type 0 where
  pub marks : (nodes : List Node) (roots : List (ℕ × ℤ)) → length nodes ≤ length before → Fits w nodes → AreNodeMarks nodes roots (length nodes) before lows_before → AreNodeMarks nodes (roots ++ needed_from w.low (take k (map id_of w.stack))) (length nodes) now lows_now
  pub long : length now ≡ length before
  pub wide : length lows_now ≡ length lows_before
  pub few : k ≤ length w.stack

abbrev pub invariant-loop-k : goal.invariant-loop-k
invariant-loop-k l = Keeps l.cursor l.fn.table l.table l.fn.lows l.lows l.k
