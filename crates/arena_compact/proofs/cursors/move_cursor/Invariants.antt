use Rattle.std.proofs.Common.{◌≡◌, ◌≤◌, ℕ, List, Option, length, map}
use Rattle.tecs_enumerate.specs.Remaining.{CursorState, id_of, prefix_of}
use Rattle.arena_compact.proofs.Rests.{Turned}
use Rattle.arena_compact.proofs.cursors.move_cursor.Given as goal

-- The first k entries are moved.
pub record Turning (table : List (Option ℕ)) (old cur : CursorState) (k : ℕ) : Type 0 where
  pub turned : Turned table (map id_of old.stack) (map id_of cur.stack) k
  pub prefixes : map prefix_of cur.stack ≡ map prefix_of old.stack
  pub same : cur ≡ record old { stack = cur.stack }
  pub few : k ≤ length old.stack

abbrev pub invariant-loop-k : goal.invariant-loop-k
invariant-loop-k g l = Turning l.table (g.C.HasCursor.walk l.fn.cursor) (g.C.HasCursor.walk l.cursor) l.k
