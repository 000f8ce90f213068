use Rattle.std.proofs.Common.{◌≡◌, ◌≤◌, ◌++◌, ℕ, ℤ, List, Option, length, map, take, All}
use Rattle.cer_base.specs.declared.node.Node.{Node}
use Rattle.tecs_enumerate.specs.Remaining.{CursorState, Fits}
use Rattle.arena_compact.specs.Marks.{AreNodeMarks}
use Rattle.arena_compact.specs.Roots.{cursor_roots}
use Rattle.arena_compact.proofs.cursors.keep_cursors.Given as goal

-- The nodes of the first k cursors are kept.
pub record Keeps (query : ℕ) (ws : List CursorState) (before now : List (Option ℕ)) (lows_before lows_now : List ℤ) (k : ℕ) : Type 0 where
  pub marks : (nodes : List Node) (roots : List (ℕ × ℤ)) → length nodes ≤ length before → All (λ w. w.query ≡ query → Fits w nodes) ws → AreNodeMarks nodes roots (length nodes) before lows_before → AreNodeMarks nodes (roots ++ cursor_roots query (take k ws)) (length nodes) now lows_now
  pub long : length now ≡ length before
  pub wide : length lows_now ≡ length lows_before
  pub few : k ≤ length ws

abbrev pub invariant-loop-k : goal.invariant-loop-k
invariant-loop-k g l = Keeps l.query (map g.C.HasCursor.walk l.cursors) l.fn.table l.table l.fn.lows l.lows l.k
