use Rattle.std.proofs.Common.{◌≡◌, ◌+◌, ◌≤◌, ◌++◌, ℕ, ℤ, List, Option, length, take, All}
use Rattle.cer_base.specs.declared.node.Node.{Node}
use Rattle.cer_base.specs.declared.node.Root.{Root}
use Rattle.cer_base.specs.Nodes.{IsRoot}
use Rattle.event_update.specs.Update.{entries_in}
use Rattle.arena_compact.specs.Marks.{AreNodeMarks}
use Rattle.arena_compact.specs.Roots.{row_roots}
use Rattle.arena_compact.proofs.rows.keep_rows.Given as goal

-- The nodes of the first k rows are kept.
pub record Keeps (low : ℤ) (rows : List (ℕ × List Root)) (before now : List (Option ℕ)) (lows_before lows_now : List ℤ) (k old new : ℕ) : Type 0 where
  pub marks : (nodes : List Node) (roots : List (ℕ × ℤ)) → length nodes ≤ length before → All (λ (r : ℕ × List Root). All (IsRoot nodes) r.1) rows → AreNodeMarks nodes roots (length nodes) before lows_before → AreNodeMarks nodes (roots ++ row_roots low (take k rows)) (length nodes) now lows_now
  pub long : length now ≡ length before
  pub wide : length lows_now ≡ length lows_before
  pub few : k ≤ length rows
  pub paid : new ≡ old + entries_in (take k rows)

abbrev pub invariant-loop-k : goal.invariant-loop-k
invariant-loop-k g l = Keeps l.low l.active.entries l.fn.table l.table l.fn.lows l.lows l.k l.fn.steps l.steps
