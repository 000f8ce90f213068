use Rattle.std.proofs.Common.{◌+◌, ◌*◌, ◌≤◌, ℕ, ℤ, List, Option, take}
use Rattle.cer_base.specs.declared.node.Node.{Node}
use Rattle.cer_base.specs.declared.node.Root.{Root}
use Rattle.event_update.specs.Update.{entries_in}
use Rattle.arena_compact.specs.Roots.{kept_rows}
use Rattle.arena_compact.proofs.Kept.{Keeping}
use Rattle.arena_compact.proofs.rows.move_each.Given as goal

-- How far the rows are moved, and what that took.
pub record Moves (low : ℤ) (nodes : List Node) (table : List (Option ℕ)) (old cur : List (ℕ × List Root)) (k kept before now : ℕ) : Type 0 where
  pub keeping : Keeping low nodes table old cur k kept
  pub paid : now ≤ before + 3 * entries_in (take k old)
  pub counted : 3 * entries_in (kept_rows low (take k old)) + before ≤ now

abbrev pub invariant-loop-k : goal.invariant-loop-k
invariant-loop-k g l = Moves l.low (g.S.NodeStore.nodes l.store) l.table l.fn.rows l.rows l.k l.kept l.fn.steps l.steps
