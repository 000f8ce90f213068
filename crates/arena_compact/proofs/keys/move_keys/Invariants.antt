use Rattle.std.proofs.Common.{◌+◌, ◌*◌, ◌≤◌, ℕ, ℤ, List, Option, map, take}
use Rattle.cer_base.specs.declared.node.Node.{Node}
use Rattle.cer_base.specs.declared.node.Root.{Root}
use Rattle.arena_compact.specs.Roots.{places}
use Rattle.arena_compact.proofs.Readings.{KeysTurned}
use Rattle.arena_compact.proofs.keys.move_keys.Given as goal

-- How far the keys are moved, and what that took.
pub record Moves (low : ℤ) (nodes : List Node) (table : List (Option ℕ)) (old cur : List (List (ℕ × List Root))) (k before now : ℕ) : Type 0 where
  pub turned : KeysTurned low nodes table old cur k
  pub paid : now ≤ before + 3 * places (take k old)
  pub counted : 3 * places (take k cur) + before ≤ now

abbrev pub invariant-loop-k : goal.invariant-loop-k
invariant-loop-k g l = Moves l.low (g.S.NodeStore.nodes l.store) l.table (map g.K.HasLists.rows l.fn.keys) (map g.K.HasLists.rows l.keys) l.k l.fn.steps l.steps
