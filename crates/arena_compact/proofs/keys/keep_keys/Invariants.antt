use Rattle.std.proofs.Common.{◌≡◌, ◌+◌, ◌≤◌, ◌++◌, ℕ, ℤ, List, Option, length, map, take, All}
use Rattle.cer_base.specs.declared.node.Node.{Node}
use Rattle.cer_base.specs.declared.node.Root.{Root}
use Rattle.cer_base.specs.Nodes.{IsRoot}
use Rattle.arena_compact.specs.Marks.{AreNodeMarks}
use Rattle.arena_compact.specs.Roots.{key_roots, places}
use Rattle.arena_compact.proofs.keys.keep_keys.Given as goal

-- The nodes of the first k keys are kept.
pub record Keeps (low : ℤ) (keys : List (List (ℕ × List Root))) (before now : List (Option ℕ)) (lows_before lows_now : List ℤ) (k old new : ℕ) : Type 0 where
  pub marks : (nodes : List Node) (roots : List (ℕ × ℤ)) → length nodes ≤ length before → All (λ (rows : List (ℕ × List Root)). All (λ (r : ℕ × List Root). All (IsRoot nodes) r.1) rows) keys → AreNodeMarks nodes roots (length nodes) before lows_before → AreNodeMarks nodes (roots ++ key_roots low (take k keys)) (length nodes) now lows_now
  pub long : length now ≡ length before
  pub wide : length lows_now ≡ length lows_before
  pub few : k ≤ length keys
  pub paid : new ≡ old + places (take k keys)

abbrev pub invariant-loop-k : goal.invariant-loop-k
invariant-loop-k g l = Keeps l.low (map g.K.HasLists.rows l.keys) l.fn.table l.table l.fn.lows l.lows l.k l.fn.steps l.steps
