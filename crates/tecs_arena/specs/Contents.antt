-- What an arena holds.
use Rattle.std.specs.Prelude.{ℕ, List}
use Rattle.cer_base.specs.declared.node.Node.{Node}

-- The nodes, oldest first, and how many chunks were made for them.
pub record Contents : Type 0 where
  pub nodes : List Node
  pub chunks : ℕ
