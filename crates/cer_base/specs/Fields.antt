-- What the stored fields of a node say, of every kind of node.
use Rattle.std.specs.Prelude.{ℕ}
use Rattle.cer_base.specs.declared.node.Stamp.{Stamp}
use Rattle.cer_base.specs.declared.node.Node.{Node}
use Rattle.cer_base.specs.declared.node.Node.TheVariants.{Bottom, Output, Union}

-- the stored greatest start, a bottom's being its own
abbrev pub max_of : Node → Stamp
max_of (Bottom start) = start
max_of (Output p child m k) = m
max_of (Union left right k m r) = m

-- the stored need, a bottom's being 0
abbrev pub need_of : Node → ℕ
need_of (Bottom start) = 0
need_of (Output p child m k) = k
need_of (Union left right k m r) = k
