-- Lists, nodes and a table that can take the next event, all clocks being 0 and a low clock this one.
use Rattle.std.specs.Prelude.{◌≡◌, ℕ, ◌<◌, ℤ, pos, List, Contains, All}
use Rattle.cer_base.specs.declared.node.Stamp.{Stamp}
use Rattle.cer_base.specs.declared.node.Root.{Root}
use Rattle.cer_base.specs.declared.node.Node.{Node}
use Rattle.cer_base.specs.declared.node.Node.TheVariants.{Bottom}
use Rattle.cer_base.specs.Nodes.{WellFormed}
use Rattle.cea_determinise.specs.LazyDfa.{Table}
use Rattle.event_update.specs.Reach.{Seen}
use Rattle.event_update.specs.Stands.{Stands}

-- Some earlier events are there for which the lists stand, and each start is an earlier one.
pub record IsReady (low : ℤ) (t : Table) (nodes : List Node) (rows : List (ℕ × List Root)) (next : ℕ) : Type 0 where
  pub well_formed : WellFormed nodes
  pub starts : (s : Stamp) → Contains nodes (Bottom s) → (s.pos < next) × (s.clock ≡ pos 0)
  pub events : List Seen
  pub earlier : All (λ (x : Seen). x.stamp.pos < next) events
  pub stand : Stands t low events nodes rows
