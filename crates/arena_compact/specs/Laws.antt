-- What every caller of a compaction may use of what it leaves.
use Rattle.std.specs.Prelude.{ℤ, ◌≤ℤ◌, ℕ, List}
use Rattle.cer_base.specs.declared.node.Root.{Root}
use Rattle.cer_base.specs.declared.node.Node.{Node}
use Rattle.cer_base.specs.Nodes.{WellFormed}
use Rattle.cea_determinise.specs.LazyDfa.{Table}
use Rattle.event_update.specs.Reach.{Seen}
use Rattle.event_update.specs.Stands.{Stands}
use Rattle.arena_compact.specs.Roots.{kept_rows}
use Rattle.arena_compact.specs.Compacted.{RowsCompacted}

-- Lists that stand for some events from a clock on stand for them after a compaction that uses this clock or an earlier one.
abbrev pub CompactedListsStand : Type 0
CompactedListsStand = (t : Table) (least used from : ℤ) (xs : List Seen) (old new : List Node) (rows moved : List (ℕ × List Root)) → WellFormed old → used ≤ℤ from → Stands t from xs old rows → RowsCompacted least used old new (kept_rows used rows) moved → Stands t from xs new moved
