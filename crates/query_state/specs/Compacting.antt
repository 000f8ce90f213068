-- What a compaction makes of a query state, and of the cursors that are held over it.
use Rattle.std.specs.Prelude.{◌≡◌, ℕ, ◌<◌, ℤ, ◌≤ℤ◌, List, length, get_or, All}
use Rattle.cer_base.specs.declared.node.Root.{Root}
use Rattle.cer_base.specs.declared.node.Node.{Node}
use Rattle.tecs_enumerate.specs.Remaining.{CursorState}
use Rattle.query_standing.specs.Kept.{Rows, QueryState}
use Rattle.query_standing.specs.Giving.{AreRemoved}
use Rattle.arena_compact.specs.Compacted.{least_of, Compacted, KeysCompacted, CursorCompacted}
use Rattle.query_state.specs.Dropping.{HaveListsButOne}

-- As many cursors, in their order, those of the query with the same left.
pub record CursorsCompacted (query : ℕ) (old new : List Node) (ws vs : List CursorState) : Type 0 where
  pub count : length vs ≡ length ws
  pub each : (k : ℕ) (d : CursorState) → k < length ws → CursorCompacted query old new (get_or ws k d) (get_or vs k d)

-- each entry of each list has its greatest start at the clock or later
abbrev pub AreRecent : ℤ → List Rows → Type 0
AreRecent low rows = All (λ (lists : Rows). All (λ (r : ℕ × List Root). All (λ (e : Root). low ≤ℤ e.max.clock) r.1) lists) rows

-- The states and the clock stay. The nodes and the lists of each key are compacted, the lists from this low clock on, which all their entries have then, and each cursor of the query from its own; then the keys that have no list are removed, but for one at most.
pub record QueryStateCompacted (query : ℕ) (low : ℤ) (old new : QueryState) (ws vs : List CursorState) : Type 0 where
  pub table : new.table ≡ old.table
  pub clock : new.clock ≡ old.clock
  pub nodes : Compacted query low old.nodes new.nodes new.rows vs
  pub kept : List Rows
  pub lists : KeysCompacted (least_of query low ws) low old.nodes new.nodes old.rows kept
  pub given : AreRemoved old.keys kept old.here new.keys new.rows new.here
  pub recent : AreRecent low new.rows
  pub have : HaveListsButOne new.rows
  pub cursors : CursorsCompacted query old.nodes new.nodes ws vs
