-- What the work on one event asks, and what it has found before the rows are put in place.
use Rattle.std.specs.Prelude.{◌≡◌, ℕ, ◌+◌, ◌<◌, ◌≤◌, ◌≤ℤ◌, ℤ, Bool, List, [], ◌∷◌, ◌++◌, map, length, Result, IfOk, OnErr}
use Rattle.cer_base.specs.Bits.{room_for}
use Rattle.cer_base.specs.declared.node.Stamp.{Stamp}
use Rattle.cer_base.specs.declared.node.Root.{Root}
use Rattle.cer_base.specs.declared.node.Node.{Node}
use Rattle.cea_determinise.specs.declared.table.Successors.{Successors}
use Rattle.cea_determinise.specs.LazyDfa.{Table}
use Rattle.event_update.specs.declared.Staged.{Staged}
use Rattle.event_update.specs.declared.Staged.TheVariants.{Unchanged}
use Rattle.event_update.specs.Reach.{Seen}
use Rattle.event_update.specs.Recent.{going_on, recent_rows}
use Rattle.event_update.specs.Stands.{seen, IsLater, Stands, CanAdvance}
use Rattle.event_update.specs.Dormancy.{AreNoOp}
use Rattle.event_update.specs.Update.{TakesStart, GrowsBy, GrowsWithin, Discovers, IsAdvancedBy, IsStaged, rows_after, staged_entries, work_bound}

-- What is asked of the store, the table and the lists.
pub record CanPrepare (t : Table) (stamp : Stamp) (nodes : List Node) (rows : List (ℕ × List Root)) : Type 0 where
  pub store : TakesStart stamp nodes
  pub lists : CanAdvance t stamp nodes rows

-- The same, with the leaves of an event of the query.
pub record CanPrepareFor (t : Table) (leaves : List Bool) (stamp : Stamp) (nodes : List Node) (rows : List (ℕ × List Root)) : Type 0 where
  pub bits : length leaves ≡ room_for t.cea.size
  pub all : CanPrepare t stamp nodes rows

-- The same, where the event is of a class that the table knows.
pub record CanPrepareOn (t : Table) (n : ℕ) (stamp : Stamp) (nodes : List Node) (rows : List (ℕ × List Root)) : Type 0 where
  pub event_class : n < length t.event_classes
  pub all : CanPrepare t stamp nodes rows

-- What the table and the store get, and the steps, whether or not memory runs out.
pub record FindsWithin (old new : Table) (bits : List Bool) (stamp : Stamp) (rows : List (ℕ × List Root)) (nodes nodes_new : List Node) (before after : ℕ) : Type 0 where
  pub grows : GrowsBy stamp nodes nodes_new
  pub lazy_dfa : Discovers old (0 ∷ map (λ (r : ℕ × List Root). r.0) rows) bits new
  pub pushes : length nodes_new ≤ length nodes + work_bound (length new.states)
  pub steps : after ≤ before + work_bound (length new.states)

-- What the staged work is: the plain work on the lists that go on, after which they stand for the event too.
pub record IsPrepared (old new : Table) (bits : List Bool) (stamp : Stamp) (low : ℤ) (rows : List (ℕ × List Root)) (nodes nodes_new : List Node) (s : Staged) : Type 0 where
  pub advanced : IsAdvancedBy new bits stamp nodes (going_on low rows s) nodes_new (rows_after rows s)
  pub stands : (from : ℤ) (xs : List Seen) → low ≤ℤ from → IsLater stamp xs → Stands old from xs nodes rows → Stands new from (xs ++ seen stamp bits ∷ []) nodes_new (rows_after rows s)
  pub no_op : s ≡ Unchanged → AreNoOp new bits rows

-- The rows after the event are worked out by these successors, and each staged entry is paid for; where memory runs out, the store is as it was.
pub record WorksOut {E : Type 0} (stamp : Stamp) (low : ℤ) (rows : List (ℕ × List Root)) (to : List Successors) (old new : List Node) (before after : ℕ) (result : Result Staged E) : Type 0 where
  pub staged : IfOk result (λ s. IsStaged stamp (0 ∷ map (λ (r : ℕ × List Root). r.0) rows) to old (going_on low rows s) new (rows_after rows s))
  pub refused : OnErr result (new ≡ old)
  pub within : GrowsWithin stamp rows old new before after
  pub counted : IfOk result (λ s. staged_entries s + before ≤ after)
  pub recent : IfOk result (λ s. going_on low rows s ≡ recent_rows low rows)

-- The staged work is that of the event, and each list and each staged entry is paid for; where memory runs out, the store is as it was.
pub record Prepares {E : Type 0} (old new : Table) (bits : List Bool) (stamp : Stamp) (low : ℤ) (rows : List (ℕ × List Root)) (nodes nodes_new : List Node) (first before after : ℕ) (result : Result Staged E) : Type 0 where
  pub prepared : IfOk result (IsPrepared old new bits stamp low rows nodes nodes_new)
  pub refused : OnErr result (nodes_new ≡ nodes)
  pub counted : IfOk result (λ s. first + length rows + staged_entries s + before ≤ after)
  pub recent : IfOk result (λ s. going_on low rows s ≡ recent_rows low rows)
