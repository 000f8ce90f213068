-- What the calls that stage lists ask of the store and the lists, and what they leave there.
use Rattle.std.specs.Prelude.{ℕ, ◌+◌, ◌*◌, ◌<◌, ◌≤◌, ◌≡◌, List, [], map, length, All, Some, slice_get, Option, IfSome, Result, OnOk}
use Rattle.cer_base.specs.declared.node.Stamp.{Stamp}
use Rattle.cer_base.specs.declared.node.Root.{Root}
use Rattle.cer_base.specs.declared.node.Node.{Node}
use Rattle.cer_base.specs.Members.{Member, ComesAfter, depth, members}
use Rattle.cer_base.specs.Nodes.{tree, WellFormed, HasNode, Grows}
use Rattle.cea_determinise.specs.declared.table.Successors.{Successors}
use Rattle.union_lists.specs.Lists.{top, trees, members_of, merged_of, IsUnionList, CanInsert}
use Rattle.event_update.specs.Stands.{tops_rows}
use Rattle.event_update.specs.Update.{CanPass, CanPlace, CanBuild, TakesStart, AreMoves, AreUpto, GrowsBy, entries_in}

-- The list at the place can take in the node.
pub record CanAdd (nodes : List Node) (rows : List (ℕ × List Root)) (k id : ℕ) : Type 0 where
  pub well_formed : WellFormed nodes
  pub place : k < length rows
  pub can : (l : List Root) → slice_get (map (λ (r : ℕ × List Root). r.1) rows) k ≡ Some l → CanInsert nodes l id

-- The node, which is no union, can go to any state.
pub record CanPut (nodes : List Node) (rows : List (ℕ × List Root)) (id : ℕ) : Type 0 where
  pub well_formed : WellFormed nodes
  pub inside : id < length nodes
  pub flat : depth (tree nodes id) ≡ 0
  pub can : CanPlace nodes rows (members (tree nodes id)) (top (tree nodes id))

-- The list can be merged to one node, or this one is that node.
pub record CanMerge (nodes : List Node) (list : List Root) (node : Option ℕ) : Type 0 where
  pub well_formed : WellFormed nodes
  pub is : IsUnionList nodes list
  pub made : IfSome node (λ id. HasNode nodes id (merged_of (trees nodes list)))

-- The list can go to any state, with these members, and all of its own come before the event.
pub record CanMark (stamp : Stamp) (nodes : List Node) (rows : List (ℕ × List Root)) (list : List Root) (x : List Member) : Type 0 where
  pub pass : CanPass nodes rows list x
  pub after : All (ComesAfter stamp.pos) (members_of nodes list)

-- Nothing is staged yet, and the store takes the start.
pub record CanBegin (stamp : Stamp) (nodes : List Node) (rows : List (ℕ × List Root)) : Type 0 where
  pub store : TakesStart stamp nodes
  pub empty : rows ≡ []

-- The rows after the event can be built, by these successors.
pub record CanStage (stamp : Stamp) (nodes : List Node) (rows : List (ℕ × List Root)) (to : List Successors) : Type 0 where
  pub lists : CanBuild stamp nodes rows
  pub moves : AreMoves rows to

-- The store gets so many nodes at most, and each entry that the staged lists get is paid for.
pub record PlacesWithin {X E : Type 0} (most : ℕ) (old new : List Node) (rows rows_new : List (ℕ × List Root)) (before after : ℕ) (result : Result X E) : Type 0 where
  pub grows : Grows old new
  pub pushes : length new ≤ length old + most
  pub counted : OnOk result (entries_in rows_new + before ≤ entries_in rows + after)

-- The same of one node for one list, which takes no more steps than twice the entries of a list, and some.
pub record AddsWithin {X E : Type 0} (old new : List Node) (rows rows_new : List (ℕ × List Root)) (before after : ℕ) (result : Result X E) : Type 0 where
  pub places : PlacesWithin 3 old new rows rows_new before after result
  pub steps : (x : ℕ) → AreUpto x (tops_rows rows) → after ≤ before + 2 * x + 11

-- A new match gives the store so many nodes at most, in so many steps.
pub record StartsWithin (stamp : Stamp) (old new : List Node) (most : ℕ) (before after bound : ℕ) : Type 0 where
  pub grows : GrowsBy stamp old new
  pub pushes : length new ≤ length old + most
  pub steps : after ≤ before + bound
