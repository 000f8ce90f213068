-- The nodes as they are moved, oldest first.
use Rattle.std.specs.Prelude.{◌≡◌, ℕ, ◌<◌, ◌≤◌, ℤ, nat_le, int_le, true, false, List, length, take, get_or, Option, Some, None, slice_get, Contains, count_by}
use Rattle.cer_base.specs.declared.node.Stamp.{Stamp}
use Rattle.cer_base.specs.declared.node.Node.{Node}
use Rattle.cer_base.specs.declared.node.Node.TheVariants.{Bottom, Output, Union}
use Rattle.cer_base.specs.Fields.{max_of}
use Rattle.cer_base.specs.Nodes.{tree, WellFormed}
use Rattle.arena_compact.specs.Pruned.{IsPruned}
use Rattle.arena_compact.specs.Marks.{IsKept, low_of}

-- how many nodes have a greatest start at the position or later
abbrev pub later : ℕ → List Node → ℕ
later p nodes = count_by (λ n. nat_le p (max_of n).pos) nodes

-- The table gives the place of the node's child.
pub record MovesTo (table : List (Option ℕ)) (id place : ℕ) : Type 0 where
  pub gives : get_or table id None ≡ Some place

-- What stands at the place that the table gives a node: the same kind of node, over its children's places. A union whose right child is too old has its left child's place.
pub data Follows (low : ℤ) (table : List (Option ℕ)) (new : List Node) (f : ℕ) : Node → Type 0 where
  AtBottom : (s : Stamp) → slice_get new f ≡ Some (Bottom s) → Follows low table new f (Bottom s)
  AtOutput : (p c k g j : ℕ) (m : Stamp) → MovesTo table c g → slice_get new f ≡ Some (Output p g m j) → Follows low table new f (Output p c m k)
  AtUnion : (l r k a b j : ℕ) (m q : Stamp) → int_le low q.clock ≡ true → MovesTo table l a → MovesTo table r b → slice_get new f ≡ Some (Union a b j m q) → Follows low table new f (Union l r k m q)
  AtLeft : (l r k : ℕ) (m q : Stamp) → int_le low q.clock ≡ false → MovesTo table l f → Follows low table new f (Union l r k m q)

-- The nodes with ids below i are moved: the kept ones are the new nodes, each pruned from its clock on, at the places that the table gives.
pub record Moved (lows : List ℤ) (old : List Node) (marks : List (Option ℕ)) (i : ℕ) (new : List Node) (table : List (Option ℕ)) : Type 0 where
  pub few : length new ≤ i
  pub long : length table ≡ length marks
  pub well_formed : WellFormed new
  pub ahead : (id : ℕ) → i ≤ id → get_or table id None ≡ get_or marks id None
  pub kept : (id : ℕ) → id < i → IsKept marks id → IsKept table id
  pub inside : (id f : ℕ) → id < i → MovesTo table id f → f < length new
  pub trees : (id f : ℕ) → id < i → MovesTo table id f → IsPruned (low_of lows id) (tree old id) (tree new f)
  pub follows : (id f : ℕ) (n : Node) → id < i → slice_get old id ≡ Some n → MovesTo table id f → Follows (low_of lows id) table new f n
  pub onto : (j : ℕ) → j < length new → (id : ℕ) × (id < i) × IsKept marks id × MovesTo table id j
  pub no_new_start : (s : Stamp) → Contains new (Bottom s) → Contains old (Bottom s)
  pub fewer_later : (p : ℕ) → later p new ≤ later p (take i old)
