-- What the nodes of a store mean, when a store is well-formed, and what stays as it grows.
-- The nodes are those of "CORE: a Complex Event Recognition Engine" (PVLDB 2022).
use Rattle.std.specs.Prelude.{◌≡◌, ℕ, ◌+◌, ◌<◌, ◌≤◌, ◌==◌, max, pos, ◌≤ℤ◌, cond, List, [], ◌∷◌, ◌++◌, length, reverse, Contains, Some, slice_get}
use Rattle.std.specs.List.Sorted.{IsPermutation}
use Rattle.cer_base.specs.declared.node.Stamp.{Stamp}
use Rattle.cer_base.specs.declared.node.Root.{Root}
use Rattle.cer_base.specs.declared.node.Node.{Node}
use Rattle.cer_base.specs.declared.node.Node.TheVariants.{Bottom, Output, Union}
use Rattle.cer_base.specs.Members.{SetTree, Start, Extended, United, members, newest, need, IsWellFormedTree, IsSafe}

-- the tree of a node over the trees of older nodes
abbrev pub grown : (ℕ → SetTree) → Node → SetTree
grown at (Bottom start) = Start start
grown at (Output p child m k) = Extended p (at child)
grown at (Union left right k m r) = United (at left) (at right)

-- the same, the nodes being listed newest first: a child is looked up among the older nodes
abbrev pub tree_in : List Node → ℕ → SetTree
tree_in [] id = Start (record { pos = 0; clock = pos 0 })
tree_in (node ∷ older) id = cond (id == length older) (grown (tree_in older) node) (tree_in older id)

-- the tree of the node with this id, the nodes being listed oldest first
unfoldable pub tree : List Node → ℕ → SetTree
tree nodes id = tree_in (reverse nodes) id

-- a node's fields say what its tree has, and its children are older
abbrev pub HasTrueFields : (ℕ → SetTree) → ℕ → Node → Type 0
HasTrueFields at id (Bottom start) = Unit {0}
HasTrueFields at id (Output p child m k) = (child < id) × (m ≡ newest (at child)) × (k ≡ need (at child) + 1)
HasTrueFields at id (Union left right k m r) = (left < id) × (right < id) × (m ≡ newest (United (at left) (at right))) × (r ≡ newest (at right)) × (k ≡ max (need (at left) + 1) (need (at right)))

-- among the starts, clocks do not fall as positions rise, and are equal at equal positions
abbrev pub AreInStep : List Node → Type 0
AreInStep nodes = (s t : Stamp) → Contains nodes (Bottom s) → Contains nodes (Bottom t) → s.pos ≤ t.pos → s.clock ≤ℤ t.clock

-- Every node's fields are true, every tree is well-formed, and clocks do not fall as positions rise.
pub record WellFormed (nodes : List Node) : Type 0 where
  pub true_fields : (id : ℕ) (node : Node) → slice_get nodes id ≡ Some node → HasTrueFields (tree nodes) id node
  pub well_formed_tree : (id : ℕ) → id < length nodes → IsWellFormedTree (tree nodes id)
  pub in_step : AreInStep nodes

-- the id is that of a node with this tree, so its members, greatest start, need and depth are the tree's
abbrev pub HasNode : List Node → ℕ → SetTree → Type 0
HasNode nodes id t = (id < length nodes) × (tree nodes id ≡ t)

-- The old nodes are as they were, new ones stand after them, and no start is new.
pub record Grows (old new : List Node) : Type 0 where
  pub more : List Node
  pub appended : new ≡ old ++ more
  pub well_formed : WellFormed new
  pub no_new_start : (s : Stamp) → Contains new (Bottom s) → Contains old (Bottom s)

-- The id is that of a safe node with the members of both, and with their greatest start.
pub record IsUnion (old : List Node) (a b : ℕ) (new : List Node) (id : ℕ) : Type 0 where
  pub inside : id < length new
  pub members_of_both : IsPermutation (members (tree old a) ++ members (tree old b)) (members (tree new id))
  pub safe : IsSafe (tree new id)
  pub same_max : newest (tree new id) ≡ newest (tree old a)

-- the root's id is that of a node, and its greatest start and need are the node's
pub record IsRoot (nodes : List Node) (r : Root) : Type 0 where
  pub inside : r.id < length nodes
  pub is_max : r.max ≡ newest (tree nodes r.id)
  pub is_need : r.need ≡ need (tree nodes r.id)
