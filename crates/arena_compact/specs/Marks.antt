-- Which nodes a compaction keeps, and from which clock on each is needed.
use Rattle.std.specs.Prelude.{◌≡◌, ℕ, ◌<◌, ◌≤◌, ◌++◌, ℤ, ◌≤ℤ◌, pos, int_le, true, List, [], ◌∷◌, length, map, get_or, Option, Some, None, slice_get, Contains, All}
use Rattle.std.specs.Prelude.{slice_set as set}
use Rattle.cer_base.specs.declared.node.Stamp.{Stamp}
use Rattle.cer_base.specs.declared.node.Node.{Node}
use Rattle.cer_base.specs.declared.node.Node.TheVariants.{Bottom, Output, Union}
use Rattle.cer_base.specs.Members.{newest}
use Rattle.cer_base.specs.Nodes.{tree, WellFormed}

-- The node is needed from the clock on: it is reached from the roots by no right child that is too old for it.
pub data Needs (low : ℤ) (nodes : List Node) (roots : List ℕ) : ℕ → Type 0 where
  Root : (id : ℕ) → Contains roots id → Needs low nodes roots id
  Child : (id p c k : ℕ) (m : Stamp) → slice_get nodes id ≡ Some (Output p c m k) → Needs low nodes roots id → Needs low nodes roots c
  Left : (id l r k : ℕ) (m q : Stamp) → slice_get nodes id ≡ Some (Union l r k m q) → Needs low nodes roots id → Needs low nodes roots l
  Right : (id l r k : ℕ) (m q : Stamp) → slice_get nodes id ≡ Some (Union l r k m q) → int_le low q.clock ≡ true → Needs low nodes roots id → Needs low nodes roots r

-- these nodes, each as needed from this clock on
abbrev pub needed_from : ℤ → List ℕ → List (ℕ × ℤ)
needed_from low ids = map (λ id. (id, low)) ids

-- The node is needed from the clock on by a root that is.
pub record IsNeededFrom (low : ℤ) (nodes : List Node) (roots : List (ℕ × ℤ)) (id : ℕ) : Type 0 where
  pub root : ℕ
  pub among : Contains roots (root, low)
  pub needs : Needs low nodes (root ∷ []) id

-- The table has a place for the node.
pub record IsKept (table : List (Option ℕ)) (id : ℕ) : Type 0 where
  pub place : ℕ
  pub here : get_or table id None ≡ Some place

-- the least clock from which on a kept node is needed
abbrev pub low_of : List ℤ → ℕ → ℤ
low_of lows id = get_or lows id (pos 0)

-- The node is kept from the clock on, or from an earlier one.
pub record IsKeptFrom (table : List (Option ℕ)) (lows : List ℤ) (low : ℤ) (id : ℕ) : Type 0 where
  pub kept : IsKept table id
  pub upto : low_of lows id ≤ℤ low

-- the children of the node that are needed from the clock on are kept from it on
abbrev pub KeepsChildren : ℤ → List (Option ℕ) → List ℤ → Node → Type 0
KeepsChildren low table lows (Bottom s) = Unit {0}
KeepsChildren low table lows (Output p c m k) = IsKeptFrom table lows low c
KeepsChildren low table lows (Union l r k m q) = IsKeptFrom table lows low l × (int_le low q.clock ≡ true → IsKeptFrom table lows low r)

-- From the id on, each kept node's children are kept as it is; all roots are kept; each kept node is needed from its clock on, and recent for it.
pub record AreNodeMarks (nodes : List Node) (roots : List (ℕ × ℤ)) (from : ℕ) (table : List (Option ℕ)) (lows : List ℤ) : Type 0 where
  pub closed : (id : ℕ) (n : Node) → from ≤ id → slice_get nodes id ≡ Some n → IsKept table id → KeepsChildren (low_of lows id) table lows n
  pub inside : (id : ℕ) → IsKept table id → id < length nodes
  pub recent : (id : ℕ) → IsKept table id → low_of lows id ≤ℤ (newest (tree nodes id)).clock
  pub needed : (id : ℕ) → IsKept table id → IsNeededFrom (low_of lows id) nodes roots id
  pub rooted : All (λ (r : ℕ × ℤ). IsKeptFrom table lows r.1 r.0) roots

-- The ids are in the table, as this says of its length, and there are as many clocks as places.
pub record CanKeep (Inside : ℕ → Type 0) (table : List (Option ℕ)) (lows : List ℤ) : Type 0 where
  pub inside : Inside (length table)
  pub even : length lows ≡ length table

-- The nodes are well-formed, with a place in the table and a clock for each.
pub record CanMark (nodes : List Node) (table : List (Option ℕ)) (lows : List ℤ) : Type 0 where
  pub well_formed : WellFormed nodes
  pub room : length nodes ≤ length table
  pub even : length lows ≡ length table

-- Of nodes that fit these are kept too, each from its clock on. The table and the clocks are as long as before.
pub record HaveKept (Fit : List Node → Type 0) (more : List (ℕ × ℤ)) (before : List (Option ℕ)) (lows_before : List ℤ) (now : List (Option ℕ)) (lows_now : List ℤ) : Type 0 where
  pub marks : (nodes : List Node) (roots : List (ℕ × ℤ)) → length nodes ≤ length before → Fit nodes → AreNodeMarks nodes roots (length nodes) before lows_before → AreNodeMarks nodes (roots ++ more) (length nodes) now lows_now
  pub long : (length now ≡ length before) × (length lows_now ≡ length lows_before)

-- What the nodes from an id on need is kept, where it was from a greater one on. The table and the clocks are as long as before.
pub record HaveMarked (nodes : List Node) (from to : ℕ) (before : List (Option ℕ)) (lows_before : List ℤ) (now : List (Option ℕ)) (lows_now : List ℤ) : Type 0 where
  pub marks : (roots : List (ℕ × ℤ)) → AreNodeMarks nodes roots from before lows_before → AreNodeMarks nodes roots to now lows_now
  pub long : (length now ≡ length before) × (length lows_now ≡ length lows_before)

-- What keeping a node from a clock on makes of the clocks: its own is set where it was not kept, or from a later clock on.
pub data IsLowered (table : List (Option ℕ)) (lows : List ℤ) (id : ℕ) (low : ℤ) : List ℤ → Type 0 where
  Sets : (IsKept table id → low ≤ℤ low_of lows id) → IsLowered table lows id low (set lows id low)
  Stays : IsKept table id → low_of lows id ≤ℤ low → IsLowered table lows id low lows
