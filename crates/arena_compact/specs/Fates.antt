-- What becomes of one node.
use Rattle.std.specs.Prelude.{◌≡◌, ℕ, ◌+◌, ◌<◌, ℤ, int_le, true, false, max, List, length, get_or, Option, Some, None, slice_get}
use Rattle.cer_base.specs.declared.node.Stamp.{Stamp}
use Rattle.cer_base.specs.declared.node.Node.{Node}
use Rattle.cer_base.specs.declared.node.Node.TheVariants.{Bottom, Output, Union}
use Rattle.cer_base.specs.Fields.{need_of}
use Rattle.arena_compact.specs.Marks.{IsKept}
use Rattle.arena_compact.specs.Moves.{MovesTo}
use Rattle.arena_compact.specs.declared.fate.Fate.{Fate}
use Rattle.arena_compact.specs.declared.fate.Fate.TheVariants.{Gone, Stands, Moves}

-- The table gives the node a place, at which a node stands whose need is below the count of nodes.
pub record HasPlace (nodes : List Node) (table : List (Option ℕ)) (id : ℕ) : Type 0 where
  pub place : ℕ
  pub gives : MovesTo table id place
  pub node : Node
  pub there : slice_get nodes place ≡ Some node
  pub small : need_of node < length nodes

-- the children that the node keeps have places
abbrev pub HavePlaces : ℤ → List Node → List (Option ℕ) → Node → Type 0
HavePlaces low nodes table (Bottom s) = Unit {0}
HavePlaces low nodes table (Output p c m k) = HasPlace nodes table c
HavePlaces low nodes table (Union l r k m q) = HasPlace nodes table l × (int_le low q.clock ≡ true → HasPlace nodes table r)

-- the need of the node at the place of another one
pub record NeedAt (nodes : List Node) (place n : ℕ) : Type 0 where
  pub node : Node
  pub there : slice_get nodes place ≡ Some node
  pub is : n ≡ need_of node

-- what becomes of a node: nothing, the place of another, or a node over its children's places
pub data IsFate (low : ℤ) (nodes : List Node) (table : List (Option ℕ)) (id : ℕ) : Fate → Type 0 where
  NotKept : get_or table id None ≡ None → IsFate low nodes table id Gone
  KeptLeft : (l r k f : ℕ) (m q : Stamp) → IsKept table id → slice_get nodes id ≡ Some (Union l r k m q) → int_le low q.clock ≡ false → MovesTo table l f → IsFate low nodes table id (Stands f)
  KeptBottom : (s : Stamp) → IsKept table id → slice_get nodes id ≡ Some (Bottom s) → IsFate low nodes table id (Moves (Bottom s))
  KeptOutput : (p c k g n : ℕ) (m : Stamp) → IsKept table id → slice_get nodes id ≡ Some (Output p c m k) → MovesTo table c g → NeedAt nodes g n → IsFate low nodes table id (Moves (Output p g m (n + 1)))
  KeptUnion : (l r k a b x y : ℕ) (m q : Stamp) → IsKept table id → slice_get nodes id ≡ Some (Union l r k m q) → int_le low q.clock ≡ true → MovesTo table l a → MovesTo table r b → NeedAt nodes a x → NeedAt nodes b y → IsFate low nodes table id (Moves (Union a b (max (x + 1) y) m q))
