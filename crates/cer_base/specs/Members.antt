-- Enumerable compact sets as trees: their members, and the measures that bound a walk over them.
-- Bottoms, outputs and unions, and the order of unions, are those of "CORE: a Complex Event
-- Recognition Engine" (PVLDB 2022).
use Rattle.std.specs.Prelude.{◌≡◌, ℕ, ◌+◌, ◌<◌, ◌≤◌, max, ℤ, int_le, cond, nat_le, List, [], ◌∷◌, ◌++◌, map, filter, All}
use Rattle.cer_base.specs.declared.node.Stamp.{Stamp}
use Rattle.cer_base.specs.Repeats.{HasNoRepeats}

-- A complex event without its end: where it starts, and its positions, greatest first.
pub record Member : Type 0 where
  pub start : Stamp
  pub positions : List ℕ

-- What a node and all below it unfold to: a start, a position put in front, or two sets as one.
pub data SetTree : Type 0 where
  Start : (start : Stamp) → SetTree
  Extended : (pos : ℕ) (child : SetTree) → SetTree
  United : (left right : SetTree) → SetTree

-- the member with the position put in front
abbrev pub with_position : ℕ → Member → Member
with_position pos m = record m { positions = pos ∷ m.positions }

-- the members, in the order in which a walk gives them
abbrev pub members : SetTree → List Member
members (Start s) = record { start = s; positions = [] } ∷ []
members (Extended p t) = map (with_position p) (members t)
members (United l r) = members l ++ members r

-- the greatest start among the members
abbrev pub newest : SetTree → Stamp
newest (Start s) = s
newest (Extended p t) = newest t
newest (United l r) = cond (nat_le (newest r).pos (newest l).pos) (newest l) (newest r)

-- how many places a walk takes at most, of the path and of the stack each
abbrev pub need : SetTree → ℕ
need (Start s) = 0
need (Extended p t) = need t + 1
need (United l r) = max (need l + 1) (need r)

-- how many unions stand before the first other node on the way by left children
abbrev pub depth : SetTree → ℕ
depth (Start s) = 0
depth (Extended p t) = 0
depth (United l r) = depth l + 1

-- the position is above each position of the member, and not below its start
pub record ComesAfter (pos : ℕ) (m : Member) : Type 0 where
  pub positions : All (λ p. p < pos) m.positions
  pub start : m.start.pos ≤ pos

-- The right one has no later start than the left one, no member is in both, and their union has depth at most 3.
pub record CanJoin (l r : SetTree) : Type 0 where
  pub ordered : (newest r).pos ≤ (newest l).pos
  pub distinct : HasNoRepeats (members l ++ members r)
  pub shallow : depth l ≤ 2

-- each output comes after its members, and each union is of two that can be joined
abbrev pub IsWellFormedTree : SetTree → Type 0
IsWellFormedTree (Start s) = Unit {0}
IsWellFormedTree (Extended p t) = IsWellFormedTree t × All (ComesAfter p) (members t)
IsWellFormedTree (United l r) = IsWellFormedTree l × IsWellFormedTree r × CanJoin l r

-- no union, or a union of depth 1 whose right child has depth at most 2
abbrev pub IsSafe : SetTree → Type 0
IsSafe (Start s) = Unit {0}
IsSafe (Extended p t) = Unit {0}
IsSafe (United l r) = (depth l ≡ 0) × (depth r ≤ 2)

-- the members whose start has this clock or a later one
abbrev pub recent : ℤ → List Member → List Member
recent low ms = filter (λ m. int_le low m.start.clock) ms
