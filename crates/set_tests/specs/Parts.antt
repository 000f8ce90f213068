-- Sets that are written down part by part: the tree of each part, and a test that each can be made.
use Rattle.std.specs.Prelude.{ℕ, ◌<◌, ◌==◌, pos, int_le, nat_lt, nat_le, not, ◌&&◌, Bool, true, List, [], ◌∷◌, ◌++◌, length, get_or, map, Contains, All}
use Rattle.std.specs.Str.{bytes_eq}
use Rattle.cer_base.specs.declared.node.Stamp.{Stamp}
use Rattle.cer_base.specs.declared.node.Node.{Node}
use Rattle.cer_base.specs.declared.node.Node.TheVariants.{Bottom}
use Rattle.cer_base.specs.Members.{Member, SetTree, Start, Extended, United, members, newest, depth}
use Rattle.cer_base.specs.Nodes.{tree, WellFormed}
use Rattle.tecs_nodes.specs.Unite.{united}
use Rattle.set_tests.specs.declared.part.BuildStep.{BuildStep}
use Rattle.set_tests.specs.declared.part.BuildStep.TheVariants as kind_of_part

-- the tree at a place, and some leaf past the last
abbrev pub at : List SetTree → ℕ → SetTree
at trees k = get_or trees k (Start (record { pos = 0; clock = pos 0 }))

-- the tree of a part that is made of earlier ones
abbrev pub made : List SetTree → BuildStep → SetTree
made trees (kind_of_part.Start p clock) = Start (record { pos = p; clock = clock })
made trees (kind_of_part.Extend k p) = Extended p (at trees k)
made trees (kind_of_part.Join l r) = United (at trees l) (at trees r)
made trees (kind_of_part.Unite a b) = united (at trees a) (at trees b)

-- the trees of all parts, after those that are there
abbrev pub trees_of : List SetTree → List BuildStep → List SetTree
trees_of trees [] = trees
trees_of trees (p ∷ ps) = trees_of (trees ++ made trees p ∷ []) ps

-- each element passes the test
abbrev pub all_pass : {A : Type 0} → (A → Bool) → List A → Bool
all_pass test [] = true
all_pass test (x ∷ xs) = test x && all_pass test xs

-- where the tree is a start, it comes before the stamp, and its clock is not later
abbrev pub is_before : Stamp → SetTree → Bool
is_before t (Start s) = nat_lt s.pos t.pos && int_le s.clock t.clock
is_before t (Extended p child) = true
is_before t (United l r) = true

-- the position comes after the member
abbrev pub is_after : ℕ → Member → Bool
is_after p m = all_pass (λ q. nat_lt q p) m.positions && nat_le m.start.pos p

-- the two start at the same position and have the same positions
abbrev pub is_same : Member → Member → Bool
is_same a b = (a.start.pos == b.start.pos) && bytes_eq a.positions b.positions

-- no two of the members are the same
abbrev pub all_differ : List Member → Bool
all_differ [] = true
all_differ (m ∷ ms) = all_pass (λ other. not (is_same other m)) ms && all_differ ms

-- the tree is safe
abbrev pub is_safe : SetTree → Bool
is_safe (Start s) = true
is_safe (Extended p t) = true
is_safe (United l r) = (depth l == 0) && nat_le (depth r) 2

-- the part can be made of the trees
abbrev pub can_make : List SetTree → BuildStep → Bool
can_make trees (kind_of_part.Start p clock) = all_pass (is_before (record { pos = p; clock = clock })) trees
can_make trees (kind_of_part.Extend k p) = nat_lt k (length trees) && all_pass (is_after p) (members (at trees k))
can_make trees (kind_of_part.Join l r) = nat_lt l (length trees) && (nat_lt r (length trees) && (nat_le (newest (at trees r)).pos (newest (at trees l)).pos && (all_differ (members (at trees l) ++ members (at trees r)) && nat_le (depth (at trees l)) 2)))
can_make trees (kind_of_part.Unite a b) = nat_lt a (length trees) && (nat_lt b (length trees) && (is_safe (at trees a) && (is_safe (at trees b) && (((newest (at trees a)).pos == (newest (at trees b)).pos) && (int_le (newest (at trees a)).clock (newest (at trees b)).clock && (int_le (newest (at trees b)).clock (newest (at trees a)).clock && all_differ (members (at trees a) ++ members (at trees b))))))))

-- each part can be made of those before it
abbrev pub can_make_all : List SetTree → List BuildStep → Bool
can_make_all trees [] = true
can_make_all trees (p ∷ ps) = can_make trees p && can_make_all (trees ++ made trees p ∷ []) ps

-- the trees of some nodes
abbrev pub trees_at : List Node → List ℕ → List SetTree
trees_at nodes ids = map (tree nodes) ids

-- The store is well-formed, the ids are those of nodes, and each start in it is that of one of them.
pub record AreNodes (nodes : List Node) (ids : List ℕ) : Type 0 where
  pub well_formed : WellFormed nodes
  pub inside : All (λ id. id < length nodes) ids
  pub starts : (s : Stamp) → Contains nodes (Bottom s) → Contains (trees_at nodes ids) (Start s)
