-- How two safe trees with equal greatest starts are united.
use Rattle.std.proofs.Common.{◌≡◌, ℕ, ◌≤◌, List, ◌++◌, refl, sym, ap, subst, ◌∙◌, inl, inr, false, arith, append_assoc, IsPermutation, Result, Ok, Err, IfOk, OnOk, length, ◌<◌, Some}
use Rattle.std.specs.Prelude.{slice_get, nat_le}
use Rattle.std.proofs.lemmas.Bool.{le-leb, leb-true, cases_Bool}
use Rattle.std.proofs.lemmas.List.Sorted.{IsPermutation-refl, IsPermutation-trans, IsPermutation-append_left, IsPermutation-append_right, IsPermutation-append_comm}
use Rattle.cer_base.specs.declared.node.Stamp.{Stamp}
use Rattle.cer_base.specs.declared.node.Node.{Node}
use Rattle.cer_base.specs.Repeats.{HasNoRepeats}
use Rattle.cer_base.specs.Members.{SetTree, Start, Extended, United, members, newest, depth, CanJoin, IsWellFormedTree, IsSafe}
use Rattle.cer_base.specs.declared.node.Node.TheVariants.{Bottom, Output, Union}
use Rattle.cer_base.specs.Nodes.{tree, WellFormed, HasNode, IsUnion}
use Rattle.tecs_nodes.specs.Unite.{CanUnite, later_first, united, nodes_made}
use Rattle.cer_base.proofs.Trees.{newest-left, tree-at}
use Rattle.cer_base.proofs.Repeats.{HasNoRepeats-permutation, HasNoRepeats-back}

-- the four parts in their new order
woven : {A : Type 0} (l r m s : List A) → IsPermutation ((l ++ r) ++ (m ++ s)) (l ++ (m ++ (r ++ s)))
woven l r m s =
    let inner : IsPermutation (r ++ (m ++ s)) (m ++ (r ++ s)) = rw (← append_assoc r m s, ← append_assoc m r s) (IsPermutation-append_left s (r ++ m) (m ++ r) (IsPermutation-append_comm r m)) in
    rw (append_assoc l r (m ++ s)) (IsPermutation-append_right l (r ++ (m ++ s)) (m ++ (r ++ s)) inner)

woven_back : {A : Type 0} (l r m s : List A) → IsPermutation ((l ++ r) ++ (m ++ s)) (l ++ (m ++ (s ++ r)))
woven_back l r m s = IsPermutation-trans ((l ++ r) ++ (m ++ s)) (l ++ (m ++ (r ++ s))) (l ++ (m ++ (s ++ r))) (woven l r m s)
    (IsPermutation-append_right l (m ++ (r ++ s)) (m ++ (s ++ r)) (IsPermutation-append_right m (r ++ s) (s ++ r) (IsPermutation-append_comm r s)))

-- a chain of three unions is well-formed: the first two have the greatest start, and no member stands twice
chain_well_formed_tree : (l m r s : SetTree) → IsWellFormedTree l → IsWellFormedTree m → IsWellFormedTree r → IsWellFormedTree s → newest l ≡ newest m → (newest r).pos ≤ (newest m).pos → (newest s).pos ≤ (newest r).pos → depth l ≡ 0 → depth m ≡ 0 → depth r ≤ 2 → HasNoRepeats (members l ++ (members m ++ (members r ++ members s))) → IsWellFormedTree (United l (United m (United r s)))
chain_well_formed_tree l m r s well_formed_tree_l well_formed_tree_m well_formed_tree_r well_formed_tree_s same rm sr dl dm dr distinct =
    let two = HasNoRepeats-back (members l) (members m ++ (members r ++ members s)) distinct in
    let one = HasNoRepeats-back (members m) (members r ++ members s) two in
    let inner : newest (United r s) ≡ newest r = newest-left r s sr in
    let below : (newest (United r s)).pos ≤ (newest m).pos = rw inner rm in
    let middle : newest (United m (United r s)) ≡ newest m = newest-left m (United r s) below in
    let at_inner : CanJoin r s = record { ordered = sr; distinct = one; shallow = dr } in
    let at_middle : CanJoin m (United r s) = record { ordered = below; distinct = two; shallow = omega arith } in
    let at_outer : CanJoin l (United m (United r s)) = record { ordered = rw (middle, same) (omega arith); distinct = distinct; shallow = omega arith } in
    (well_formed_tree_l, (well_formed_tree_m, (well_formed_tree_r, well_formed_tree_s, at_inner), at_middle), at_outer)

-- one that is no union goes in front of another
front_well_formed_tree : (a b : SetTree) → depth a ≡ 0 → IsWellFormedTree a → IsWellFormedTree b → CanUnite a b → IsWellFormedTree (United a b)
front_well_formed_tree a b flat well_formed_tree_a well_formed_tree_b can =
    let e = ap (λ (t : Stamp). t.pos) can.same_max in
    let joins : CanJoin a b = record { ordered = omega arith; distinct = can.distinct; shallow = omega arith } in
    (well_formed_tree_a, well_formed_tree_b, joins)

CanUnite-swap : (a b : SetTree) → CanUnite a b → CanUnite b a
CanUnite-swap a b can = record {
  safe = (can.safe.1, can.safe.0);
  same_max = sym can.same_max;
  distinct = HasNoRepeats-permutation (members a ++ members b) (members b ++ members a) (IsPermutation-append_comm (members a) (members b)) can.distinct;
}

-- the left children of two unions start at the same time
same_tops : (l r m s : SetTree) → IsWellFormedTree (United l r) → IsWellFormedTree (United m s) → newest (United l r) ≡ newest (United m s) → newest l ≡ newest m
same_tops l r m s a b same = sym (newest-left l r a.2.ordered) ∙ same ∙ newest-left m s b.2.ordered

forks_well_formed_tree : (l r m s : SetTree) → IsWellFormedTree (United l r) → IsWellFormedTree (United m s) → CanUnite (United l r) (United m s) → (newest s).pos ≤ (newest r).pos → IsWellFormedTree (United l (United m (United r s)))
forks_well_formed_tree l r m s a b can order =
    let tops = same_tops l r m s a b can.same_max in
    let below : (newest r).pos ≤ (newest m).pos = let h = a.2.ordered in let e = ap (λ (t : Stamp). t.pos) tops in omega arith in
    chain_well_formed_tree l m r s a.0 b.0 a.1 b.1 tops below order can.safe.0.0 can.safe.1.0 can.safe.0.1 (HasNoRepeats-permutation _ _ (woven (members l) (members r) (members m) (members s)) can.distinct)

forks_well_formed_tree_back : (l r m s : SetTree) → IsWellFormedTree (United l r) → IsWellFormedTree (United m s) → CanUnite (United l r) (United m s) → (newest r).pos ≤ (newest s).pos → IsWellFormedTree (United l (United m (United s r)))
forks_well_formed_tree_back l r m s a b can order =
    chain_well_formed_tree l m s r a.0 b.0 b.1 a.1 (same_tops l r m s a b can.same_max) b.2.ordered order can.safe.0.0 can.safe.1.0 can.safe.1.1 (HasNoRepeats-permutation _ _ (woven_back (members l) (members r) (members m) (members s)) can.distinct)

not_later : (a b : ℕ) → nat_le b a ≡ false → a ≤ b
not_later a b fail = let other : b ≤ a → ⊥ = λ h. let e = le-leb b a h in cc in omega arith

-- the two as one are well-formed
pub united-well_formed_tree : (a b : SetTree) → IsWellFormedTree a → IsWellFormedTree b → CanUnite a b → IsWellFormedTree (united a b)
united-well_formed_tree (Start s) b la lb can = front_well_formed_tree (Start s) b refl la lb can
united-well_formed_tree (Extended p t) b la lb can = front_well_formed_tree (Extended p t) b refl la lb can
united-well_formed_tree (United l r) (Start s) la lb can = front_well_formed_tree (Start s) (United l r) refl lb la (CanUnite-swap (United l r) (Start s) can)
united-well_formed_tree (United l r) (Extended p t) la lb can = front_well_formed_tree (Extended p t) (United l r) refl lb la (CanUnite-swap (United l r) (Extended p t) can)
united-well_formed_tree (United l r) (United m s) la lb can = elim (cases_Bool (nat_le (newest s).pos (newest r).pos)) [
  | inl pass ↦ rw pass (forks_well_formed_tree l r m s la lb can (leb-true (newest s).pos (newest r).pos pass))
  | inr fail ↦ rw fail (forks_well_formed_tree_back l r m s la lb can (not_later (newest r).pos (newest s).pos fail))
]

-- the two as one have the members of both
pub united-members : (a b : SetTree) → IsPermutation (members a ++ members b) (members (united a b))
united-members (Start s) b = IsPermutation-refl (members (Start s) ++ members b)
united-members (Extended p t) b = IsPermutation-refl (members (Extended p t) ++ members b)
united-members (United l r) (Start s) = IsPermutation-append_comm (members (United l r)) (members (Start s))
united-members (United l r) (Extended p t) = IsPermutation-append_comm (members (United l r)) (members (Extended p t))
united-members (United l r) (United m s) = elim (cases_Bool (nat_le (newest s).pos (newest r).pos)) [
  | inl pass ↦ rw pass (woven (members l) (members r) (members m) (members s))
  | inr fail ↦ rw fail (woven_back (members l) (members r) (members m) (members s))
]

safe_depth : (t : SetTree) → IsSafe t → depth t ≤ 1
safe_depth (Start s) h = omega arith
safe_depth (Extended p t) h = omega arith
safe_depth (United l r) h = let e = h.0 in omega arith

-- the two as one are safe
pub united-safe : (a b : SetTree) → IsSafe a → IsSafe b → IsSafe (united a b)
united-safe (Start s) b safe_a safe_b = (refl, let d = safe_depth b safe_b in omega arith)
united-safe (Extended p t) b safe_a safe_b = (refl, let d = safe_depth b safe_b in omega arith)
united-safe (United l r) (Start s) safe_a safe_b = (refl, let d = safe_depth (United l r) safe_a in omega arith)
united-safe (United l r) (Extended p t) safe_a safe_b = (refl, let d = safe_depth (United l r) safe_a in omega arith)
united-safe (United l r) (United m s) safe_a safe_b = (safe_a.0, let e = safe_b.0 in omega arith)

-- the two as one have the greatest start of both
pub united-newest : (a b : SetTree) → IsWellFormedTree a → IsWellFormedTree b → CanUnite a b → newest (united a b) ≡ newest a
united-newest (Start s) b la lb can = newest-left (Start s) b (united-well_formed_tree (Start s) b la lb can).2.ordered
united-newest (Extended p t) b la lb can = newest-left (Extended p t) b (united-well_formed_tree (Extended p t) b la lb can).2.ordered
united-newest (United l r) (Start s) la lb can = newest-left (Start s) (United l r) (united-well_formed_tree (United l r) (Start s) la lb can).2.ordered ∙ sym can.same_max
united-newest (United l r) (Extended p t) la lb can = newest-left (Extended p t) (United l r) (united-well_formed_tree (United l r) (Extended p t) la lb can).2.ordered ∙ sym can.same_max
united-newest (United l r) (United m s) la lb can = newest-left l (United m (later_first r s)) (united-well_formed_tree (United l r) (United m s) la lb can).2.ordered ∙ sym (newest-left l r la.2.ordered)

-- a node with that tree is the union of the two
pub united_is : {E : Type 0} (o : Result ℕ E) (old new : List Node) (a b : ℕ) → IsWellFormedTree (tree old a) → IsWellFormedTree (tree old b) → CanUnite (tree old a) (tree old b) → IfOk o (λ id. HasNode new id (united (tree old a) (tree old b))) → IfOk o (λ id. IsUnion old a b new id)
united_is (Ok id) old new a b la lb can has = record {
  inside = has.0;
  members_of_both = rw has.1 (united-members (tree old a) (tree old b));
  safe = rw has.1 (united-safe (tree old a) (tree old b) can.safe.0 can.safe.1);
  same_max = ap newest has.1 ∙ united-newest (tree old a) (tree old b) la lb can;
}
united_is (Err e) old new a b la lb can has = tt

-- one that is no union goes to the left
pub united-front : (a b : SetTree) → depth a ≡ 0 → united a b ≡ United a b
united-front (Start s) b flat = refl
united-front (Extended p t) b flat = refl
united-front (United l r) b flat = absurd (omega arith)

pub united-after : (l r b : SetTree) → depth b ≡ 0 → united (United l r) b ≡ United b (United l r)
united-after l r (Start s) flat = refl
united-after l r (Extended p t) flat = refl
united-after l r (United m s) flat = absurd (omega arith)

-- two unions become a chain
united-chain : (l r m s : SetTree) → (newest s).pos ≤ (newest r).pos → united (United l r) (United m s) ≡ United l (United m (United r s))
united-chain l r m s order = rw (le-leb (newest s).pos (newest r).pos order) refl

united-chain_back : (l r m s : SetTree) → (newest r).pos < (newest s).pos → united (United l r) (United m s) ≡ United l (United m (United s r))
united-chain_back l r m s order = elim (cases_Bool (nat_le (newest s).pos (newest r).pos)) [
  | inl pass ↦ absurd (let h = leb-true (newest s).pos (newest r).pos pass in omega arith)
  | inr fail ↦ rw fail refl
]

-- a stored union: its tree, its children, and the greatest start that it keeps of the right one
pub record IsStored (nodes : List Node) (id l r : ℕ) (q : Stamp) : Type 0 where
  pub is : tree nodes id ≡ United (tree nodes l) (tree nodes r)
  pub inside_l : l < length nodes
  pub inside_r : r < length nodes
  pub right : q.pos ≡ (newest (tree nodes r)).pos

pub stored : (nodes : List Node) → WellFormed nodes → (id l r k : ℕ) (x q : Stamp) → id < length nodes → slice_get nodes id ≡ Some (Union l r k x q) → IsStored nodes id l r q
stored nodes w id l r k x q inside at =
    let t = w.true_fields id (Union l r k x q) at in
    let l_below = t.0 in let r_below = t.1 in
    record { is = tree-at nodes w id (Union l r k x q) at; inside_l = omega arith; inside_r = omega arith; right = ap (λ (s : Stamp). s.pos) t.3 }

pub is_chain : (nodes : List Node) (a b l r m s : ℕ) (q p : Stamp) → IsStored nodes a l r q → IsStored nodes b m s p → p.pos ≤ q.pos → united (tree nodes a) (tree nodes b) ≡ United (tree nodes l) (United (tree nodes m) (United (tree nodes r) (tree nodes s)))
is_chain nodes a b l r m s q p u v order = rw (u.is, v.is) (united-chain (tree nodes l) (tree nodes r) (tree nodes m) (tree nodes s) (let e = u.right in let f = v.right in omega arith))

pub is_chain_back : (nodes : List Node) (a b l r m s : ℕ) (q p : Stamp) → IsStored nodes a l r q → IsStored nodes b m s p → q.pos < p.pos → united (tree nodes a) (tree nodes b) ≡ United (tree nodes l) (United (tree nodes m) (United (tree nodes s) (tree nodes r)))
is_chain_back nodes a b l r m s q p u v order = rw (u.is, v.is) (united-chain_back (tree nodes l) (tree nodes r) (tree nodes m) (tree nodes s) (let e = u.right in let f = v.right in omega arith))

pub is_after : (nodes : List Node) (a l r : ℕ) (q : Stamp) (b : SetTree) → IsStored nodes a l r q → depth b ≡ 0 → united (tree nodes a) b ≡ United b (tree nodes a)
is_after nodes a l r q b u flat = rw u.is (united-after (tree nodes l) (tree nodes r) b flat)

-- the tree may be written in another way
pub with_tree : {E : Type 0} (o : Result ℕ E) (new : List Node) (t u : SetTree) → t ≡ u → IfOk o (λ id. HasNode new id t) → IfOk o (λ id. HasNode new id u)
with_tree o new t u e has = subst (λ (x : SetTree). IfOk o (λ id. HasNode new id x)) e has

-- a node that is no union has depth 0
pub no_union : (nodes : List Node) → WellFormed nodes → (id : ℕ) (n : Node) → slice_get nodes id ≡ Some n → ((l r k : ℕ) (m q : Stamp) → n ≡ Union l r k m q → ⊥) → depth (tree nodes id) ≡ 0
no_union nodes w id (Bottom s) at other = ap depth (tree-at nodes w id (Bottom s) at)
no_union nodes w id (Output p c m k) at other = ap depth (tree-at nodes w id (Output p c m k) at)
no_union nodes w id (Union l r k m q) at other = absurd (other l r k m q refl)

-- two that become one union in a single step can be joined
pub can_join : (a b l r : SetTree) → IsWellFormedTree a → IsWellFormedTree b → CanUnite a b → united a b ≡ United l r → CanJoin l r
can_join a b l r la lb can e = (subst IsWellFormedTree e (united-well_formed_tree a b la lb can)).2

-- how many nodes each form takes
pub made_of_two : (nodes : List Node) (a b l r m s : ℕ) (q p : Stamp) → IsStored nodes a l r q → IsStored nodes b m s p → nodes_made (tree nodes a) (tree nodes b) ≡ 3
made_of_two nodes a b l r m s q p u v = rw (u.is, v.is) refl

pub made_front : (a b : SetTree) → depth a ≡ 0 → nodes_made a b ≡ 1
made_front (Start s) b flat = refl
made_front (Extended p t) b flat = refl
made_front (United l r) b flat = absurd (omega arith)

pub made_after : (a b : SetTree) → depth b ≡ 0 → nodes_made a b ≡ 1
made_after (Start s) b flat = refl
made_after (Extended p t) b flat = refl
made_after (United l r) (Start s) flat = refl
made_after (United l r) (Extended p t) flat = refl
made_after (United l r) (United m s) flat = absurd (omega arith)

-- a count that is told by another number
pub counted : {E : Type 0} (o : Result ℕ E) (a b c : ℕ) → OnOk o (a ≡ b) → b ≡ c → OnOk o (a ≡ c)
counted o a b c h e = subst (λ (n : ℕ). OnOk o (a ≡ n)) e h

pub counted_always : {E : Type 0} (o : Result ℕ E) (a c : ℕ) → a ≡ c → OnOk o (a ≡ c)
counted_always (Ok n) a c e = e
counted_always (Err e) a c h = tt
