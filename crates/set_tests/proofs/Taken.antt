-- What is left to take in when one more node is in.
use Rattle.std.proofs.Common.{◌≡◌, ℕ, zero, suc, ◌<◌, ◌≤◌, List, [], ◌∷◌, ◌++◌, map, length, take, drop, get_or, refl, sym, ap, subst, ◌∙◌, All, arith, append_assoc}
use Rattle.std.specs.List.{flat_map}
use Rattle.std.proofs.lemmas.Grind.{flat_map-append}
use Rattle.std.proofs.lemmas.List.Elements.{All-head, All-tail, All-weaker}
use Rattle.std.proofs.lemmas.List.Sorted.{IsPermutation-append_left}
use Rattle.cer_base.specs.declared.node.Root.{Root}
use Rattle.cer_base.specs.declared.node.Node.{Node}
use Rattle.cer_base.specs.Repeats.{HasNoRepeats}
use Rattle.cer_base.specs.Members.{SetTree, members, IsSafe}
use Rattle.cer_base.specs.Nodes.{tree, Grows}
use Rattle.cer_base.proofs.Trees.{tree-grows, length-grows}
use Rattle.cer_base.proofs.Repeats.{HasNoRepeats-permutation, HasNoRepeats-back}
use Rattle.std.proofs.lemmas.List.Sorted.{IsPermutation-append_comm}
use Rattle.union_lists.specs.Lists.{top, trees, members_of, IsUnionList, IsInserted, CanInsert}
use Rattle.set_tests.specs.Parts.{trees_at}
use Rattle.set_tests.specs.Rows.{CanInsertAll}

front : {A : Type 0} (xs ys : List A) → HasNoRepeats (xs ++ ys) → HasNoRepeats xs
front xs ys h = HasNoRepeats-back ys xs (HasNoRepeats-permutation (xs ++ ys) (ys ++ xs) (IsPermutation-append_comm xs ys) h)

-- the members, the first node's apart
apart : (nodes : List Node) (l : List Root) (id : ℕ) (ids : List ℕ) → flat_map members (trees nodes l ++ trees_at nodes (id ∷ ids)) ≡ (members_of nodes l ++ members (tree nodes id)) ++ flat_map members (trees_at nodes ids)
apart nodes l id ids = flat_map-append members (trees nodes l) (trees_at nodes (id ∷ ids)) ∙ sym (append_assoc (members_of nodes l) (members (tree nodes id)) (flat_map members (trees_at nodes ids)))

pub can_insert_first : (nodes : List Node) (l : List Root) (id : ℕ) (ids : List ℕ) → CanInsertAll nodes l (id ∷ ids) → CanInsert nodes l id
can_insert_first nodes l id ids can = record {
  list = can.list;
  inside = All-head (λ i. i < length nodes) id ids can.inside;
  safe = All-head IsSafe (tree nodes id) (trees_at nodes ids) can.safe;
  below = All-head (λ (t : SetTree). All (λ n. top t ≤ n) (take 1 (map top (trees nodes l)))) (tree nodes id) (trees_at nodes ids) can.below;
  distinct = front (members_of nodes l ++ members (tree nodes id)) (flat_map members (trees_at nodes ids)) (subst HasNoRepeats (apart nodes l id ids) can.distinct);
}

first_top : (ts us : List SetTree) → take 1 us ≡ take 1 ts → take 1 (map top us) ≡ take 1 (map top ts)
first_top [] [] e = refl
first_top [] (u ∷ us) e = absurd cc
first_top (t ∷ ts) [] e = absurd cc
first_top (t ∷ ts) (u ∷ us) e = let same : u ≡ t = cc in ap (λ w. top w ∷ []) same

trees_later : (old new : List Node) → Grows old new → (ids : List ℕ) → All (λ id. id < length old) ids → trees_at new ids ≡ trees_at old ids
trees_later old new g [] h = refl
trees_later old new g (i ∷ ids) h = ap (λ (t : SetTree). t ∷ trees_at new ids) (tree-grows old new g i (All-head (λ id. id < length old) i ids h)) ∙ ap (λ (ts : List SetTree). tree old i ∷ ts) (trees_later old new g ids (All-tail (λ id. id < length old) i ids h))

pub can_insert_rest : (old new : List Node) → Grows old new → (l m : List Root) (id : ℕ) (ids : List ℕ) → CanInsertAll old l (id ∷ ids) → IsUnionList new m → IsInserted (trees old l) (tree old id) (trees new m) → CanInsertAll new m ids
can_insert_rest old new g l m id ids can is inserted =
    let inside = All-tail (λ i. i < length old) id ids can.inside in
    let longer = length-grows old new g in
    let same = trees_later old new g ids inside in
    let B : List ℕ → SetTree → Type 0 = λ ns t. All (λ n. top t ≤ n) ns in
    let below = All-tail (λ (t : SetTree). All (λ n. top t ≤ n) (take 1 (map top (trees old l)))) (tree old id) (trees_at old ids) can.below in
    let old_apart = subst HasNoRepeats (apart old l id ids) can.distinct in
    let new_apart : HasNoRepeats (members_of new m ++ flat_map members (trees_at old ids)) = HasNoRepeats-permutation _ _ (IsPermutation-append_left (flat_map members (trees_at old ids)) _ _ inserted.members_of_both) old_apart in
    record {
      list = is;
      inside = All-weaker (λ i. i < length old) (λ i. i < length new) (λ i lt. omega arith) ids inside;
      safe = subst (All IsSafe) (sym same) (All-tail IsSafe (tree old id) (trees_at old ids) can.safe);
      below = subst (λ (ts : List SetTree). All (λ (t : SetTree). All (λ n. top t ≤ n) (take 1 (map top (trees new m)))) ts) (sym same)
          (subst (λ (ns : List ℕ). All (λ (t : SetTree). All (λ n. top t ≤ n) ns) (trees_at old ids)) (sym (first_top (trees old l) (trees new m) inserted.same_head)) below);
      distinct = subst HasNoRepeats (sym (flat_map-append members (trees new m) (trees_at new ids) ∙ ap (λ (ts : List SetTree). members_of new m ++ flat_map members ts) same)) new_apart;
    }

pub drop_here : (k : ℕ) (ids : List ℕ) (d : ℕ) → k < length ids → drop k ids ≡ get_or ids k d ∷ drop (suc k) ids
drop_here zero [] d h = absurd (omega arith)
drop_here (suc k) [] d h = absurd (omega arith)
drop_here zero (i ∷ ids) d h = refl
drop_here (suc k) (i ∷ ids) d h = drop_here k ids d (omega arith)

-- the tree of a node that is named by its place
pub tree_named : (f : ℕ → SetTree) (ids : List ℕ) (ts : List SetTree) (k d : ℕ) (t : SetTree) → map f ids ≡ ts → k < length ts → f (get_or ids k d) ≡ get_or ts k t
tree_named f [] ts k d t e h = absurd (let l : length ts ≡ 0 = sym (ap length e) in omega arith)
tree_named f (i ∷ ids) [] k d t e h = absurd (omega arith)
tree_named f (i ∷ ids) (u ∷ us) zero d t e h = cc
tree_named f (i ∷ ids) (u ∷ us) (suc k) d t e h = tree_named f ids us k d t (let rest : map f ids ≡ us = cc in rest) (omega arith)
