-- The list that starts at 7 can take in the three others.
use Rattle.std.proofs.Common.{◌≡◌, ℕ, zero, suc, ◌<◌, ◌≤◌, List, [], ◌∷◌, ◌++◌, map, take, length, refl, sym, ap, subst, ◌∙◌, All, arith, Some, slice_get, get_or}
use Rattle.std.specs.Prelude.{pos}
use Rattle.std.proofs.lemmas.List.{length-map}
use Rattle.std.proofs.lemmas.Option.{slice_get-get_or}
use Rattle.std.specs.List.{flat_map}
use Rattle.std.proofs.lemmas.List.Elements.{All-nil, All-cons, All-head, All-tail}
use Rattle.cer_base.specs.declared.node.Root.{Root}
use Rattle.cer_base.specs.declared.node.Node.{Node}
use Rattle.cer_base.specs.Repeats.{HasNoRepeats}
use Rattle.cer_base.specs.Members.{SetTree, Start, Extended, members, IsSafe}
use Rattle.cer_base.specs.Nodes.{tree}
use Rattle.set_tests.proofs.Made.{all_differ_tells}
use Rattle.union_lists.specs.Lists.{top, trees, IsUnionList}
use Rattle.set_tests.specs.Rows.{CanInsertAll}

one_at : (f : ℕ → SetTree) (ids : List ℕ) (ts : List SetTree) (k i : ℕ) → map f ids ≡ ts → slice_get ids k ≡ Some i → slice_get ts k ≡ Some (f i)
one_at f [] ts k i e at = absurd cc
one_at f (j ∷ ids) [] k i e at = absurd cc
one_at f (j ∷ ids) (t ∷ ts) zero i e at = let same : j ≡ i = cc in let first : f j ≡ t = cc in ap (λ u. Some u) (sym first ∙ ap f same)
one_at f (j ∷ ids) (t ∷ ts) (suc k) i e at = one_at f ids ts k i (let rest : map f ids ≡ ts = cc in rest) at

within : (n : ℕ) (ids : List ℕ) (k i : ℕ) → All (λ id. id < n) ids → slice_get ids k ≡ Some i → i < n
within n [] k i h at = absurd cc
within n (j ∷ ids) zero i h at = let same : j ≡ i = cc in subst (λ m. m < n) same (All-head (λ id. id < n) j ids h)
within n (j ∷ ids) (suc k) i h at = within n ids k i (All-tail (λ id. id < n) j ids h) at

some_is : (t u : SetTree) → Some t ≡ Some u → u ≡ t
some_is t u e = cc

pub can_take_three : (nodes : List Node) (l : List Root) (ids : List ℕ) (h a b c : ℕ) → All (λ id. id < length nodes) ids → map (tree nodes) ids ≡ Start (record { pos = 5; clock = pos 5 }) ∷ Start (record { pos = 7; clock = pos 7 }) ∷ Extended 8 (Start (record { pos = 7; clock = pos 7 })) ∷ Extended 8 (Start (record { pos = 5; clock = pos 5 })) ∷ Extended 9 (Start (record { pos = 7; clock = pos 7 })) ∷ Extended 9 (Start (record { pos = 5; clock = pos 5 })) ∷ [] → slice_get ids 2 ≡ Some h → slice_get ids 3 ≡ Some a → slice_get ids 4 ≡ Some b → slice_get ids 5 ≡ Some c → IsUnionList nodes l → trees nodes l ≡ tree nodes h ∷ [] → CanInsertAll nodes l (a ∷ b ∷ c ∷ [])
can_take_three nodes l ids h a b c inside all at_h at_a at_b at_c is one =
    let s5 : SetTree = Start (record { pos = 5; clock = pos 5 }) in
    let s7 : SetTree = Start (record { pos = 7; clock = pos 7 }) in
    let th : tree nodes h ≡ Extended 8 s7 = some_is (Extended 8 s7) (tree nodes h) (one_at (tree nodes) ids _ 2 h all at_h) in
    let ta : tree nodes a ≡ Extended 8 s5 = some_is (Extended 8 s5) (tree nodes a) (one_at (tree nodes) ids _ 3 a all at_a) in
    let tb : tree nodes b ≡ Extended 9 s7 = some_is (Extended 9 s7) (tree nodes b) (one_at (tree nodes) ids _ 4 b all at_b) in
    let tc : tree nodes c ≡ Extended 9 s5 = some_is (Extended 9 s5) (tree nodes c) (one_at (tree nodes) ids _ 5 c all at_c) in
    let list : trees nodes l ≡ Extended 8 s7 ∷ [] = one ∙ ap (λ (t : SetTree). t ∷ []) th in
    let others : map (tree nodes) (a ∷ b ∷ c ∷ []) ≡ Extended 8 s5 ∷ Extended 9 s7 ∷ Extended 9 s5 ∷ [] = ap (λ (t : SetTree). t ∷ tree nodes b ∷ tree nodes c ∷ []) ta ∙ ap (λ (t : SetTree). Extended 8 s5 ∷ t ∷ tree nodes c ∷ []) tb ∙ ap (λ (t : SetTree). Extended 8 s5 ∷ Extended 9 s7 ∷ t ∷ []) tc in
    let N : ℕ → Type 0 = λ id. id < length nodes in
    let below : (n : ℕ) → n ≤ 7 → All (λ m. n ≤ m) (7 ∷ []) = λ n le. All-cons (λ m. n ≤ m) 7 [] le (All-nil (λ m. n ≤ m)) in
    let B : SetTree → Type 0 = λ t. All (λ n. top t ≤ n) (7 ∷ []) in
    let all_below : All B (Extended 8 s5 ∷ Extended 9 s7 ∷ Extended 9 s5 ∷ []) = All-cons B (Extended 8 s5) (Extended 9 s7 ∷ Extended 9 s5 ∷ []) (below 5 (omega arith)) (All-cons B (Extended 9 s7) (Extended 9 s5 ∷ []) (below 7 (omega arith)) (All-cons B (Extended 9 s5) [] (below 5 (omega arith)) (All-nil B))) in
    let all_safe : All IsSafe (Extended 8 s5 ∷ Extended 9 s7 ∷ Extended 9 s5 ∷ []) = All-cons IsSafe (Extended 8 s5) (Extended 9 s7 ∷ Extended 9 s5 ∷ []) tt (All-cons IsSafe (Extended 9 s7) (Extended 9 s5 ∷ []) tt (All-cons IsSafe (Extended 9 s5) [] tt (All-nil IsSafe))) in
    let differ : HasNoRepeats (flat_map members (Extended 8 s7 ∷ Extended 8 s5 ∷ Extended 9 s7 ∷ Extended 9 s5 ∷ [])) = all_differ_tells (flat_map members (Extended 8 s7 ∷ Extended 8 s5 ∷ Extended 9 s7 ∷ Extended 9 s5 ∷ [])) refl in
    record {
      list = is;
      inside = All-cons N a (b ∷ c ∷ []) (within (length nodes) ids 3 a inside at_a) (All-cons N b (c ∷ []) (within (length nodes) ids 4 b inside at_b) (All-cons N c [] (within (length nodes) ids 5 c inside at_c) (All-nil N)));
      safe = subst (All IsSafe) (sym others) all_safe;
      below = subst (λ (ts : List SetTree). All (λ (t : SetTree). All (λ n. top t ≤ n) (take 1 (map top (trees nodes l)))) ts) (sym others)
          (subst (λ (us : List SetTree). All (λ (t : SetTree). All (λ n. top t ≤ n) (take 1 (map top us))) (Extended 8 s5 ∷ Extended 9 s7 ∷ Extended 9 s5 ∷ [])) (sym list) all_below);
      distinct = subst (λ (ts : List SetTree). HasNoRepeats (flat_map members (trees nodes l ++ ts))) (sym others)
          (subst (λ (us : List SetTree). HasNoRepeats (flat_map members (us ++ (Extended 8 s5 ∷ Extended 9 s7 ∷ Extended 9 s5 ∷ [])))) (sym list) differ);
    }

-- the element that an index gives
pub indexed : (f : ℕ → SetTree) (ids : List ℕ) (ts : List SetTree) (k i : ℕ) → map f ids ≡ ts → k < length ts → i ≡ get_or ids k i → slice_get ids k ≡ Some i
indexed f ids ts k i all short e =
    let same : length ids ≡ length ts = sym (length-map ids f) ∙ ap length all in
    slice_get-get_or ids k i (omega arith) ∙ ap (λ j. Some j) (sym e)
