-- Parts that pass the test can be made, and what their nodes then are. For callers of the crate too.
use Rattle.std.proofs.Common.{◌≡◌, ℕ, zero, suc, eq-eqb, ◌<◌, ◌≤◌, ℤ, true, false, not, ◌&&◌, Bool, List, [], ◌∷◌, ◌++◌, length, get_or, refl, sym, ap, subst, ◌∙◌, ◌⊎◌, inl, inr, arith, length-append, Result, Ok, Err, IfOk, OnOk, All, Contains, nat_le, nat_lt}
use Rattle.std.specs.Prelude.{◌≤ℤ◌, int_le, ◌==◌}
use Rattle.std.proofs.lemmas.Int.{ints}
use Rattle.std.proofs.lemmas.List.{map-append, length-map, get_or_default}
use Rattle.std.proofs.lemmas.List.Elements.{All-head, All-tail, All-cons, All-nil, All-append, All-contains, All-weaker, All-push, Contains-push_cases, Contains-append_left, Contains-push}
use Rattle.std.proofs.lemmas.Bool.{leb-true, ltb-true, eqb-true}
use Rattle.std.proofs.lemmas.Slice.Eq.{bytes_eq-Decides}
use Rattle.cer_base.specs.declared.node.Stamp.{Stamp}
use Rattle.cer_base.specs.declared.node.Root.{Root}
use Rattle.cer_base.specs.declared.node.Node.{Node}
use Rattle.cer_base.specs.declared.node.Node.TheVariants.{Bottom}
use Rattle.cer_base.specs.Repeats.{HasNoRepeats}
use Rattle.cer_base.specs.Members.{Member, SetTree, Start, Extended, United, members, newest, depth, ComesAfter, CanJoin, IsSafe}
use Rattle.cer_base.specs.Nodes.{tree, WellFormed, AreInStep, HasNode, Grows, IsRoot}
use Rattle.cer_base.proofs.Trees.{in_step-bottom, tree-append, tree-grows, length-grows}
use Rattle.cer_base.proofs.Walks.{test_tells}
use Rattle.tecs_nodes.specs.Unite.{CanUnite, united}
use Rattle.set_tests.specs.declared.part.BuildStep.{BuildStep}
use Rattle.set_tests.specs.declared.part.BuildStep.TheVariants as kind_of_part
use Rattle.set_tests.specs.Parts.{at, made, can_make, all_pass, is_before, is_after, is_same, all_differ, is_safe, trees_at, AreNodes}

and_first : (a b : Bool) → a && b ≡ true → a ≡ true
and_first true b e = refl
and_first false b e = e

and_second : (a b : Bool) → a && b ≡ true → b ≡ true
and_second true b e = e
and_second false b e = absurd (cc)

pub all_tells : {A : Type 0} (test : A → Bool) (P : A → Type 0) → ((x : A) → test x ≡ true → P x) → (xs : List A) → all_pass test xs ≡ true → All P xs
all_tells test P tells [] e = All-nil P
all_tells test P tells (x ∷ xs) e = All-cons P x xs (tells x (and_first (test x) (all_pass test xs) e)) (all_tells test P tells xs (and_second (test x) (all_pass test xs) e))

pub after_tells : (p : ℕ) (ms : List Member) → all_pass (is_after p) ms ≡ true → All (ComesAfter p) ms
after_tells p ms e = all_tells (is_after p) (ComesAfter p) (λ m t. record {
  positions = all_tells (λ q. nat_lt q p) (λ q. q < p) (λ q u. ltb-true q p u) m.positions (and_first (all_pass (λ q. nat_lt q p) m.positions) (nat_le m.start.pos p) t);
  start = leb-true m.start.pos p (and_second (all_pass (λ q. nat_lt q p) m.positions) (nat_le m.start.pos p) t);
}) ms e

same_itself : (m : Member) → is_same m m ≡ true
same_itself m = rw (eq-eqb m.start.pos m.start.pos refl) ((bytes_eq-Decides m.positions m.positions).1 refl)

differ_tells : (m : Member) (ms : List Member) → all_pass (λ other. not (is_same other m)) ms ≡ true → Contains ms m → ⊥
differ_tells m ms e has =
    let others = all_tells (λ other. not (is_same other m)) (λ other. other ≡ m → ⊥) (λ other t same. let u : not (is_same m m) ≡ true = subst (λ (x : Member). not (is_same x m) ≡ true) same t in let v : not true ≡ true = subst (λ (b : Bool). not b ≡ true) (same_itself m) u in cc) ms e in
    All-contains (λ other. other ≡ m → ⊥) ms m others has refl

pub all_differ_tells : (ms : List Member) → all_differ ms ≡ true → HasNoRepeats ms
all_differ_tells [] e = tt
all_differ_tells (m ∷ ms) e = (differ_tells m ms (and_first (all_pass (λ other. not (is_same other m)) ms) (all_differ ms) e), all_differ_tells ms (and_second (all_pass (λ other. not (is_same other m)) ms) (all_differ ms) e))

safe_tells : (t : SetTree) → is_safe t ≡ true → IsSafe t
safe_tells (Start s) e = tt
safe_tells (Extended p t) e = tt
safe_tells (United l r) e = (eqb-true (depth l) 0 (and_first (depth l == 0) (nat_le (depth r) 2) e), leb-true (depth r) 2 (and_second (depth l == 0) (nat_le (depth r) 2) e))

stamp_same : (s t : Stamp) → s.pos ≡ t.pos → s.clock ≡ t.clock → s ≡ t
stamp_same s t e f = ap (λ (p : ℕ). record { pos = p; clock = s.clock }) e ∙ ap (λ (z : ℤ). record { pos = t.pos; clock = z }) f

clocks_same : (x y : ℤ) → x ≤ℤ y → y ≤ℤ x → x ≡ y
clocks_same x y up down = omega (arith, ints)

-- what a test on two trees tells
join_tells : (l r : SetTree) → nat_le (newest r).pos (newest l).pos && (all_differ (members l ++ members r) && nat_le (depth l) 2) ≡ true → CanJoin l r
join_tells l r e =
    let more = and_second _ _ e in
    record { ordered = leb-true _ _ (and_first _ _ e); distinct = all_differ_tells _ (and_first _ _ more); shallow = leb-true _ _ (and_second _ _ more) }

unite_tells : (a b : SetTree) → is_safe a && (is_safe b && (((newest a).pos == (newest b).pos) && (int_le (newest a).clock (newest b).clock && (int_le (newest b).clock (newest a).clock && all_differ (members a ++ members b))))) ≡ true → CanUnite a b
unite_tells a b e =
    let e1 = and_second _ _ e in
    let e2 = and_second _ _ e1 in
    let e3 = and_second _ _ e2 in
    let e4 = and_second _ _ e3 in
    let up : (newest a).clock ≤ℤ (newest b).clock = test_tells _ _ (and_first _ _ e3) in
    let down : (newest b).clock ≤ℤ (newest a).clock = test_tells _ _ (and_first _ _ e4) in
    record {
      safe = (safe_tells a (and_first _ _ e), safe_tells b (and_first _ _ e1));
      same_max = stamp_same (newest a) (newest b) (eqb-true _ _ (and_first _ _ e2)) (clocks_same (newest a).clock (newest b).clock up down);
      distinct = all_differ_tells _ (and_second _ _ e4);
    }

-- the tree at a place is that of the id there
at_is : (nodes : List Node) (ids : List ℕ) (k : ℕ) → k < length ids → at (trees_at nodes ids) k ≡ tree nodes (get_or ids k 0)
at_is nodes [] k h = absurd (omega arith)
at_is nodes (i ∷ is) zero h = refl
at_is nodes (i ∷ is) (suc k) h = at_is nodes is k (omega arith)

-- one root more
pub roots_more : (nodes : List Node) (before after : List Root) (r : Root) → after ≡ before ++ r ∷ [] → All (IsRoot nodes) before → IsRoot nodes r → All (IsRoot nodes) after
roots_more nodes before after r e all one = subst (λ (rs : List Root). All (IsRoot nodes) rs) (sym e) (All-push (IsRoot nodes) before r all one)

-- the tree of the node whose id stands at a place
pub tree_there : (nodes : List Node) (ids : List ℕ) (trees : List SetTree) (k id root : ℕ) → trees_at nodes ids ≡ trees → k < length trees → id ≡ get_or ids k id → root ≡ id → tree nodes root ≡ at trees k
tree_there nodes ids trees k id root are less there is =
    let within : k < length ids = omega (arith, ap length are, length-map ids (tree nodes)) in
    let same : id ≡ get_or ids k 0 = there ∙ get_or_default ids k id 0 within in
    ap (tree nodes) (is ∙ same) ∙ (sym (at_is nodes ids k within) ∙ ap (λ ts. at ts k) are)

pub can_start : (nodes : List Node) (ids : List ℕ) (part : BuildStep) (stamp : Stamp) → part ≡ kind_of_part.Start stamp.pos stamp.clock → AreNodes nodes ids → can_make (trees_at nodes ids) part ≡ true → AreInStep (nodes ++ Bottom stamp ∷ [])
can_start nodes ids part stamp is are can =
    let before : all_pass (is_before stamp) (trees_at nodes ids) ≡ true = subst (λ (p : BuildStep). can_make (trees_at nodes ids) p ≡ true) is can in
    let all = all_tells (is_before stamp) (λ t. is_before stamp t ≡ true) (λ t e. e) (trees_at nodes ids) before in
    in_step-bottom nodes stamp are.well_formed.in_step (λ s has.
    let e : nat_lt s.pos stamp.pos && int_le s.clock stamp.clock ≡ true = All-contains (λ t. is_before stamp t ≡ true) (trees_at nodes ids) (Start s) all (are.starts s has) in
    (ltb-true _ _ (and_first _ _ e), test_tells _ _ (and_second _ _ e)))

pub extend_inside : (nodes : List Node) (ids : List ℕ) (part : BuildStep) (k p : ℕ) → part ≡ kind_of_part.Extend k p → can_make (trees_at nodes ids) part ≡ true → k < length ids
extend_inside nodes ids part k p is can =
    let e : nat_lt k (length (trees_at nodes ids)) && all_pass (is_after p) (members (at (trees_at nodes ids) k)) ≡ true = subst (λ (x : BuildStep). can_make (trees_at nodes ids) x ≡ true) is can in
    let l = length-map ids (tree nodes) in
    let h : k < length (trees_at nodes ids) = ltb-true _ _ (and_first _ _ e) in omega arith

pub can_extend : (nodes : List Node) (ids : List ℕ) (part : BuildStep) (k p : ℕ) → part ≡ kind_of_part.Extend k p → can_make (trees_at nodes ids) part ≡ true → All (ComesAfter p) (members (tree nodes (get_or ids k 0)))
can_extend nodes ids part k p is can =
    let e : nat_lt k (length (trees_at nodes ids)) && all_pass (is_after p) (members (at (trees_at nodes ids) k)) ≡ true = subst (λ (x : BuildStep). can_make (trees_at nodes ids) x ≡ true) is can in
    let inside = extend_inside nodes ids part k p is can in
    subst (λ (t : SetTree). All (ComesAfter p) (members t)) (at_is nodes ids k inside) (after_tells p _ (and_second _ _ e))

pub two_inside : (nodes : List Node) (ids : List ℕ) (a b : ℕ) (more : Bool) → nat_lt a (length (trees_at nodes ids)) && (nat_lt b (length (trees_at nodes ids)) && more) ≡ true → (a < length ids) × (b < length ids) × (more ≡ true)
two_inside nodes ids a b more e =
    let l = length-map ids (tree nodes) in
    let f : nat_lt b (length (trees_at nodes ids)) && more ≡ true = and_second _ _ e in
    (let h : a < length (trees_at nodes ids) = ltb-true _ _ (and_first _ _ e) in omega arith, let h : b < length (trees_at nodes ids) = ltb-true _ _ (and_first _ _ f) in omega arith, and_second _ _ f)

pub can_join : (nodes : List Node) (ids : List ℕ) (part : BuildStep) (a b : ℕ) → part ≡ kind_of_part.Join a b → can_make (trees_at nodes ids) part ≡ true → CanJoin (tree nodes (get_or ids a 0)) (tree nodes (get_or ids b 0))
can_join nodes ids part a b is can =
    let e = subst (λ (x : BuildStep). can_make (trees_at nodes ids) x ≡ true) is can in
    let h = two_inside nodes ids a b _ e in
    rw (← at_is nodes ids a h.0, ← at_is nodes ids b h.1) (join_tells _ _ h.2)

pub can_unite : (nodes : List Node) (ids : List ℕ) (part : BuildStep) (a b : ℕ) → part ≡ kind_of_part.Unite a b → can_make (trees_at nodes ids) part ≡ true → CanUnite (tree nodes (get_or ids a 0)) (tree nodes (get_or ids b 0))
can_unite nodes ids part a b is can =
    let e = subst (λ (x : BuildStep). can_make (trees_at nodes ids) x ≡ true) is can in
    let h = two_inside nodes ids a b _ e in
    rw (← at_is nodes ids a h.0, ← at_is nodes ids b h.1) (unite_tells _ _ h.2)

-- the trees of the parts
pub made_start : (nodes : List Node) (ids : List ℕ) (part : BuildStep) (stamp : Stamp) → part ≡ kind_of_part.Start stamp.pos stamp.clock → made (trees_at nodes ids) part ≡ Start stamp
made_start nodes ids part stamp is = ap (made (trees_at nodes ids)) is

pub made_extend : (nodes : List Node) (ids : List ℕ) (part : BuildStep) (k p : ℕ) → part ≡ kind_of_part.Extend k p → k < length ids → made (trees_at nodes ids) part ≡ Extended p (tree nodes (get_or ids k 0))
made_extend nodes ids part k p is inside = ap (made (trees_at nodes ids)) is ∙ ap (Extended p) (at_is nodes ids k inside)

pub made_join : (nodes : List Node) (ids : List ℕ) (part : BuildStep) (a b : ℕ) → part ≡ kind_of_part.Join a b → can_make (trees_at nodes ids) part ≡ true → made (trees_at nodes ids) part ≡ United (tree nodes (get_or ids a 0)) (tree nodes (get_or ids b 0))
made_join nodes ids part a b is can =
    let h = two_inside nodes ids a b _ (subst (λ (x : BuildStep). can_make (trees_at nodes ids) x ≡ true) is can) in
    rw (← at_is nodes ids a h.0, ← at_is nodes ids b h.1) (ap (made (trees_at nodes ids)) is)

pub made_unite : (nodes : List Node) (ids : List ℕ) (part : BuildStep) (a b : ℕ) → part ≡ kind_of_part.Unite a b → can_make (trees_at nodes ids) part ≡ true → made (trees_at nodes ids) part ≡ united (tree nodes (get_or ids a 0)) (tree nodes (get_or ids b 0))
made_unite nodes ids part a b is can =
    let h = two_inside nodes ids a b _ (subst (λ (x : BuildStep). can_make (trees_at nodes ids) x ≡ true) is can) in
    rw (← at_is nodes ids a h.0, ← at_is nodes ids b h.1) (ap (made (trees_at nodes ids)) is)

-- older ids keep their trees
kept : (old new : List Node) → ((k : ℕ) → k < length old → tree new k ≡ tree old k) → (ids : List ℕ) → All (λ id. id < length old) ids → trees_at new ids ≡ trees_at old ids
kept old new same [] inside = refl
kept old new same (i ∷ is) inside = rw (same i (All-head (λ (id : ℕ). id < length old) i is inside), kept old new same is (All-tail (λ (id : ℕ). id < length old) i is inside)) refl

-- one more node
record OneMore (old new : List Node) (ids : List ℕ) (id : ℕ) (t : SetTree) : Type 0 where
  pub longer : length old ≤ length new
  pub same : (k : ℕ) → k < length old → tree new k ≡ tree old k
  pub has : HasNode new id t
  pub are : AreNodes old ids

trees_more : (old new : List Node) (ids : List ℕ) (id : ℕ) (t : SetTree) → OneMore old new ids id t → trees_at new (ids ++ id ∷ []) ≡ trees_at old ids ++ t ∷ []
trees_more old new ids id t m = map-append (tree new) ids (id ∷ []) ∙ ap (λ ts. ts ++ tree new id ∷ []) (kept old new m.same ids m.are.inside) ∙ ap (λ x. trees_at old ids ++ x ∷ []) m.has.1

nodes_more : (old new : List Node) (ids : List ℕ) (id : ℕ) (t : SetTree) → OneMore old new ids id t → WellFormed new → ((s : Stamp) → Contains new (Bottom s) → Contains old (Bottom s) ⊎ (t ≡ Start s)) → AreNodes new (ids ++ id ∷ [])
nodes_more old new ids id t m w starts = record {
  well_formed = w;
  inside = All-append (λ (i : ℕ). i < length new) ids (id ∷ []) (All-weaker (λ (i : ℕ). i < length old) (λ (i : ℕ). i < length new) (λ i below. let le = m.longer in omega arith) ids m.are.inside) (All-cons (λ (i : ℕ). i < length new) id [] m.has.0 (All-nil (λ (i : ℕ). i < length new)));
  starts = λ s has. subst (λ (ts : List SetTree). Contains ts (Start s)) (sym (trees_more old new ids id t m)) (elim (starts s has) [
    | inl old_start ↦ Contains-append_left (trees_at old ids) (t ∷ []) (Start s) (m.are.starts s old_start)
    | inr new_start ↦ subst (λ (x : SetTree). Contains (trees_at old ids ++ t ∷ []) x) new_start (Contains-push (trees_at old ids) t)
  ]);
}

bottom_more : (old new : List Node) (ids : List ℕ) (id : ℕ) (s : Stamp) → AreNodes old ids → HasNode new id (Start s) → new ≡ old ++ Bottom s ∷ [] → OneMore old new ids id (Start s)
bottom_more old new ids id s are has appended = record { longer = rw appended (omega (arith, length-append old (Bottom s ∷ []))); same = λ k below. rw appended (tree-append old (Bottom s ∷ []) k below); has = has; are = are }

pub bottom_nodes : {E : Type 0} (o : Result ℕ E) (old new : List Node) (ids : List ℕ) (s : Stamp) → AreNodes old ids → IfOk o (λ id. HasNode new id (Start s)) → OnOk o (new ≡ old ++ Bottom s ∷ []) → WellFormed new → IfOk o (λ id. AreNodes new (ids ++ id ∷ []))
bottom_nodes (Ok id) old new ids s are has appended w = nodes_more old new ids id (Start s) (bottom_more old new ids id s are has appended) w (λ t in_new. elim (Contains-push_cases old (Bottom s) (Bottom t) (subst (λ (ns : List Node). Contains ns (Bottom t)) appended in_new)) [ inl there ↦ inl there | inr here ↦ inr (cc) ])
bottom_nodes (Err e) old new ids s are has appended w = tt

pub bottom_trees : {E : Type 0} (o : Result ℕ E) (old new : List Node) (ids : List ℕ) (s : Stamp) (u : SetTree) → u ≡ Start s → AreNodes old ids → IfOk o (λ id. HasNode new id (Start s)) → OnOk o (new ≡ old ++ Bottom s ∷ []) → IfOk o (λ id. trees_at new (ids ++ id ∷ []) ≡ trees_at old ids ++ u ∷ [])
bottom_trees (Ok id) old new ids s u is are has appended = rw is (trees_more old new ids id (Start s) (bottom_more old new ids id s are has appended))
bottom_trees (Err e) old new ids s u is are has appended = tt

grown_more : (old new : List Node) (ids : List ℕ) (id : ℕ) (t : SetTree) → AreNodes old ids → Grows old new → HasNode new id t → OneMore old new ids id t
grown_more old new ids id t are grows has = record { longer = length-grows old new grows; same = tree-grows old new grows; has = has; are = are }

pub grown_nodes : {E : Type 0} (o : Result ℕ E) (old new : List Node) (ids : List ℕ) (t : SetTree) → AreNodes old ids → Grows old new → IfOk o (λ id. HasNode new id t) → IfOk o (λ id. AreNodes new (ids ++ id ∷ []))
grown_nodes (Ok id) old new ids t are grows has = nodes_more old new ids id t (grown_more old new ids id t are grows has) grows.well_formed (λ s in_new. inl (grows.no_new_start s in_new))
grown_nodes (Err e) old new ids t are grows has = tt

pub grown_trees : {E : Type 0} (o : Result ℕ E) (old new : List Node) (ids : List ℕ) (t u : SetTree) → u ≡ t → AreNodes old ids → Grows old new → IfOk o (λ id. HasNode new id t) → IfOk o (λ id. trees_at new (ids ++ id ∷ []) ≡ trees_at old ids ++ u ∷ [])
grown_trees (Ok id) old new ids t u is are grows has = rw is (trees_more old new ids id t (grown_more old new ids id t are grows has))
grown_trees (Err e) old new ids t u is are grows has = tt

-- where the trees of some ids are known, so is each id's
pub tree_known : (nodes : List Node) (ids : List ℕ) (ts : List SetTree) (k : ℕ) → trees_at nodes ids ≡ ts → k < length ts → (k < length ids) × (tree nodes (get_or ids k 0) ≡ at ts k)
tree_known nodes ids ts k e h =
    let l = length-map ids (tree nodes) in
    let same : length (trees_at nodes ids) ≡ length ts = ap length e in
    let inside : k < length ids = omega arith in
    (inside, sym (at_is nodes ids k inside) ∙ ap (λ x. at x k) e)
