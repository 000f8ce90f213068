-- The trees of a store, as it grows and is cut. For callers of the crate too.
use Rattle.std.proofs.Common.{◌≡◌, ◌≢◌, ℕ, zero, suc, ◌+◌, ◌<◌, ◌≤◌, List, [], ◌∷◌, ◌++◌, length, take, reverse, refl, sym, ap, subst, ◌∙◌, ◌⊎◌, inl, inr, Some, arith, length-append, eq-eqb, get_or, pos, max, append_assoc, All, Result, Ok, Err, OnOk, OnErr, IfOk}
use Rattle.std.specs.Prelude.{slice_get, ℤ, ◌≤ℤ◌, Contains}
use Rattle.std.proofs.lemmas.Int.{ints}
use Rattle.std.proofs.lemmas.List.{append-nil, reverse-append, length-reverse, reverse-reverse}
use Rattle.std.proofs.lemmas.Bool.{ne_eqb, cases_lt, le-leb}
use Rattle.std.proofs.lemmas.List.Elements.{Contains-push_cases, Contains-append_left}
use Rattle.std.proofs.lemmas.Option.{slice_get_within, slice_get-get_or}
use Rattle.std.proofs.Math.Seq.{take-append_seam}
use Rattle.cer_base.specs.declared.node.Stamp.{Stamp}
use Rattle.cer_base.specs.declared.node.Node.{Node}
use Rattle.cer_base.specs.declared.node.Node.TheVariants.{Bottom, Output, Union}
use Rattle.cer_base.specs.Members.{SetTree, Extended, United, IsWellFormedTree, newest, need, members, ComesAfter}
use Rattle.cer_base.specs.Fields.{max_of, need_of}
use Rattle.cer_base.specs.Nodes.{grown, tree_in, tree, HasTrueFields, AreInStep, WellFormed, Grows, HasNode}

pub newest-left : (l r : SetTree) → (newest r).pos ≤ (newest l).pos → newest (United l r) ≡ newest l
newest-left l r h = rw (le-leb (newest r).pos (newest l).pos h) refl

-- older nodes keep their trees, whatever comes after them
older_keep : (newer older : List Node) (id : ℕ) → id < length older → tree_in (newer ++ older) id ≡ tree_in older id
older_keep [] older id h = refl
older_keep (n ∷ ns) older id h =
    let other : id ≢ length (ns ++ older) = omega (arith, length-append ns older) in
    rw (ne_eqb id (length (ns ++ older)) other) (older_keep ns older id h)

pub tree-append : (xs ys : List Node) (id : ℕ) → id < length xs → tree (xs ++ ys) id ≡ tree xs id
unfolding tree
tree-append xs ys id h = rw reverse-append (older_keep (reverse ys) (reverse xs) id (rw length-reverse h))

pub tree-push : (xs : List Node) (n : Node) → tree (xs ++ n ∷ []) (length xs) ≡ grown (tree xs) n
unfolding tree
tree-push xs n = rw (reverse-append, length-reverse, eq-eqb (length xs) (length xs) refl) refl

-- a node's tree depends on its children's alone
pub grown-agree : (f g at : ℕ → SetTree) (id : ℕ) (n : Node) → HasTrueFields at id n → ((k : ℕ) → k < id → f k ≡ g k) → grown f n ≡ grown g n
grown-agree f g at id (Bottom s) t e = refl
grown-agree f g at id (Output p c m k) t e = ap (Extended p) (e c t.0)
grown-agree f g at id (Union l r k m q) t e = ap (λ x. United x (f r)) (e l t.0) ∙ ap (United (g l)) (e r t.1)

slice_get-push : (xs : List Node) (m n : Node) (id : ℕ) → slice_get (xs ++ m ∷ []) id ≡ Some n → ((id < length xs) × (slice_get xs id ≡ Some n)) ⊎ ((id ≡ length xs) × (m ≡ n))
slice_get-push [] m n zero h = inr (refl, cc)
slice_get-push [] m n (suc id) h = absurd cc
slice_get-push (x ∷ xs) m n zero h = inl (omega arith, h)
slice_get-push (x ∷ xs) m n (suc id) h = elim (slice_get-push xs m n id h) [ inl w ↦ inl (omega arith, w.1) | inr w ↦ inr (omega arith, w.1) ]

-- a node's tree is made of its children's
older_at : (older : List Node) (id : ℕ) (n : Node) (at : ℕ → SetTree) → slice_get (reverse older) id ≡ Some n → HasTrueFields at id n → tree_in older id ≡ grown (tree_in older) n
older_at [] id n at h t = absurd cc
older_at (m ∷ older) id n at h t =
    elim (slice_get-push (reverse older) m n id (rw (reverse-append (m ∷ []) older) at h)) [
      | inl w ↦
          let inside : id < length older = rw length-reverse at w.0 in
          let other : id ≢ length older = omega arith in
          rw (ne_eqb id (length older) other) (older_at older id n at w.1 t ∙ grown-agree _ _ at id n t (λ k below. sym (older_keep (m ∷ []) older k (omega arith))))
      | inr w ↦
          let last : id ≡ length older = w.0 ∙ length-reverse older in
          rw (eq-eqb id (length older) last) (ap (grown (tree_in older)) w.1 ∙ grown-agree _ _ at id n t (λ k below. sym (older_keep (m ∷ []) older k (omega arith))))
    ]

pub tree-at : (nodes : List Node) → WellFormed nodes → (id : ℕ) (n : Node) → slice_get nodes id ≡ Some n → tree nodes id ≡ grown (tree nodes) n
unfolding tree
tree-at nodes w id n h = older_at (reverse nodes) id n (tree nodes) (rw reverse-reverse h) (w.true_fields id n h)

HasTrueFields-agree : (f g : ℕ → SetTree) (id : ℕ) (n : Node) → ((k : ℕ) → k < id → f k ≡ g k) → HasTrueFields f id n → HasTrueFields g id n
HasTrueFields-agree f g id (Bottom s) e t = tt
HasTrueFields-agree f g id (Output p c m k) e t = let same = e c t.0 in (t.0, rw (← same) t.1, rw (← same) t.2)
HasTrueFields-agree f g id (Union l r k m q) e t = let one = e l t.0 in let two = e r t.1 in (t.0, t.1, rw (← one, ← two) t.2, rw (← two) t.3, rw (← one, ← two) t.4)

-- a node that tells what its tree has, and whose tree is well-formed, keeps the store well-formed
pub well_formed-push : (nodes : List Node) (n : Node) → WellFormed nodes → HasTrueFields (tree nodes) (length nodes) n → IsWellFormedTree (grown (tree nodes) n) → AreInStep (nodes ++ n ∷ []) → WellFormed (nodes ++ n ∷ [])
well_formed-push nodes n w true_fields well_formed_tree step = record {
  true_fields = λ id m at. elim (slice_get-push nodes n m id at) [
    | inl o ↦ HasTrueFields-agree (tree nodes) _ id m (λ k below. sym (tree-append nodes (n ∷ []) k (omega arith))) (w.true_fields id m o.1)
    | inr o ↦ HasTrueFields-agree (tree nodes) _ id m (λ k below. sym (tree-append nodes (n ∷ []) k (omega arith))) (subst (λ (i : ℕ). HasTrueFields (tree nodes) i m) (sym o.0) (subst (λ (x : Node). HasTrueFields (tree nodes) (length nodes) x) o.1 true_fields))
  ];
  well_formed_tree = λ id inside. elim (cases_lt id (length nodes)) [
    | inl lt ↦ rw (tree-append nodes (n ∷ []) id lt) (w.well_formed_tree id lt)
    | inr ge ↦ let last : id ≡ length nodes = omega (arith, length-append nodes (n ∷ [])) in rw (last, tree-push nodes n) well_formed_tree
  ];
  in_step = step;
}

-- A store without a new bottom is in step where the old one was.
pub in_step-push : (nodes : List Node) (n : Node) → ((s : Stamp) → n ≡ Bottom s → ⊥) → AreInStep nodes → AreInStep (nodes ++ n ∷ [])
in_step-push nodes n other h s t has_s has_t le =
    elim (Contains-push_cases nodes n (Bottom s) has_s) [
      | inl a ↦ elim (Contains-push_cases nodes n (Bottom t) has_t) [ inl b ↦ h s t a b le | inr b ↦ absurd (other t b) ]
      | inr a ↦ absurd (other s a)
    ]

-- A store with a new bottom is in step where all its starts come before the new one.
pub in_step-bottom : (nodes : List Node) (t : Stamp) → AreInStep nodes → ((s : Stamp) → Contains nodes (Bottom s) → (s.pos < t.pos) × (s.clock ≤ℤ t.clock)) → AreInStep (nodes ++ Bottom t ∷ [])
in_step-bottom nodes t step before a b has_a has_b le =
    elim (Contains-push_cases nodes (Bottom t) (Bottom a) has_a) [
      | inl old_a ↦ elim (Contains-push_cases nodes (Bottom t) (Bottom b) has_b) [
        | inl old_b ↦ step a b old_a old_b le
        | inr new_b ↦ let same : t ≡ b = cc in subst (λ (x : Stamp). a.clock ≤ℤ x.clock) same (before a old_a).1
      ]
      | inr new_a ↦
          let first : t ≡ a = cc in
          elim (Contains-push_cases nodes (Bottom t) (Bottom b) has_b) [
            | inl old_b ↦ absurd (let h = (before b old_b).0 in let e = ap (λ (x : Stamp). x.pos) first in omega arith)
            | inr new_b ↦ let second : t ≡ b = cc in let same = ap (λ (x : Stamp). x.clock) (sym first ∙ second) in subst (λ (z : ℤ). a.clock ≤ℤ z) same (omega (arith, ints))
          ]
    ]

slice_get-front : (xs ys : List Node) (id : ℕ) (n : Node) → slice_get xs id ≡ Some n → slice_get (xs ++ ys) id ≡ Some n
slice_get-front [] ys id n h = absurd cc
slice_get-front (x ∷ xs) ys zero n h = h
slice_get-front (x ∷ xs) ys (suc id) n h = slice_get-front xs ys id n h

-- Cut short, a store stays well-formed.
pub well_formed-front : (xs ys : List Node) → WellFormed (xs ++ ys) → WellFormed xs
well_formed-front xs ys w = record {
  true_fields = λ id n at. let inside : id < length xs = slice_get_within xs id n at in HasTrueFields-agree (tree (xs ++ ys)) _ id n (λ k below. tree-append xs ys k (omega arith)) (w.true_fields id n (slice_get-front xs ys id n at));
  well_formed_tree = λ id inside. rw (← tree-append xs ys id inside) (w.well_formed_tree id (omega (arith, length-append xs ys)));
  in_step = λ s t a b le. w.in_step s t (Contains-append_left xs ys _ a) (Contains-append_left xs ys _ b) le;
}

-- what holds of a node where it holds of all older ones holds of each node
by_fuel : (nodes : List Node) → WellFormed nodes → (P : ℕ → SetTree → Type 0) → ((id : ℕ) (n : Node) → slice_get nodes id ≡ Some n → HasTrueFields (tree nodes) id n → ((c : ℕ) → c < id → P c (tree nodes c)) → P id (grown (tree nodes) n)) → (k id : ℕ) → id < k → id < length nodes → P id (tree nodes id)
by_fuel nodes w P step zero id below inside = absurd (omega arith)
by_fuel nodes w P step (suc k) id below inside =
    let n : Node = get_or nodes id (Bottom (record { pos = 0; clock = pos 0 })) in
    let at : slice_get nodes id ≡ Some n = slice_get-get_or nodes id (Bottom (record { pos = 0; clock = pos 0 })) inside in
    rw (tree-at nodes w id n at) (step id n at (w.true_fields id n at) (λ c older. by_fuel nodes w P step k c (omega arith) (omega arith)))

pub by_older : (nodes : List Node) → WellFormed nodes → (P : ℕ → SetTree → Type 0) → ((id : ℕ) (n : Node) → slice_get nodes id ≡ Some n → HasTrueFields (tree nodes) id n → ((c : ℕ) → c < id → P c (tree nodes c)) → P id (grown (tree nodes) n)) → (id : ℕ) → id < length nodes → P id (tree nodes id)
by_older nodes w P step id inside = by_fuel nodes w P step (suc id) id (omega arith) inside

pub Grows-refl : (nodes : List Node) → WellFormed nodes → Grows nodes nodes
Grows-refl nodes w = record { more = []; appended = sym (append-nil nodes); well_formed = w; no_new_start = λ s h. h }

pub Grows-trans : (a b c : List Node) → Grows a b → Grows b c → Grows a c
Grows-trans a b c g h = record {
  more = g.more ++ h.more;
  appended = h.appended ∙ ap (λ x. x ++ h.more) g.appended ∙ append_assoc a g.more h.more;
  well_formed = h.well_formed;
  no_new_start = λ s has. g.no_new_start s (h.no_new_start s has);
}

-- older nodes keep their trees as a store grows
pub tree-grows : (old new : List Node) → Grows old new → (id : ℕ) → id < length old → tree new id ≡ tree old id
tree-grows old new g id inside = rw g.appended (tree-append old g.more id inside)

pub length-grows : (old new : List Node) → Grows old new → length old ≤ length new
length-grows old new g = let e = ap length g.appended in omega (arith, simp length-append at e)

Grows-push : (nodes : List Node) (n : Node) → WellFormed nodes → ((s : Stamp) → n ≡ Bottom s → ⊥) → HasTrueFields (tree nodes) (length nodes) n → IsWellFormedTree (grown (tree nodes) n) → Grows nodes (nodes ++ n ∷ [])
Grows-push nodes n w other true_fields well_formed_tree = record {
  more = n ∷ [];
  appended = refl;
  well_formed = well_formed-push nodes n w true_fields well_formed_tree (in_step-push nodes n other w.in_step);
  no_new_start = λ s has. elim (Contains-push_cases nodes n (Bottom s) has) [ inl a ↦ a | inr a ↦ absurd (other s a) ];
}

HasNode-push : (nodes : List Node) (n : Node) → HasNode (nodes ++ n ∷ []) (length nodes) (grown (tree nodes) n)
HasNode-push nodes n = (omega (arith, length-append nodes (n ∷ [])), tree-push nodes n)

pub output-grows : (nodes : List Node) (p c k : ℕ) (m : Stamp) → WellFormed nodes → c < length nodes → m ≡ newest (tree nodes c) → k ≡ need (tree nodes c) + 1 → All (ComesAfter p) (members (tree nodes c)) → Grows nodes (nodes ++ Output p c m k ∷ [])
output-grows nodes p c k m w inside is_max is_need after = Grows-push nodes (Output p c m k) w (λ s e. cc) (inside, is_max, is_need) (w.well_formed_tree c inside, after)

pub union-grows : (nodes : List Node) (l r k : ℕ) (m q : Stamp) → WellFormed nodes → l < length nodes → r < length nodes → m ≡ newest (tree nodes l) → q ≡ newest (tree nodes r) → k ≡ max (need (tree nodes l) + 1) (need (tree nodes r)) → IsWellFormedTree (United (tree nodes l) (tree nodes r)) → Grows nodes (nodes ++ Union l r k m q ∷ [])
union-grows nodes l r k m q w in_l in_r is_max is_right is_need well_formed_tree = Grows-push nodes (Union l r k m q) w (λ s e. cc) (in_l, in_r, is_max ∙ sym (newest-left (tree nodes l) (tree nodes r) well_formed_tree.2.ordered), is_right, is_need) well_formed_tree

-- what a node's fields say of its tree
HasTrueFields-max : (at : ℕ → SetTree) (id : ℕ) (n : Node) → HasTrueFields at id n → max_of n ≡ newest (grown at n)
HasTrueFields-max at id (Bottom s) t = refl
HasTrueFields-max at id (Output p c m k) t = t.1
HasTrueFields-max at id (Union l r k m q) t = t.2

HasTrueFields-need : (at : ℕ → SetTree) (id : ℕ) (n : Node) → HasTrueFields at id n → need_of n ≡ need (grown at n)
HasTrueFields-need at id (Bottom s) t = refl
HasTrueFields-need at id (Output p c m k) t = t.2
HasTrueFields-need at id (Union l r k m q) t = t.4

pub max-tree : (nodes : List Node) → WellFormed nodes → (id : ℕ) (n : Node) → slice_get nodes id ≡ Some n → max_of n ≡ newest (tree nodes id)
max-tree nodes w id n at = HasTrueFields-max (tree nodes) id n (w.true_fields id n at) ∙ ap newest (sym (tree-at nodes w id n at))

pub need-tree : (nodes : List Node) → WellFormed nodes → (id : ℕ) (n : Node) → slice_get nodes id ≡ Some n → need_of n ≡ need (tree nodes id)
need-tree nodes w id n at = HasTrueFields-need (tree nodes) id n (w.true_fields id n at) ∙ ap need (sym (tree-at nodes w id n at))

-- what a push leaves, done or refused
pub pushed-grows : {E : Type 0} (r : Result ℕ E) (old new : List Node) (n : Node) → OnOk r (new ≡ old ++ n ∷ []) → OnErr r (new ≡ old) → WellFormed old → Grows old (old ++ n ∷ []) → Grows old new
pushed-grows (Ok id) old new n ok err w g = let P : List Node → Type 0 = Grows old in subst P (sym ok) g
pushed-grows (Err e) old new n ok err w g = let P : List Node → Type 0 = Grows old in subst P (sym err) (Grows-refl old w)

pub pushed-node : {E : Type 0} (r : Result ℕ E) (old new : List Node) (n : Node) → IfOk r (λ id. id ≡ length old) → OnOk r (new ≡ old ++ n ∷ []) → IfOk r (λ id. HasNode new id (grown (tree old) n))
pushed-node (Ok id) old new n at ok = rw (ok, at) (HasNode-push old n)
pushed-node (Err e) old new n at ok = tt

pub pushed-bottom : {E : Type 0} (r : Result ℕ E) (old new : List Node) (s : Stamp) → OnOk r (new ≡ old ++ Bottom s ∷ []) → OnErr r (new ≡ old) → WellFormed old → AreInStep (old ++ Bottom s ∷ []) → WellFormed new
pushed-bottom (Ok id) old new s ok err w step = rw ok (well_formed-push old (Bottom s) w tt tt step)
pushed-bottom (Err e) old new s ok err w step = rw err w

-- cut to its old length, a store is as it was
pub cut-grows : (old new : List Node) → Grows old new → take (length old) new ≡ old
cut-grows old new g = ap (take (length old)) g.appended ∙ take-append_seam old g.more
