-- What is left after all nodes are moved.
use Rattle.std.proofs.Common.{◌≡◌, ℕ, ◌<◌, ◌≤◌, ℤ, Bool, true, false, List, [], ◌∷◌, length, Option, Some, sym, ap, subst, ◌∙◌, arith}
use Rattle.std.specs.Prelude.{Contains, int_le, slice_get, ◌≤ℤ◌}
use Rattle.std.proofs.lemmas.Int.{ints}
use Rattle.std.proofs.lemmas.Option.{slice_get_within}
use Rattle.std.proofs.lemmas.List.Elements.{All-nil, All-cons, All-contains}
use Rattle.cer_base.specs.declared.node.Stamp.{Stamp}
use Rattle.cer_base.specs.declared.node.Node.{Node}
use Rattle.cer_base.specs.declared.node.Node.TheVariants.{Output, Union}
use Rattle.cer_base.specs.Members.{newest}
use Rattle.cer_base.specs.Nodes.{tree, WellFormed}
use Rattle.cer_base.proofs.Walks.{test_passes, test_tells}
use Rattle.arena_compact.specs.Marks.{Needs, low_of, IsKept, IsKeptFrom, AreNodeMarks}
use Rattle.arena_compact.specs.Moves.{MovesTo, Follows, AtOutput, AtUnion, AtLeft, Moved}
use Rattle.arena_compact.proofs.Pruned.{newest-pruned}

-- The node has a place that is needed from the clock on.
pub record IsReached (low : ℤ) (new : List Node) (table : List (Option ℕ)) (roots : List ℕ) (id : ℕ) : Type 0 where
  pub place : ℕ
  pub gives : MovesTo table id place
  pub needs : Needs low new roots place

reached_child : (own low : ℤ) (new : List Node) (table : List (Option ℕ)) (roots : List ℕ) (f p c k : ℕ) (m : Stamp) → Follows own table new f (Output p c m k) → Needs low new roots f → IsReached low new table roots c
reached_child own low new table roots f _ _ _ _ (AtOutput p c k g j m t h) r = record { place = g; gives = t; needs = Needs.Child f p g j m h r }

reached_left : (own low : ℤ) (new : List Node) (table : List (Option ℕ)) (roots : List ℕ) (f l r k : ℕ) (m q : Stamp) → Follows own table new f (Union l r k m q) → Needs low new roots f → IsReached low new table roots l
reached_left own low new table roots f _ _ _ _ _ (AtUnion l r k a b j m q e s t h) x = record { place = a; gives = s; needs = Needs.Left f a b j m q h x }
reached_left own low new table roots f _ _ _ _ _ (AtLeft l r k m q e t) x = record { place = f; gives = t; needs = x }

reached_right : (own low : ℤ) (new : List Node) (table : List (Option ℕ)) (roots : List ℕ) (f l r k : ℕ) (m q : Stamp) → Follows own table new f (Union l r k m q) → int_le own q.clock ≡ true → int_le low q.clock ≡ true → Needs low new roots f → IsReached low new table roots r
reached_right own low new table roots f _ _ _ _ _ (AtUnion l r k a b j m q e s t h) mine test x = record { place = b; gives = t; needs = Needs.Right f a b j m q h test x }
reached_right own low new table roots f _ _ _ _ _ (AtLeft l r k m q e t) mine test x = absurd cc

-- what is needed by one of some nodes is needed by these
pub needs_within : (low : ℤ) (nodes : List Node) (roots more : List ℕ) → ((id : ℕ) → Contains roots id → Contains more id) → (id : ℕ) → Needs low nodes roots id → Needs low nodes more id
needs_within low nodes roots more all _ (Needs.Root id has) = Needs.Root id (all id has)
needs_within low nodes roots more all _ (Needs.Child id p c k m is r) = Needs.Child id p c k m is (needs_within low nodes roots more all id r)
needs_within low nodes roots more all _ (Needs.Left id l r k m q is x) = Needs.Left id l r k m q is (needs_within low nodes roots more all id x)
needs_within low nodes roots more all _ (Needs.Right id l r k m q is test x) = Needs.Right id l r k m q is test (needs_within low nodes roots more all id x)

-- the one element of a list
pub alone : {A : Type 0} (x y : A) → Contains (x ∷ []) y → y ≡ x
alone x y has = All-contains (λ z. z ≡ x) (x ∷ []) y (All-cons (λ z. z ≡ x) x [] (λ j. x) (All-nil (λ z. z ≡ x))) has

module _ (old : List Node) (lows : List ℤ) (marks : List (Option ℕ)) (roots : List (ℕ × ℤ)) (m : AreNodeMarks old roots 0 marks lows) where
  -- the node is kept from an earlier clock on too
  later : (low more : ℤ) (id : ℕ) → low ≤ℤ more → IsKeptFrom marks lows low id → IsKeptFrom marks lows more id
  later low more id le k = record { kept = k.kept; upto = (let upto = k.upto in omega (arith, ints)) }

  passes : (low : ℤ) (id : ℕ) (clock : ℤ) → IsKeptFrom marks lows low id → int_le low clock ≡ true → int_le (low_of lows id) clock ≡ true
  passes low id clock k test = let le = test_tells low clock test in let upto = k.upto in test_passes (low_of lows id) clock (omega (arith, ints))

  -- what is needed from a clock on by nodes that are kept from it on is kept from it on
  pub kept_along : (low : ℤ) (xs : List ℕ) → ((id : ℕ) → Contains xs id → IsKeptFrom marks lows low id) → (id : ℕ) → Needs low old xs id → IsKeptFrom marks lows low id
  kept_along low xs at _ (Needs.Root id has) = at id has
  kept_along low xs at _ (Needs.Child id p c k s is r) =
      let here = kept_along low xs at id r in
      later (low_of lows id) low c here.upto (m.closed id (Output p c s k) (omega arith) is here.kept)
  kept_along low xs at _ (Needs.Left id l r k s q is x) =
      let here = kept_along low xs at id x in
      later (low_of lows id) low l here.upto (m.closed id (Union l r k s q) (omega arith) is here.kept).0
  kept_along low xs at _ (Needs.Right id l r k s q is test x) =
      let here = kept_along low xs at id x in
      later (low_of lows id) low r here.upto ((m.closed id (Union l r k s q) (omega arith) is here.kept).1 (passes low id q.clock here test))

  module _ (new : List Node) (table : List (Option ℕ)) (w : WellFormed old) (h : Moved lows old marks (length old) new table) where
    -- and it is needed at its new place
    pub reached : (low : ℤ) (xs ys : List ℕ) → ((id : ℕ) → Contains xs id → IsKeptFrom marks lows low id) → ((id : ℕ) → Contains xs id → IsReached low new table ys id) → (id : ℕ) → Needs low old xs id → IsReached low new table ys id
    reached low xs ys kept at _ (Needs.Root id has) = at id has
    reached low xs ys kept at _ (Needs.Child id p c k s is r) =
        let was = reached low xs ys kept at id r in
        reached_child (low_of lows id) low new table ys was.place p c k s (h.follows id was.place (Output p c s k) (slice_get_within old id (Output p c s k) is) is was.gives) was.needs
    reached low xs ys kept at _ (Needs.Left id l r k s q is x) =
        let was = reached low xs ys kept at id x in
        reached_left (low_of lows id) low new table ys was.place l r k s q (h.follows id was.place (Union l r k s q) (slice_get_within old id (Union l r k s q) is) is was.gives) was.needs
    reached low xs ys kept at _ (Needs.Right id l r k s q is test x) =
        let was = reached low xs ys kept at id x in
        reached_right (low_of lows id) low new table ys was.place l r k s q (h.follows id was.place (Union l r k s q) (slice_get_within old id (Union l r k s q) is) is was.gives) (passes low id q.clock (kept_along low xs kept id x) test) test was.needs

    -- so every node that is left is needed from its clock on by the new place of a root, and recent
    pub all_reached : (new_roots : List (ℕ × ℤ)) → ((root : ℕ) (low : ℤ) → Contains roots (root, low) → (y : ℕ) × MovesTo table root y × Contains new_roots (y, low)) → (j : ℕ) → j < length new → (root : ℕ) × (low : ℤ) × (y : ℕ) × Contains roots (root, low) × Contains new_roots (y, low) × Needs low new (y ∷ []) j × (low ≤ℤ (newest (tree new j)).clock)
    all_reached new_roots at j lt =
        let o = h.onto j lt in
        let low = low_of lows o.0 in
        let n = m.needed o.0 o.2 in
        let y = at n.root low n.among in
        let kept : (id : ℕ) → Contains (n.root ∷ []) id → IsKeptFrom marks lows low id = λ id has. subst (λ (x : ℕ). IsKeptFrom marks lows low x) (sym (alone n.root id has)) (All-contains (λ (r : ℕ × ℤ). IsKeptFrom marks lows r.1 r.0) roots (n.root, low) m.rooted n.among) in
        let start : (id : ℕ) → Contains (n.root ∷ []) id → IsReached low new table (y.0 ∷ []) id = λ id has. record { place = y.0; gives = subst (λ (x : ℕ). MovesTo table x y.0) (sym (alone n.root id has)) y.1; needs = Needs.Root y.0 (0, omega arith, λ i. y.0) } in
        let is = reached low (n.root ∷ []) (y.0 ∷ []) kept start o.0 n.needs in
        let same : is.place ≡ j = let e : Some is.place ≡ Some j = sym is.gives.gives ∙ o.3.gives in cc in
        let tops : newest (tree new j) ≡ newest (tree old o.0) = newest-pruned low (tree old o.0) (tree new j) (h.trees o.0 j o.1 o.3) (w.well_formed_tree o.0 o.1) in
        (n.root, low, y.0, n.among, y.2, subst (Needs low new (y.0 ∷ [])) same is.needs, subst (λ (s : Stamp). low ≤ℤ s.clock) (sym tops) (m.recent o.0 o.2))
