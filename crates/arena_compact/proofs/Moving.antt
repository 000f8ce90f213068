-- One node is moved.
use Rattle.std.proofs.Common.{◌≡◌, ◌≢◌, ℕ, zero, suc, ◌+◌, ◌<◌, ◌≤◌, ℤ, cond, List, [], ◌∷◌, ◌++◌, length, take, set, get_or, Option, Some, None, refl, sym, ap, subst, ◌∙◌, ◌⊎◌, inl, inr, arith, length-append, length-set}
use Rattle.std.specs.Prelude.{slice_get, Contains, nat_le}
use Rattle.std.proofs.lemmas.List.{get_or-set_same, get_or-set_other, take_more}
use Rattle.std.proofs.lemmas.List.Sums.{sum_by-append}
use Rattle.std.proofs.lemmas.Bool.{cases_lt, cases_Bool}
use Rattle.std.proofs.lemmas.Option.{slice_get_within, get_or_from_slice_get}
use Rattle.cer_base.specs.declared.node.Stamp.{Stamp}
use Rattle.cer_base.specs.declared.node.Node.{Node}
use Rattle.cer_base.specs.declared.node.Node.TheVariants.{Bottom, Output, Union}
use Rattle.cer_base.specs.Fields.{max_of}
use Rattle.cer_base.specs.Nodes.{tree, WellFormed}
use Rattle.cer_base.proofs.Trees.{tree-append}
use Rattle.arena_compact.specs.Pruned.{IsPruned}
use Rattle.arena_compact.specs.Marks.{IsKept, low_of}
use Rattle.arena_compact.specs.Moves.{later, MovesTo, Follows, AtBottom, AtOutput, AtUnion, AtLeft, Moved}

-- one id below i + 1: below i, or i
id_cases : (id i : ℕ) → id < i + 1 → (id < i) ⊎ (id ≡ i)
id_cases id i lt = elim (cases_lt id i) [ inl less ↦ inl less | inr more ↦ inr (omega arith) ]

gives_set_other : (table : List (Option ℕ)) (i id f : ℕ) (v : Option ℕ) → id ≢ i → MovesTo (set table i v) id f → MovesTo table id f
gives_set_other table i id f v other g = record { gives = sym (get_or-set_other table i id v None other) ∙ g.gives }

pub gives_kept_other : (table : List (Option ℕ)) (i id f : ℕ) (v : Option ℕ) → id ≢ i → MovesTo table id f → MovesTo (set table i v) id f
gives_kept_other table i id f v other g = record { gives = get_or-set_other table i id v None other ∙ g.gives }

slice_get_front : (xs ys : List Node) (id : ℕ) (n : Node) → slice_get xs id ≡ Some n → slice_get (xs ++ ys) id ≡ Some n
slice_get_front [] ys id n h = absurd cc
slice_get_front (x ∷ xs) ys zero n h = h
slice_get_front (x ∷ xs) ys (suc id) n h = slice_get_front xs ys id n h

pub slice_get_last : (xs : List Node) (n : Node) → slice_get (xs ++ n ∷ []) (length xs) ≡ Some n
slice_get_last [] n = refl
slice_get_last (x ∷ xs) n = slice_get_last xs n

-- what stands at a place goes on standing there, as nodes and places are added
follows_on : (low : ℤ) (table : List (Option ℕ)) (old new more : List Node) (i id f : ℕ) (v : Option ℕ) (n : Node) → WellFormed old → id ≤ i → slice_get old id ≡ Some n → Follows low table new f n → Follows low (set table i v) (new ++ more) f n
follows_on low table old new more i id f v n w le at (AtBottom s h) = AtBottom s (slice_get_front new more f (Bottom s) h)
follows_on low table old new more i id f v n w le at (AtOutput p c k g j m t h) = let true_fields = w.true_fields id (Output p c m k) at in let older = true_fields.0 in AtOutput p c k g j m (gives_kept_other table i c g v (omega arith) t) (slice_get_front new more f (Output p g m j) h)
follows_on low table old new more i id f v n w le at (AtUnion l r k a b j m q e s t h) = let true_fields = w.true_fields id (Union l r k m q) at in let older_l = true_fields.0 in let older_r = true_fields.1 in AtUnion l r k a b j m q e (gives_kept_other table i l a v (omega arith) s) (gives_kept_other table i r b v (omega arith) t) (slice_get_front new more f (Union a b j m q) h)
follows_on low table old new more i id f v n w le at (AtLeft l r k m q e t) = let true_fields = w.true_fields id (Union l r k m q) at in let older_l = true_fields.0 in AtLeft l r k m q e (gives_kept_other table i l f v (omega arith) t)

pub later_push : (p : ℕ) (xs : List Node) (n : Node) → later p (xs ++ n ∷ []) ≡ later p xs + later p (n ∷ [])
later_push p xs n = sum_by-append (λ (m : Node). cond (nat_le p (max_of m).pos) 1 0) xs (n ∷ [])

pub later_same : (p : ℕ) (m n : Node) → max_of m ≡ max_of n → later p (m ∷ []) ≡ later p (n ∷ [])
later_same p m n e = elim (cases_Bool (nat_le p (max_of m).pos)) [
  | inl pass ↦ rw (pass, sym (ap (λ (s : Stamp). nat_le p s.pos) e) ∙ pass) refl
  | inr fail ↦ rw (fail, sym (ap (λ (s : Stamp). nat_le p s.pos) e) ∙ fail) refl
]

take_next : (xs : List Node) (i : ℕ) (n : Node) → slice_get xs i ≡ Some n → take (i + 1) xs ≡ take i xs ++ n ∷ []
take_next xs i n h = take_more xs i n (slice_get_within xs i n h) ∙ ap (λ m. take i xs ++ m ∷ []) (get_or_from_slice_get xs i n n h)

-- no node is moved yet
pub moved_none : (lows : List ℤ) (old : List Node) (marks : List (Option ℕ)) → Moved lows old marks 0 [] marks
moved_none lows old marks = record {
  few = omega arith;
  long = refl;
  well_formed = record { true_fields = λ id n h. absurd (cc); well_formed_tree = λ id lt. absurd (omega arith); in_step = λ s t a b le. absurd (let h = a.1 in omega arith) };
  ahead = λ id le. refl;
  kept = λ id lt k. absurd (omega arith);
  inside = λ id f lt g. absurd (omega arith);
  trees = λ id f lt g. absurd (omega arith);
  follows = λ id f n lt at g. absurd (omega arith);
  onto = λ j lt. absurd (omega arith);
  no_new_start = λ s a. absurd (let h = a.1 in omega arith);
  fewer_later = λ p. omega arith;
}

-- a node that is not kept
pub moved_over : (lows : List ℤ) (old : List Node) (marks : List (Option ℕ)) (i : ℕ) (new : List Node) (table : List (Option ℕ)) (n : Node) → Moved lows old marks i new table → slice_get old i ≡ Some n → get_or table i None ≡ None → Moved lows old marks (i + 1) new table
moved_over lows old marks i new table n h at none =
    let gone : (id f : ℕ) → id ≡ i → MovesTo table id f → ⊥ = λ id f same g. let e : get_or table i None ≡ Some f = ap (λ k. get_or table k None) (sym same) ∙ g.gives in cc in
    let unmarked : (id : ℕ) → id ≡ i → IsKept marks id → ⊥ = λ id same k. let e : get_or table i None ≡ Some k.place = h.ahead i (omega arith) ∙ ap (λ j. get_or marks j None) (sym same) ∙ k.here in cc in
    record {
      few = let few = h.few in omega arith;
      long = h.long;
      well_formed = h.well_formed;
      ahead = λ id le. h.ahead id (omega arith);
      kept = λ id lt k. elim (id_cases id i lt) [ inl less ↦ h.kept id less k | inr same ↦ absurd (unmarked id same k) ];
      inside = λ id f lt g. elim (id_cases id i lt) [ inl less ↦ h.inside id f less g | inr same ↦ absurd (gone id f same g) ];
      trees = λ id f lt g. elim (id_cases id i lt) [ inl less ↦ h.trees id f less g | inr same ↦ absurd (gone id f same g) ];
      follows = λ id f m lt here g. elim (id_cases id i lt) [ inl less ↦ h.follows id f m less here g | inr same ↦ absurd (gone id f same g) ];
      onto = λ j lt. let o = h.onto j lt in (o.0, (let less = o.1 in omega arith), o.2, o.3);
      no_new_start = h.no_new_start;
      fewer_later = λ p. let a = h.fewer_later p in let e : later p (take (i + 1) old) ≡ later p (take i old) + later p (n ∷ []) = ap (later p) (take_next old i n at) ∙ later_push p (take i old) n in omega arith;
    }

-- What moving a kept node adds: some nodes, of which its place is one, or none.
pub record Adds (low : ℤ) (old : List Node) (i : ℕ) (new more : List Node) (table : List (Option ℕ)) (n : Node) (f : ℕ) : Type 0 where
  pub few : length more ≤ 1
  pub well_formed : WellFormed (new ++ more)
  pub inside : f < length (new ++ more)
  pub tree : IsPruned low (tree old i) (tree (new ++ more) f)
  pub follows : Follows low (set table i (Some f)) (new ++ more) f n
  pub onto : (j : ℕ) → length new ≤ j → j < length (new ++ more) → j ≡ f
  pub no_new_start : (s : Stamp) → Contains (new ++ more) (Bottom s) → Contains old (Bottom s)
  pub fewer_later : (p : ℕ) → later p (new ++ more) ≤ later p new + later p (n ∷ [])

-- a kept node
pub moved_on : (lows : List ℤ) (old : List Node) (marks : List (Option ℕ)) (i : ℕ) (new more : List Node) (table : List (Option ℕ)) (n : Node) (f : ℕ) → WellFormed old → Moved lows old marks i new table → slice_get old i ≡ Some n → IsKept marks i → i < length table → Adds (low_of lows i) old i new more table n f → Moved lows old marks (i + 1) (new ++ more) (set table i (Some f))
moved_on lows old marks i new more table n f w h at marked room a =
    let is_f : (id g : ℕ) → id ≡ i → MovesTo (set table i (Some f)) id g → g ≡ f = λ id g same gives. let e : Some g ≡ Some f = sym gives.gives ∙ ap (λ k. get_or (set table i (Some f)) k None) same ∙ get_or-set_same table i (Some f) None room in cc in
    let back : (id g : ℕ) → id < i → MovesTo (set table i (Some f)) id g → MovesTo table id g = λ id g less gives. gives_set_other table i id g (Some f) (omega arith) gives in
    record {
      few = let few = h.few in let one = a.few in omega (arith, length-append new more);
      long = length-set table i (Some f) ∙ h.long;
      well_formed = a.well_formed;
      ahead = λ id le. get_or-set_other table i id (Some f) None (omega arith) ∙ h.ahead id (omega arith);
      kept = λ id lt k. elim (id_cases id i lt) [
        | inl less ↦ let was = h.kept id less k in record { place = was.place; here = get_or-set_other table i id (Some f) None (omega arith) ∙ was.here }
        | inr same ↦ record { place = f; here = ap (λ j. get_or (set table i (Some f)) j None) same ∙ get_or-set_same table i (Some f) None room }
      ];
      inside = λ id g lt gives. elim (id_cases id i lt) [
        | inl less ↦ let was = h.inside id g less (back id g less gives) in omega (arith, length-append new more)
        | inr same ↦ let e = is_f id g same gives in let there = a.inside in omega arith
      ];
      trees = λ id g lt gives. elim (id_cases id i lt) [
        | inl less ↦ let g' = back id g less gives in subst (IsPruned (low_of lows id) (tree old id)) (sym (tree-append new more g (h.inside id g less g'))) (h.trees id g less g')
        | inr same ↦ subst (λ (j : ℕ). IsPruned (low_of lows j) (tree old j) (tree (new ++ more) g)) (sym same) (subst (λ (k : ℕ). IsPruned (low_of lows i) (tree old i) (tree (new ++ more) k)) (sym (is_f id g same gives)) a.tree)
      ];
      follows = λ id g m lt here gives. elim (id_cases id i lt) [
        | inl less ↦ follows_on (low_of lows id) table old new more i id g (Some f) m w (omega arith) here (h.follows id g m less here (back id g less gives))
        | inr same ↦
            let node : n ≡ m = let e : Some n ≡ Some m = sym at ∙ ap (slice_get old) (sym same) ∙ here in cc in
            subst (λ (j : ℕ). Follows (low_of lows j) (set table i (Some f)) (new ++ more) g m) (sym same) (subst (λ (k : Node). Follows (low_of lows i) (set table i (Some f)) (new ++ more) g k) node (subst (λ (k : ℕ). Follows (low_of lows i) (set table i (Some f)) (new ++ more) k n) (sym (is_f id g same gives)) a.follows))
      ];
      onto = λ j lt. elim (cases_lt j (length new)) [
        | inl less ↦ let o = h.onto j less in (o.0, (let lower = o.1 in omega arith), o.2, gives_kept_other table i o.0 j (Some f) (let lower = o.1 in omega arith) o.3)
        | inr more_than ↦ (i, omega arith, marked, record { gives = get_or-set_same table i (Some f) None room ∙ ap (λ k. Some k) (sym (a.onto j more_than lt)) })
      ];
      no_new_start = a.no_new_start;
      fewer_later = λ p. let was = h.fewer_later p in let now = a.fewer_later p in let e : later p (take (i + 1) old) ≡ later p (take i old) + later p (n ∷ []) = ap (later p) (take_next old i n at) ∙ later_push p (take i old) n in omega arith;
    }
