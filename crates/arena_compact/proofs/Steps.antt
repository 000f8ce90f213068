-- A node of each kind is moved.
use Rattle.std.proofs.Common.{◌≡◌, ℕ, ◌+◌, ◌<◌, ◌≤◌, ℤ, true, false, List, [], ◌∷◌, ◌++◌, length, set, Option, Some, refl, sym, ap, subst, ◌∙◌, inl, inr, max, arith, length-append, All}
use Rattle.std.specs.Prelude.{slice_get, Contains, int_le, ◌≤ℤ◌}
use Rattle.std.proofs.lemmas.List.{append-nil}
use Rattle.std.proofs.lemmas.List.Elements.{Contains-push_cases}
use Rattle.std.proofs.lemmas.Option.{slice_get_within, get_or_from_slice_get}
use Rattle.cer_base.specs.declared.node.Stamp.{Stamp}
use Rattle.cer_base.specs.declared.node.Node.{Node}
use Rattle.cer_base.specs.declared.node.Node.TheVariants.{Bottom, Output, Union}
use Rattle.cer_base.specs.Members.{SetTree, Start, Extended, United, newest, need, members, ComesAfter, IsWellFormedTree}
use Rattle.cer_base.specs.Nodes.{tree, WellFormed, AreInStep}
use Rattle.cer_base.proofs.Trees.{newest-left, tree-push, tree-at, well_formed-push, output-grows, union-grows}
use Rattle.arena_compact.specs.Pruned.{IsPruned, AtStart, Below, Both, LeftAlone}
use Rattle.arena_compact.specs.Marks.{IsKept, low_of}
use Rattle.arena_compact.specs.Moves.{later, MovesTo, AtBottom, AtOutput, AtUnion, AtLeft, Moved}
use Rattle.arena_compact.proofs.Pruned.{pruned_later, newest-pruned, well_formed-pruned}
use Rattle.arena_compact.proofs.Moving.{slice_get_last, later_push, later_same, gives_kept_other, moved_on}

contains_at : (nodes : List Node) (id : ℕ) (n : Node) → slice_get nodes id ≡ Some n → Contains nodes n
contains_at nodes id n h = (id, slice_get_within nodes id n h, get_or_from_slice_get nodes id n n h)

last_place : (new : List Node) (n : Node) (j : ℕ) → length new ≤ j → j < length (new ++ n ∷ []) → j ≡ length new
last_place new n j le lt = omega (arith, length-append new (n ∷ []))

-- trees that are equal to such as are pruned
as_pruned : (low : ℤ) (t u was now : SetTree) → was ≡ t → now ≡ u → IsPruned low t u → IsPruned low was now
as_pruned low t u was now a b h = subst (λ (x : SetTree). IsPruned low x now) (sym a) (subst (IsPruned low t) (sym b) h)

-- what a moved node's tree is, as its children's are pruned
module _ (lows : List ℤ) (old : List Node) (marks : List (Option ℕ)) (i : ℕ) (new : List Node) (table : List (Option ℕ)) where
  child_newest : WellFormed old → Moved lows old marks i new table → (c g : ℕ) → c < i → c < length old → MovesTo table c g → newest (tree new g) ≡ newest (tree old c)
  child_newest w h c g less inside gives = newest-pruned (low_of lows c) (tree old c) (tree new g) (h.trees c g less gives) (w.well_formed_tree c inside)

  -- a child is pruned from its own clock on, so from its parent's too
  child_pruned : Moved lows old marks i new table → (c g : ℕ) → c < i → MovesTo table c g → low_of lows c ≤ℤ low_of lows i → IsPruned (low_of lows i) (tree old c) (tree new g)
  child_pruned h c g less gives le = pruned_later (low_of lows c) (low_of lows i) le (tree old c) (tree new g) (h.trees c g less gives)

  pub moved_bottom : (s : Stamp) → WellFormed old → Moved lows old marks i new table → slice_get old i ≡ Some (Bottom s) → IsKept marks i → i < length table → Moved lows old marks (i + 1) (new ++ Bottom s ∷ []) (set table i (Some (length new)))
  moved_bottom s w h at marked room =
      let here = contains_at old i (Bottom s) at in
      let known : (t : Stamp) → Contains (new ++ Bottom s ∷ []) (Bottom t) → Contains old (Bottom t) = λ t has. elim (Contains-push_cases new (Bottom s) (Bottom t) has) [ inl a ↦ h.no_new_start t a | inr e ↦ subst (λ (n : Node). Contains old n) e here ] in
      let step : AreInStep (new ++ Bottom s ∷ []) = λ a b has_a has_b le. w.in_step a b (known a has_a) (known b has_b) le in
      moved_on lows old marks i new (Bottom s ∷ []) table (Bottom s) (length new) w h at marked room (record {
        few = omega arith;
        well_formed = well_formed-push new (Bottom s) h.well_formed tt tt step;
        inside = omega (arith, length-append new (Bottom s ∷ []));
        tree = as_pruned (low_of lows i) (Start s) (Start s) (tree old i) (tree (new ++ Bottom s ∷ []) (length new)) (tree-at old w i (Bottom s) at) (tree-push new (Bottom s)) (AtStart s);
        follows = AtBottom s (slice_get_last new (Bottom s));
        onto = last_place new (Bottom s);
        no_new_start = known;
        fewer_later = λ p. omega (arith, later_push p new (Bottom s));
      })

  pub moved_output : (p c k g j : ℕ) (m : Stamp) → WellFormed old → Moved lows old marks i new table → slice_get old i ≡ Some (Output p c m k) → IsKept marks i → i < length table → low_of lows c ≤ℤ low_of lows i → MovesTo table c g → j ≡ need (tree new g) + 1 → Moved lows old marks (i + 1) (new ++ Output p g m j ∷ []) (set table i (Some (length new)))
  moved_output p c k g j m w h at marked room le gives is_need =
      let true_fields = w.true_fields i (Output p c m k) at in let older = true_fields.0 in let within = slice_get_within old i (Output p c m k) at in
      let is : tree old i ≡ Extended p (tree old c) = tree-at old w i (Output p c m k) at in
      let whole : IsWellFormedTree (Extended p (tree old c)) = subst IsWellFormedTree is (w.well_formed_tree i within) in
      let less : IsPruned (low_of lows i) (Extended p (tree old c)) (Extended p (tree new g)) = Below p (tree old c) (tree new g) (child_pruned h c g older gives le) in
      let after : All (ComesAfter p) (members (tree new g)) = (well_formed-pruned (low_of lows i) (Extended p (tree old c)) (Extended p (tree new g)) less whole).1 in
      let grows = output-grows new p g j m h.well_formed (h.inside c g older gives) (true_fields.1 ∙ sym (child_newest w h c g older (omega arith) gives)) is_need after in
      moved_on lows old marks i new (Output p g m j ∷ []) table (Output p c m k) (length new) w h at marked room (record {
        few = omega arith;
        well_formed = grows.well_formed;
        inside = omega (arith, length-append new (Output p g m j ∷ []));
        tree = as_pruned (low_of lows i) (Extended p (tree old c)) (Extended p (tree new g)) (tree old i) (tree (new ++ Output p g m j ∷ []) (length new)) is (tree-push new (Output p g m j)) less;
        follows = AtOutput p c k g j m (gives_kept_other table i c g (Some (length new)) (omega arith) gives) (slice_get_last new (Output p g m j));
        onto = last_place new (Output p g m j);
        no_new_start = λ s has. elim (Contains-push_cases new (Output p g m j) (Bottom s) has) [ inl a ↦ h.no_new_start s a | inr e ↦ absurd cc ];
        fewer_later = λ q. omega (arith, later_push q new (Output p g m j), later_same q (Output p g m j) (Output p c m k) refl);
      })

  pub moved_union : (l r k a b j : ℕ) (m q : Stamp) → WellFormed old → Moved lows old marks i new table → slice_get old i ≡ Some (Union l r k m q) → IsKept marks i → i < length table → int_le (low_of lows i) q.clock ≡ true → low_of lows l ≤ℤ low_of lows i → low_of lows r ≤ℤ low_of lows i → MovesTo table l a → MovesTo table r b → j ≡ max (need (tree new a) + 1) (need (tree new b)) → Moved lows old marks (i + 1) (new ++ Union a b j m q ∷ []) (set table i (Some (length new)))
  moved_union l r k a b j m q w h at marked room test le_l le_r gives_l gives_r is_need =
      let true_fields = w.true_fields i (Union l r k m q) at in let older_l = true_fields.0 in let older_r = true_fields.1 in let within = slice_get_within old i (Union l r k m q) at in
      let is : tree old i ≡ United (tree old l) (tree old r) = tree-at old w i (Union l r k m q) at in
      let whole : IsWellFormedTree (United (tree old l) (tree old r)) = subst IsWellFormedTree is (w.well_formed_tree i within) in
      let less : IsPruned (low_of lows i) (United (tree old l) (tree old r)) (United (tree new a) (tree new b)) = Both (tree old l) (tree old r) (tree new a) (tree new b) (child_pruned h l a older_l gives_l le_l) (child_pruned h r b older_r gives_r le_r) in
      let well_formed : IsWellFormedTree (United (tree new a) (tree new b)) = well_formed-pruned (low_of lows i) (United (tree old l) (tree old r)) (United (tree new a) (tree new b)) less whole in
      let is_max : m ≡ newest (tree new a) = true_fields.2 ∙ newest-left (tree old l) (tree old r) whole.2.ordered ∙ sym (child_newest w h l a older_l (omega arith) gives_l) in
      let grows = union-grows new a b j m q h.well_formed (h.inside l a older_l gives_l) (h.inside r b older_r gives_r) is_max (true_fields.3 ∙ sym (child_newest w h r b older_r (omega arith) gives_r)) is_need well_formed in
      moved_on lows old marks i new (Union a b j m q ∷ []) table (Union l r k m q) (length new) w h at marked room (record {
        few = omega arith;
        well_formed = grows.well_formed;
        inside = omega (arith, length-append new (Union a b j m q ∷ []));
        tree = as_pruned (low_of lows i) (United (tree old l) (tree old r)) (United (tree new a) (tree new b)) (tree old i) (tree (new ++ Union a b j m q ∷ []) (length new)) is (tree-push new (Union a b j m q)) less;
        follows = AtUnion l r k a b j m q test (gives_kept_other table i l a (Some (length new)) (omega arith) gives_l) (gives_kept_other table i r b (Some (length new)) (omega arith) gives_r) (slice_get_last new (Union a b j m q));
        onto = last_place new (Union a b j m q);
        no_new_start = λ s has. elim (Contains-push_cases new (Union a b j m q) (Bottom s) has) [ inl x ↦ h.no_new_start s x | inr e ↦ absurd cc ];
        fewer_later = λ p. omega (arith, later_push p new (Union a b j m q), later_same p (Union a b j m q) (Union l r k m q) refl);
      })

  pub moved_first : (l r k f : ℕ) (m q : Stamp) → WellFormed old → Moved lows old marks i new table → slice_get old i ≡ Some (Union l r k m q) → IsKept marks i → i < length table → int_le (low_of lows i) q.clock ≡ false → low_of lows l ≤ℤ low_of lows i → MovesTo table l f → Moved lows old marks (i + 1) new (set table i (Some f))
  moved_first l r k f m q w h at marked room test le gives =
      let true_fields = w.true_fields i (Union l r k m q) at in let older = true_fields.0 in
      let is : tree old i ≡ United (tree old l) (tree old r) = tree-at old w i (Union l r k m q) at in
      let old_right : int_le (low_of lows i) (newest (tree old r)).clock ≡ false = subst (λ (s : Stamp). int_le (low_of lows i) s.clock ≡ false) true_fields.3 test in
      let less : IsPruned (low_of lows i) (United (tree old l) (tree old r)) (tree new f) = LeftAlone (tree old l) (tree old r) (tree new f) old_right (child_pruned h l f older gives le) in
      let all : new ++ [] ≡ new = append-nil new in
      let moved = moved_on lows old marks i new [] table (Union l r k m q) f w h at marked room (record {
        few = omega arith;
        well_formed = rw append-nil h.well_formed;
        inside = rw append-nil (h.inside l f older gives);
        tree = as_pruned (low_of lows i) (United (tree old l) (tree old r)) (tree new f) (tree old i) (tree (new ++ []) f) is (ap (λ ns. tree ns f) all) less;
        follows = AtLeft l r k m q test (gives_kept_other table i l f (Some f) (omega arith) gives);
        onto = λ j le' lt. absurd (let e = ap length all in omega arith);
        no_new_start = λ s has. h.no_new_start s (subst (λ (ns : List Node). Contains ns (Bottom s)) all has);
        fewer_later = λ p. let e = ap (later p) all in omega arith;
      }) in
      subst (λ (ns : List Node). Moved lows old marks (i + 1) ns (set table i (Some f))) all moved
