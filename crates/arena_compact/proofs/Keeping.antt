-- Nodes are marked: the roots, and each marked node's children, from the newest node down.
use Rattle.std.proofs.Common.{◌≡◌, ℕ, ◌+◌, ◌<◌, ◌≤◌, ℤ, true, List, [], ◌∷◌, ◌++◌, length, set, get_or, Option, Some, None, sym, ap, subst, ◌∙◌, ◌⊎◌, inl, inr, arith, length-set, pos, refl}
use Rattle.std.specs.Prelude.{slice_get, Contains, int_le, ◌≤ℤ◌}
use Rattle.std.proofs.lemmas.Int.{ints}
use Rattle.std.proofs.lemmas.List.{get_or-set_same, get_or-set_other}
use Rattle.std.proofs.lemmas.List.Elements.{All-nil, All-cons, All-append, All-weaker, Contains-append_left, Contains-push}
use Rattle.std.proofs.lemmas.Option.{slice_get_within}
use Rattle.std.proofs.lemmas.Bool.{cases_eq}
use Rattle.cer_base.specs.declared.node.Stamp.{Stamp}
use Rattle.cer_base.specs.declared.node.Node.{Node}
use Rattle.cer_base.specs.declared.node.Node.TheVariants.{Bottom, Output, Union}
use Rattle.cer_base.specs.Members.{SetTree, Extended, United, newest, IsWellFormedTree}
use Rattle.cer_base.specs.Nodes.{tree, WellFormed}
use Rattle.cer_base.proofs.Trees.{tree-at, newest-left}
use Rattle.cer_base.proofs.Walks.{test_tells}
use Rattle.arena_compact.specs.Marks.{Needs, IsNeededFrom, IsKept, low_of, IsKeptFrom, KeepsChildren, AreNodeMarks, IsLowered, Sets, Stays}

kept_back : (table : List (Option ℕ)) (c id v : ℕ) → (id ≡ c → ⊥) → IsKept (set table c (Some v)) id → IsKept table id
kept_back table c id v other k = record { place = k.place; here = sym (get_or-set_other table c id (Some v) None other) ∙ k.here }

pub kept_set : (table : List (Option ℕ)) (c id v : ℕ) → c < length table → IsKept table id → IsKept (set table c (Some v)) id
kept_set table c id v inside k = elim (cases_eq id c) [
  | inl same ↦ record { place = v; here = ap (λ j. get_or (set table c (Some v)) j None) same ∙ get_or-set_same table c (Some v) None inside }
  | inr other ↦ record { place = k.place; here = get_or-set_other table c id (Some v) None other ∙ k.here }
]

pub kept_here : (table : List (Option ℕ)) (c v : ℕ) → c < length table → IsKept (set table c (Some v)) c
kept_here table c v inside = record { place = v; here = get_or-set_same table c (Some v) None inside }

-- A node is kept from a clock on: what becomes of the clocks.
module _ (table : List (Option ℕ)) (c : ℕ) (low : ℤ) where
  -- those of other nodes stay
  pub low_others : (lows new : List ℤ) (j : ℕ) → (j ≡ c → ⊥) → IsLowered table lows c low new → low_of new j ≡ low_of lows j
  low_others lows _ j other (Sets less) = get_or-set_other lows c j low (pos 0) other
  low_others lows _ j other (Stays kept le) = refl

  -- its own is this one, or what it was
  low_cases : (lows new : List ℤ) → c < length lows → IsLowered table lows c low new → (IsKept table c × (low_of new c ≡ low_of lows c)) ⊎ (low_of new c ≡ low)
  low_cases lows _ inside (Sets less) = inr (get_or-set_same lows c low (pos 0) inside)
  low_cases lows _ inside (Stays kept le) = inl (kept, refl)

  -- and no later
  pub low_here : (lows new : List ℤ) → c < length lows → IsLowered table lows c low new → low_of new c ≤ℤ low
  low_here lows _ inside (Sets less) = let e = get_or-set_same lows c low (pos 0) inside in subst (λ (z : ℤ). z ≤ℤ low) (sym e) (omega (arith, ints))
  low_here lows _ inside (Stays kept le) = le

  low_was : (lows new : List ℤ) → c < length lows → IsLowered table lows c low new → IsKept table c → low_of new c ≤ℤ low_of lows c
  low_was lows _ inside (Sets less) k = let e = get_or-set_same lows c low (pos 0) inside in subst (λ (z : ℤ). z ≤ℤ low_of lows c) (sym e) (less k)
  low_was lows _ inside (Stays kept le) k = omega (arith, ints)

  -- a kept node was kept from the same clock on, or is the one at hand
  pub mark_cases : (lows new : List ℤ) (v id : ℕ) → c < length lows → IsLowered table lows c low new → IsKept (set table c (Some v)) id → (IsKept table id × (low_of new id ≡ low_of lows id)) ⊎ ((id ≡ c) × (low_of new id ≡ low))
  mark_cases lows new v id inside d k = elim (cases_eq id c) [
    | inr other ↦ inl (kept_back table c id v other k, low_others lows new id other d)
    | inl same ↦ elim (low_cases lows new inside d) [
      | inl was ↦ inl (subst (λ (j : ℕ). IsKept table j × (low_of new j ≡ low_of lows j)) (sym same) was)
      | inr here ↦ inr (same, ap (low_of new) same ∙ here)
    ]
  ]

  -- what was kept from a clock on still is
  pub from_set : (lows new : List ℤ) (v id : ℕ) (from : ℤ) → c < length table → c < length lows → IsLowered table lows c low new → IsKeptFrom table lows from id → IsKeptFrom (set table c (Some v)) new from id
  from_set lows new v id from room inside d k = record {
    kept = kept_set table c id v room k.kept;
    upto = elim (cases_eq id c) [
      | inr other ↦ subst (λ (z : ℤ). z ≤ℤ from) (sym (low_others lows new id other d)) k.upto
      | inl same ↦
          let was : low_of lows c ≤ℤ from = subst (λ (j : ℕ). low_of lows j ≤ℤ from) same k.upto in
          let now = low_was lows new inside d (subst (IsKept table) same k.kept) in
          subst (λ (j : ℕ). low_of new j ≤ℤ from) (sym same) (omega (arith, ints))
    ];
  }

  pub from_here : (lows new : List ℤ) (v : ℕ) → c < length table → c < length lows → IsLowered table lows c low new → IsKeptFrom (set table c (Some v)) new low c
  from_here lows new v room inside d = record { kept = kept_here table c v room; upto = low_here lows new inside d }

  children_set : (lows new : List ℤ) (v : ℕ) (from : ℤ) (n : Node) → c < length table → c < length lows → IsLowered table lows c low new → KeepsChildren from table lows n → KeepsChildren from (set table c (Some v)) new n
  children_set lows new v from (Bottom s) room inside d h = tt
  children_set lows new v from (Output p e m k) room inside d h = from_set lows new v e from room inside d h
  children_set lows new v from (Union l r k m q) room inside d h = (from_set lows new v l from room inside d h.0, λ test. from_set lows new v r from room inside d (h.1 test))

-- more roots need no less
needs_more : (low : ℤ) (nodes : List Node) (roots more : List (ℕ × ℤ)) (id : ℕ) → IsNeededFrom low nodes roots id → IsNeededFrom low nodes (roots ++ more) id
needs_more low nodes roots more id h = record { root = h.root; among = Contains-append_left roots more (h.root, low) h.among; needs = h.needs }

module _ (nodes : List Node) where
  -- nothing is marked
  pub marks_none : (table : List (Option ℕ)) (lows : List ℤ) → ((id : ℕ) → get_or table id None ≡ None) → AreNodeMarks nodes [] (length nodes) table lows
  marks_none table lows none =
      let gone : (id : ℕ) → IsKept table id → ⊥ = λ id k. let e = sym (none id) ∙ k.here in cc in
      record {
        closed = λ id n le at k. absurd (gone id k);
        inside = λ id k. absurd (gone id k);
        recent = λ id k. absurd (gone id k);
        needed = λ id k. absurd (gone id k);
        rooted = All-nil (λ (r : ℕ × ℤ). IsKeptFrom table lows r.1 r.0);
      }

  -- a root is marked
  pub marks_root : (roots : List (ℕ × ℤ)) (table : List (Option ℕ)) (lows new : List ℤ) (c v : ℕ) (low : ℤ) → AreNodeMarks nodes roots (length nodes) table lows → c < length table → c < length lows → c < length nodes → low ≤ℤ (newest (tree nodes c)).clock → IsLowered table lows c low new → AreNodeMarks nodes (roots ++ (c, low) ∷ []) (length nodes) (set table c (Some v)) new
  marks_root roots table lows new c v low h room wide inside recent d =
      let Old : ℕ × ℤ → Type 0 = λ r. IsKeptFrom table lows r.1 r.0 in
      let New : ℕ × ℤ → Type 0 = λ r. IsKeptFrom (set table c (Some v)) new r.1 r.0 in
      record {
        closed = λ id n le at k. absurd (let lt = slice_get_within nodes id n at in omega arith);
        inside = λ id k. elim (mark_cases table c low lows new v id wide d k) [ inl was ↦ h.inside id was.0 | inr same ↦ (let e = same.0 in omega arith) ];
        recent = λ id k. elim (mark_cases table c low lows new v id wide d k) [
          | inl was ↦ subst (λ (z : ℤ). z ≤ℤ (newest (tree nodes id)).clock) (sym was.1) (h.recent id was.0)
          | inr same ↦ subst (λ (z : ℤ). z ≤ℤ (newest (tree nodes id)).clock) (sym same.1) (subst (λ (j : ℕ). low ≤ℤ (newest (tree nodes j)).clock) (sym same.0) recent)
        ];
        needed = λ id k. elim (mark_cases table c low lows new v id wide d k) [
          | inl was ↦ subst (λ (z : ℤ). IsNeededFrom z nodes (roots ++ (c, low) ∷ []) id) (sym was.1) (needs_more (low_of lows id) nodes roots ((c, low) ∷ []) id (h.needed id was.0))
          | inr same ↦ subst (λ (z : ℤ). IsNeededFrom z nodes (roots ++ (c, low) ∷ []) id) (sym same.1) (subst (λ (j : ℕ). IsNeededFrom low nodes (roots ++ (c, low) ∷ []) j) (sym same.0) (record { root = c; among = Contains-push roots (c, low); needs = Needs.Root c (Contains-push [] c) }))
        ];
        rooted = All-append New roots ((c, low) ∷ []) (All-weaker Old New (λ r k. from_set table c low lows new v r.0 r.1 room wide d k) roots h.rooted) (All-cons New (c, low) [] (from_here table c low lows new v room wide d) (All-nil New));
      }

  -- a child of a marked node is marked
  marks_child : (roots : List (ℕ × ℤ)) (table : List (Option ℕ)) (lows new : List ℤ) (from c v : ℕ) (low : ℤ) → AreNodeMarks nodes roots from table lows → c < from → c < length table → c < length lows → c < length nodes → low ≤ℤ (newest (tree nodes c)).clock → IsNeededFrom low nodes roots c → IsLowered table lows c low new → AreNodeMarks nodes roots from (set table c (Some v)) new
  marks_child roots table lows new from c v low h older room wide inside recent needs d =
      let Old : ℕ × ℤ → Type 0 = λ r. IsKeptFrom table lows r.1 r.0 in
      let New : ℕ × ℤ → Type 0 = λ r. IsKeptFrom (set table c (Some v)) new r.1 r.0 in
      record {
        closed = λ id n le at k. elim (mark_cases table c low lows new v id wide d k) [
          | inl was ↦ subst (λ (z : ℤ). KeepsChildren z (set table c (Some v)) new n) (sym was.1) (children_set table c low lows new v (low_of lows id) n room wide d (h.closed id n le at was.0))
          | inr same ↦ absurd (let e = same.0 in omega arith)
        ];
        inside = λ id k. elim (mark_cases table c low lows new v id wide d k) [ inl was ↦ h.inside id was.0 | inr same ↦ (let e = same.0 in omega arith) ];
        recent = λ id k. elim (mark_cases table c low lows new v id wide d k) [
          | inl was ↦ subst (λ (z : ℤ). z ≤ℤ (newest (tree nodes id)).clock) (sym was.1) (h.recent id was.0)
          | inr same ↦ subst (λ (z : ℤ). z ≤ℤ (newest (tree nodes id)).clock) (sym same.1) (subst (λ (j : ℕ). low ≤ℤ (newest (tree nodes j)).clock) (sym same.0) recent)
        ];
        needed = λ id k. elim (mark_cases table c low lows new v id wide d k) [
          | inl was ↦ subst (λ (z : ℤ). IsNeededFrom z nodes roots id) (sym was.1) (h.needed id was.0)
          | inr same ↦ subst (λ (z : ℤ). IsNeededFrom z nodes roots id) (sym same.1) (subst (IsNeededFrom low nodes roots) (sym same.0) needs)
        ];
        rooted = All-weaker Old New (λ r k. from_set table c low lows new v r.0 r.1 room wide d k) roots h.rooted;
      }

  -- a node whose children are marked, if it is marked, is done
  pub marks_down : (roots : List (ℕ × ℤ)) (table : List (Option ℕ)) (lows : List ℤ) (i : ℕ) (n : Node) → AreNodeMarks nodes roots (i + 1) table lows → slice_get nodes i ≡ Some n → (IsKept table i → KeepsChildren (low_of lows i) table lows n) → AreNodeMarks nodes roots i table lows
  marks_down roots table lows i n h at children = record {
    closed = λ id m le here k. elim (cases_eq id i) [
      | inl same ↦
          let node : n ≡ m = let e : Some n ≡ Some m = sym at ∙ ap (slice_get nodes) (sym same) ∙ here in cc in
          subst (λ (j : ℕ). KeepsChildren (low_of lows j) table lows m) (sym same) (subst (KeepsChildren (low_of lows i) table lows) node (children (subst (λ (j : ℕ). IsKept table j) same k)))
      | inr other ↦ h.closed id m (omega arith) here k
    ];
    inside = h.inside;
    recent = h.recent;
    needed = h.needed;
    rooted = h.rooted;
  }

  -- the steps of the walk, by the kind of the node
  pub marks_output : (roots : List (ℕ × ℤ)) (table : List (Option ℕ)) (lows new : List ℤ) (i p c k v : ℕ) (m : Stamp) → WellFormed nodes → length nodes ≤ length table → length lows ≡ length table → AreNodeMarks nodes roots (i + 1) table lows → slice_get nodes i ≡ Some (Output p c m k) → IsKept table i → IsLowered table lows c (low_of lows i) new → AreNodeMarks nodes roots i (set table c (Some v)) new
  marks_output roots table lows new i p c k v m w room even h at marked d =
      let true_fields = w.true_fields i (Output p c m k) at in let older = true_fields.0 in let within = slice_get_within nodes i (Output p c m k) at in
      let is : tree nodes i ≡ Extended p (tree nodes c) = tree-at nodes w i (Output p c m k) at in
      let recent : low_of lows i ≤ℤ (newest (tree nodes c)).clock = subst (λ (t : SetTree). low_of lows i ≤ℤ (newest t).clock) is (h.recent i marked) in
      let n = h.needed i marked in
      let more = marks_child roots table lows new (i + 1) c v (low_of lows i) h (omega arith) (omega arith) (omega arith) (omega arith) recent (record { root = n.root; among = n.among; needs = Needs.Child i p c k m at n.needs }) d in
      let same : low_of new i ≡ low_of lows i = low_others table c (low_of lows i) lows new i (omega arith) d in
      marks_down roots (set table c (Some v)) new i (Output p c m k) more at (λ k'. subst (λ (z : ℤ). IsKeptFrom (set table c (Some v)) new z c) (sym same) (from_here table c (low_of lows i) lows new v (omega arith) (omega arith) d))

  -- of a union, the left child and then perhaps the right one
  left_recent : (low : ℤ) (i l r k : ℕ) (m q : Stamp) → WellFormed nodes → slice_get nodes i ≡ Some (Union l r k m q) → low ≤ℤ (newest (tree nodes i)).clock → low ≤ℤ (newest (tree nodes l)).clock
  left_recent low i l r k m q w at recent =
      let is : tree nodes i ≡ United (tree nodes l) (tree nodes r) = tree-at nodes w i (Union l r k m q) at in
      let whole : IsWellFormedTree (United (tree nodes l) (tree nodes r)) = subst IsWellFormedTree is (w.well_formed_tree i (slice_get_within nodes i (Union l r k m q) at)) in
      subst (λ (s : Stamp). low ≤ℤ s.clock) (ap newest is ∙ newest-left (tree nodes l) (tree nodes r) whole.2.ordered) recent

  pub marks_left : (roots : List (ℕ × ℤ)) (table : List (Option ℕ)) (lows new : List ℤ) (i l r k v : ℕ) (m q : Stamp) → WellFormed nodes → length nodes ≤ length table → length lows ≡ length table → AreNodeMarks nodes roots (i + 1) table lows → slice_get nodes i ≡ Some (Union l r k m q) → IsKept table i → (int_le (low_of lows i) q.clock ≡ true → ⊥) → IsLowered table lows l (low_of lows i) new → AreNodeMarks nodes roots i (set table l (Some v)) new
  marks_left roots table lows new i l r k v m q w room even h at marked old d =
      let true_fields = w.true_fields i (Union l r k m q) at in let older = true_fields.0 in let within = slice_get_within nodes i (Union l r k m q) at in
      let low = low_of lows i in let n = h.needed i marked in
      let more = marks_child roots table lows new (i + 1) l v low h (omega arith) (omega arith) (omega arith) (omega arith) (left_recent low i l r k m q w at (h.recent i marked)) (record { root = n.root; among = n.among; needs = Needs.Left i l r k m q at n.needs }) d in
      let same : low_of new i ≡ low_of lows i = low_others table l low lows new i (omega arith) d in
      marks_down roots (set table l (Some v)) new i (Union l r k m q) more at (λ k'. subst (λ (z : ℤ). KeepsChildren z (set table l (Some v)) new (Union l r k m q)) (sym same) (from_here table l low lows new v (omega arith) (omega arith) d, λ test. absurd (old test)))

  pub marks_both : (roots : List (ℕ × ℤ)) (table : List (Option ℕ)) (lows one two : List ℤ) (i l r k u v : ℕ) (m q : Stamp) → WellFormed nodes → length nodes ≤ length table → length lows ≡ length table → length one ≡ length lows → AreNodeMarks nodes roots (i + 1) table lows → slice_get nodes i ≡ Some (Union l r k m q) → IsKept table i → int_le (low_of lows i) q.clock ≡ true → IsLowered table lows l (low_of lows i) one → IsLowered (set table l (Some u)) one r (low_of lows i) two → AreNodeMarks nodes roots i (set (set table l (Some u)) r (Some v)) two
  marks_both roots table lows one two i l r k u v m q w room even wide h at marked test d e =
      let true_fields = w.true_fields i (Union l r k m q) at in let older_l = true_fields.0 in let older_r = true_fields.1 in let within = slice_get_within nodes i (Union l r k m q) at in
      let long = length-set table l (Some u) in
      let low = low_of lows i in let n = h.needed i marked in
      let first = marks_child roots table lows one (i + 1) l u low h (omega arith) (omega arith) (omega arith) (omega arith) (left_recent low i l r k m q w at (h.recent i marked)) (record { root = n.root; among = n.among; needs = Needs.Left i l r k m q at n.needs }) d in
      let recent : low ≤ℤ (newest (tree nodes r)).clock = subst (λ (s : Stamp). low ≤ℤ s.clock) true_fields.3 (test_tells low q.clock test) in
      let second = marks_child roots (set table l (Some u)) one two (i + 1) r v low first (omega arith) (omega arith) (omega arith) (omega arith) recent (record { root = n.root; among = n.among; needs = Needs.Right i l r k m q at test n.needs }) e in
      let same : low_of two i ≡ low_of lows i = low_others (set table l (Some u)) r low one two i (omega arith) e ∙ low_others table l low lows one i (omega arith) d in
      let left = from_set (set table l (Some u)) r low one two v l low (omega arith) (omega arith) e (from_here table l low lows one u (omega arith) (omega arith) d) in
      let right = from_here (set table l (Some u)) r low one two v (omega arith) (omega arith) e in
      marks_down roots (set (set table l (Some u)) r (Some v)) two i (Union l r k m q) second at (λ k'. subst (λ (z : ℤ). KeepsChildren z (set (set table l (Some u)) r (Some v)) two (Union l r k m q)) (sym same) (left, λ t. right))
