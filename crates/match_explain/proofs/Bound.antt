-- What the steps of a run bind is the valuation of its path.
use Rattle.std.proofs.Common.{◌≡◌, ◌≢◌, refl, sym, ap, subst, ◌∙◌, ℕ, zero, suc, ◌<◌, inl, inr, Bool, true, false, List, [], ◌∷◌, map, get_or, Option, Some, None, slice_get, Contains, All, Any, arith}
use Rattle.std.specs.Prelude.{if◌then◌else◌}
use Rattle.std.specs.List.{cons_option}
use Rattle.std.proofs.lemmas.List.{get_or_default}
use Rattle.std.specs.Ordering.{nat_cmp}
use Rattle.std.specs.Cmp.Lexicographic.{slice_cmp}
use Rattle.std.specs.List.Sorted.{IsStrictlySortedBy}
use Rattle.cel_terms.specs.Answers.{IsAscending}
use Rattle.cel_terms.specs.Meaning.{Bound}
use Rattle.query_leaves.specs.Expand.{Occurrence}
use Rattle.query_leaves.specs.Leaves.{names_in}
use Rattle.cea_compile.specs.Paths.{Step, Reading, valuation}
use Rattle.cea_compile.specs.Positions.{Steps, done, step, Walk, walk}
use Rattle.query_leaves.specs.LeafTree.{LeafTree}
use Rattle.cel_lists.proofs.Members.{Among, contains_from, among_from, among_map, map_among, among_filter_map, filter_map_among}
use Rattle.cel_lists.proofs.Places.{Rises, ascends}
use Rattle.match_explain.specs.declared.Binding.{Binding}
use Rattle.match_explain.specs.Explains.{Binds, IsInSetOf, AreBindingsOf}
use Rattle.match_explain.specs.LeafNames.{LeafNames}
use Rattle.match_explain.specs.Bindings.{all_names, names_at, has_name, position_if, positions_of, binding_if, bindings_of}
use Rattle.match_explain.proofs.Names.{all_have, all_sorted, made_sorted, name_from, name_to}

-- some member for which the fact holds
pub some_from : {X : Type 0} (P : X → Type 0) (xs : List X) → Any P xs → (x : X) × Among x xs × P x
some_from P xs h = (h.1, among_from h.1 xs (h.0, h.2, h.3), h.4)

pub some_to : {X : Type 0} (P : X → Type 0) (xs : List X) (x : X) → Among x xs → P x → Any P xs
some_to P xs x a p = let c = contains_from x xs a in (c.0, x, c.1, c.2, p)

pub all_among : {X : Type 0} (P : X → Type 0) (xs : List X) → ((x : X) → Among x xs → P x) → All P xs
all_among P xs f k d less = f (get_or xs k d) (among_from (get_or xs k d) xs (k, less, get_or_default xs k (get_or xs k d) d less))

-- a step at the position, whose leaf has the name
pub record IsNamedAt (leaves : LeafNames) (name : List ℕ) (position : ℕ) (s : Step) : Type 0 where
  pub at : s.position ≡ position
  pub named : Among name (names_at leaves s.leaf)

position_from : (b : Bool) (p q : ℕ) → (if b then Some p else None) ≡ Some q → (b ≡ true) × (p ≡ q)
position_from true p q e = (refl, cc)
position_from false p q e = absurd cc

position_to : (b : Bool) (p : ℕ) → b ≡ true → (if b then Some p else None) ≡ Some p
position_to true p e = refl
position_to false p e = absurd cc

pub positions_from : (leaves : LeafNames) (steps : List Step) (name : List ℕ) (p : ℕ) → Among p (positions_of leaves steps name) → (s : Step) × Among s steps × IsNamedAt leaves name p s
positions_from leaves steps name p h =
    let m = filter_map_among (position_if leaves name) p steps h in
    let e = position_from (has_name (names_at leaves m.0.leaf) name) m.0.position p m.2 in
    (m.0, m.1, record { at = e.1; named = name_from (names_at leaves m.0.leaf) name e.0 })

pub positions_to : (leaves : LeafNames) (steps : List Step) (name : List ℕ) (p : ℕ) (s : Step) → Among s steps → IsNamedAt leaves name p s → Among p (positions_of leaves steps name)
positions_to leaves steps name p s a n =
    among_filter_map (position_if leaves name) s p steps a
    (position_to (has_name (names_at leaves s.leaf) name) s.position (name_to (names_at leaves s.leaf) name n.named) ∙ ap Some n.at)

-- what a name's binding has
binding_from : (name : List ℕ) (ps : List ℕ) (b : Binding) → binding_if name ps ≡ Some b → (b.name ≡ name) × (b.positions ≡ ps) × (ps ≢ [])
binding_from name [] b e = absurd cc
binding_from name (p ∷ ps) b e =
    let same : b ≡ record { name = name; positions = p ∷ ps } = cc in
    (ap (λ (x : Binding). x.name) same, ap (λ (x : Binding). x.positions) same, λ n. cc)

binding_to : (name : List ℕ) (ps : List ℕ) (p : ℕ) → Among p ps → (b : Binding) × (binding_if name ps ≡ Some b) × (b.name ≡ name) × (b.positions ≡ ps)
binding_to name [] p h = absurd h
binding_to name (q ∷ qs) p h = (record { name = name; positions = q ∷ qs }, refl, refl, refl)

module _ (leaves : LeafNames) (steps : List Step) where
  abbrev make : List ℕ → Option Binding
  make name = binding_if name (positions_of leaves steps name)

  -- what is known of each of the bindings
  each_from : (b : Binding) → Among b (bindings_of leaves steps) → (b.positions ≡ positions_of leaves steps b.name) × (b.positions ≢ [])
  each_from b h =
      let m = filter_map_among make b (all_names leaves) h in
      let f = binding_from m.0 (positions_of leaves steps m.0) b m.2 in
      (f.1 ∙ ap (positions_of leaves steps) (sym f.0), λ e. f.2 (sym f.1 ∙ e))

  pub bound_from : (name : List ℕ) (p : ℕ) → Binds (bindings_of leaves steps) name p → (s : Step) × Among s steps × IsNamedAt leaves name p s
  bound_from name p h =
      let b = some_from (λ (b : Binding). (b.name ≡ name) × Contains b.positions p) (bindings_of leaves steps) h in
      let e = each_from b.0 b.1 in
      positions_from leaves steps name p (subst (λ n. Among p (positions_of leaves steps n)) b.2.0 (subst (Among p) e.0 (among_from p b.0.positions b.2.1)))

  pub bound_to : (name : List ℕ) (p : ℕ) (s : Step) → Among s steps → IsNamedAt leaves name p s → Binds (bindings_of leaves steps) name p
  bound_to name p s a n =
      let at = positions_to leaves steps name p s a n in
      let b = binding_to name (positions_of leaves steps name) p at in
      some_to (λ (b : Binding). (b.name ≡ name) × Contains b.positions p) (bindings_of leaves steps) b.0
      (among_filter_map make name b.0 (all_names leaves) (all_have leaves s.leaf name n.named) b.1)
      (b.2, contains_from p b.0.positions (subst (Among p) (sym b.3) at))

  bindings_ordered : IsStrictlySortedBy (slice_cmp nat_cmp) (map (λ (b : Binding). b.name) (bindings_of leaves steps))
  bindings_ordered = made_sorted (λ (b : Binding). b.name) make (λ n b e. (binding_from n (positions_of leaves steps n) b e).0) (all_names leaves) (all_sorted leaves)

-- the steps' positions ascend
abbrev pub StepsAscend : List Step → Type 0
StepsAscend [] = Unit {0}
StepsAscend (s ∷ w) = ((x : Step) → Among x w → s.position < x.position) × StepsAscend w

steps_after : {r : Reading} {F : Bool → ℕ → ℕ → Type 0} {j p l e : ℕ} {w : List Step} → Steps r F j p w l e → (x : Step) → Among x w → p < x.position
steps_after done x h = absurd h
steps_after (step {p = p} f a y s) x (inl e) = subst (λ (z : Step). p < z.position) e a.later
steps_after (step f a y s) x (inr h) = let later = a.later in let more = steps_after s x h in omega arith

steps_ascend : {r : Reading} {F : Bool → ℕ → ℕ → Type 0} {j p l e : ℕ} {w : List Step} → Steps r F j p w l e → StepsAscend w
steps_ascend done = tt
steps_ascend (step f a y s) = (steps_after s, steps_ascend s)

pub walk_ascends : {r : Reading} {t : LeafTree ℕ} {s e : ℕ} {w : List Step} → Walk r t s e w → StepsAscend w
walk_ascends (walk f y s l) = (steps_after s, steps_ascend s)

positions_rise : (leaves : LeafNames) (name : List ℕ) (w : List Step) → StepsAscend w → Rises (positions_of leaves w name)
positions_rise leaves name [] h = tt
positions_rise leaves name (s ∷ w) h = go (positions_rise leaves name w h.1) (has_name (names_at leaves s.leaf) name)
  where
    go : Rises (positions_of leaves w name) → (b : Bool) → Rises (cons_option (if b then Some s.position else None) (positions_of leaves w name))
    go rest true = (λ p a. (let f = positions_from leaves w name p a in subst (λ q. s.position < q) f.2.at (h.0 f.0 f.1)), rest)
    go rest false = rest

names_listed : (ls : List Occurrence) (k : ℕ) → names_at (map (λ (o : Occurrence). o.names) ls) k ≡ names_in (slice_get ls k)
names_listed [] k = refl
names_listed (l ∷ ls) zero = refl
names_listed (l ∷ ls) (suc k) = names_listed ls k

abbrev bound_by : List Occurrence → Step → Bound
bound_by ls s = record { position = s.position; names = names_in (slice_get ls s.leaf) }

-- The bindings are the valuation's.
module _ (ls : List Occurrence) (leaves : LeafNames) (are : leaves ≡ map (λ (o : Occurrence). o.names) ls) (steps : List Step) where
  pub names_are : (k : ℕ) → names_at leaves k ≡ names_in (slice_get ls k)
  names_are k = ap (λ (n : LeafNames). names_at n k) are ∙ names_listed ls k

  set_from : (name : List ℕ) (p : ℕ) → IsInSetOf (valuation ls steps) name p → (s : Step) × Among s steps × IsNamedAt leaves name p s
  set_from name p h =
      let b = some_from (λ (b : Bound). (b.position ≡ p) × Contains b.names name) (valuation ls steps) h in
      let m = map_among (bound_by ls) b.0 steps b.1 in (
        m.0,
        m.1,
        record {
          at = ap (λ (x : Bound). x.position) m.2 ∙ b.2.0;
          named = subst (Among name) (ap (λ (x : Bound). x.names) (sym m.2) ∙ sym (names_are m.0.leaf)) (among_from name b.0.names b.2.1);
        },
      )

  set_to : (name : List ℕ) (p : ℕ) (s : Step) → Among s steps → IsNamedAt leaves name p s → IsInSetOf (valuation ls steps) name p
  set_to name p s a n =
      some_to (λ (b : Bound). (b.position ≡ p) × Contains b.names name) (valuation ls steps) (bound_by ls s) (among_map (bound_by ls) s steps a)
      (n.at, contains_from name (names_in (slice_get ls s.leaf)) (subst (Among name) (names_are s.leaf) n.named))

  pub bindings_are : StepsAscend steps → AreBindingsOf (valuation ls steps) (bindings_of leaves steps)
  bindings_are up = record {
    ordered = bindings_ordered leaves steps;
    ascending = all_among (λ (b : Binding). IsAscending b.positions) (bindings_of leaves steps) (λ b a. subst IsAscending (sym (each_from leaves steps b a).0) (ascends (positions_of leaves steps b.name) (positions_rise leaves b.name steps up)));
    some = all_among (λ (b : Binding). b.positions ≢ []) (bindings_of leaves steps) (λ b a. (each_from leaves steps b a).1);
    exact = λ name p. (
      λ h. (let s = bound_from leaves steps name p h in set_to name p s.0 s.1 s.2),
      λ h. (let s = set_from name p h in bound_to leaves steps name p s.0 s.1 s.2),
    );
  }
