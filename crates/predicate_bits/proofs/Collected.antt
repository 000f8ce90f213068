-- How the leaves of a type are collected, and a set of those that can read an event.
use Rattle.std.proofs.Common.{◌≡◌, ◌≢◌, refl, sym, ap, subst, ◌∙◌, ℕ, zero, suc, ◌+◌, ◌<◌, ◌≤◌, ◌⊎◌, inl, inr, Bool, true, false, List, [], ◌∷◌, ◌++◌, length, Some, None, slice_get, slice_index_or, Contains, All, get_or, take, max, arith}
use Rattle.std.proofs.lemmas.Bool.{cases_lt, eqb-true, eq-eqb, false≢true}
use Rattle.std.proofs.lemmas.Option.{slice_get_within, get_or_from_slice_get, slice_get-get_or}
use Rattle.std.proofs.lemmas.List.Elements.{Contains-append_left, Contains-append_right, Contains-append_cases, All-contains, All-more, All-weaker}
use Rattle.query_leaves.specs.declared.Leaf.{Leaf}
use Rattle.std.specs.Prelude.{Vec, nat_eq}
use Rattle.std.specs.declared.alloc.Global.{Global}
use Rattle.std.proofs.Math.ListN.{set, length-set}
use Rattle.predicate_bits.specs.Groups.{IsGroup, AreGrouped, HasOneMore}

-- the numbers are those of the leaves of the type before a number
pub record IsGroupUpTo (n : ℕ) (list : List Leaf) (ty : ℕ) (numbers : List ℕ) : Type 0 where
  pub sound : (k : ℕ) → Contains numbers k → (l : Leaf) × (slice_get list k ≡ Some l) × (l.ty ≡ ty)
  pub whole : (k : ℕ) (l : Leaf) → k < n → slice_get list k ≡ Some l → l.ty ≡ ty → Contains numbers k

nothing_listed : (k : ℕ) → Contains [] k → ⊥
nothing_listed k c = absurd (let l = c.1 in omega arith)

one_listed : (n k : ℕ) → Contains (n ∷ []) k → n ≡ k
one_listed n k c = at c.0 c.1 c.2
  where
    at : (i : ℕ) → i < length (n ∷ []) → slice_index_or (n ∷ []) i k ≡ k → n ≡ k
    at zero l e = e
    at (suc i) l e = absurd (omega arith)

pub collected_none : (list : List Leaf) (ty : ℕ) → IsGroupUpTo 0 list ty []
collected_none list ty = record { sound = λ k c. absurd (nothing_listed k c); whole = λ k l less at is. absurd (omega arith) }

-- one more leaf of the type
pub collected_more : (n : ℕ) (list : List Leaf) (ty : ℕ) (numbers : List ℕ) (l : Leaf) → IsGroupUpTo n list ty numbers → slice_get list n ≡ Some l → l.ty ≡ ty → IsGroupUpTo (n + 1) list ty (numbers ++ n ∷ [])
collected_more n list ty numbers l h here is = record {
  sound = λ k c. is_sound k (Contains-append_cases numbers (n ∷ []) k c);
  whole = λ k m less at type. is_whole k m at type less (cases_lt k n);
}
  where
    is_sound : (k : ℕ) → Contains numbers k ⊎ Contains (n ∷ []) k → (m : Leaf) × (slice_get list k ≡ Some m) × (m.ty ≡ ty)
    is_sound k (inl c) = h.sound k c
    is_sound k (inr c) = (l, ap (slice_get list) (sym (one_listed n k c)) ∙ here, is)

    is_whole : (k : ℕ) (m : Leaf) → slice_get list k ≡ Some m → m.ty ≡ ty → k < n + 1 → (k < n) ⊎ (n ≤ k) → Contains (numbers ++ n ∷ []) k
    is_whole k m at type less (inl low) = Contains-append_left numbers (n ∷ []) k (h.whole k m low at type)
    is_whole k m at type less (inr high) = let same : n ≡ k = omega arith in Contains-append_right numbers (n ∷ []) k (0, omega arith, same)

one_leaf : (a b : Leaf) → Some a ≡ Some b → a ≡ b
one_leaf a b e = cc

-- one more leaf of another type
pub collected_past : (n : ℕ) (list : List Leaf) (ty : ℕ) (numbers : List ℕ) (l : Leaf) → IsGroupUpTo n list ty numbers → slice_get list n ≡ Some l → l.ty ≢ ty → IsGroupUpTo (n + 1) list ty numbers
collected_past n list ty numbers l h here other = record {
  sound = h.sound;
  whole = λ k m less at type. is_whole k m at type less (cases_lt k n);
}
  where
    is_whole : (k : ℕ) (m : Leaf) → slice_get list k ≡ Some m → m.ty ≡ ty → k < n + 1 → (k < n) ⊎ (n ≤ k) → Contains numbers k
    is_whole k m at type less (inl low) = h.whole k m low at type
    is_whole k m at type less (inr high) =
        let same : k ≡ n = omega arith in
        let one : m ≡ l = one_leaf m l (sym at ∙ (ap (slice_get list) same ∙ here)) in
        absurd (other (ap (λ x. x.ty) (sym one) ∙ type))

pub collected_all : (list : List Leaf) (ty : ℕ) (numbers : List ℕ) (n : ℕ) → length list ≤ n → IsGroupUpTo n list ty numbers → IsGroup list ty numbers
collected_all list ty numbers n end h = record {
  sound = h.sound;
  whole = λ k l at is. (let less = slice_get_within list k l at in h.whole k l (omega arith) at is);
}

-- each group is that of its type as far as the leaves before a number go, and there is one for each type
pub record AreGroupedUpTo (n : ℕ) (list : List Leaf) (groups : List (Vec ℕ Global)) : Type 0 where
  pub each : (ty : ℕ) (v : Vec ℕ Global) → slice_get groups ty ≡ Some v → IsGroupUpTo n list ty v.items
  pub above : All (λ l. l.ty < length groups) list

pub grouped_none : (list : List Leaf) (groups : List (Vec ℕ Global)) (count : ℕ) → All (λ l. l.ty < count) list → length groups ≡ count → All (λ v. v.items ≡ []) groups → AreGroupedUpTo 0 list groups
grouped_none list groups count above is empty = record {
  each = λ ty v at. subst (IsGroupUpTo 0 list ty) (sym (All-contains (λ (u : Vec ℕ Global). u.items ≡ []) groups v empty (ty, slice_get_within groups ty v at, get_or_from_slice_get groups ty v v at))) (collected_none list ty);
  above = subst (λ n. All (λ (l : Leaf). l.ty < n) list) (sym is) above;
}

-- one more leaf
pub grouped_more : (n : ℕ) (list : List Leaf) (old new : List (Vec ℕ Global)) (l : Leaf) → AreGroupedUpTo n list old → slice_get list n ≡ Some l → HasOneMore old new l.ty n → AreGroupedUpTo (n + 1) list new
grouped_more n list old new l h here m = record {
  each = λ ty v at. by ty v (nat_eq ty l.ty) refl at;
  above = subst (λ k. All (λ (x : Leaf). x.ty < k) list) (sym m.count) h.above;
}
  where
    by : (ty : ℕ) (v : Vec ℕ Global) (b : Bool) → nat_eq ty l.ty ≡ b → slice_get new ty ≡ Some v → IsGroupUpTo (n + 1) list ty v.items
    by ty v true e at =
        let same : ty ≡ l.ty = eqb-true ty l.ty e in
        let w = m.more v (ap (slice_get new) (sym same) ∙ at) in
        subst (IsGroupUpTo (n + 1) list ty) (sym w.2) (collected_more n list ty w.0.items l (h.each ty w.0 (ap (slice_get old) same ∙ w.1)) here (sym same))
    by ty v false e at =
        let other : l.ty ≢ ty = λ same. false≢true (sym e ∙ eq-eqb ty l.ty (sym same)) in
        collected_past n list ty v.items l (h.each ty v (sym (m.others ty (λ same. other (sym same))) ∙ at)) here other

beyond : (xs : List (Vec ℕ Global)) (i : ℕ) → i < length xs → slice_get xs i ≡ None → ⊥
beyond [] i less none = absurd (omega arith)
beyond (x ∷ xs) zero less none = absurd cc
beyond (x ∷ xs) (suc i) less none = beyond xs i (omega arith) none

pub grouped_all : (list : List Leaf) (groups : List (Vec ℕ Global)) (n : ℕ) → length list ≤ n → AreGroupedUpTo n list groups → AreGrouped list (slice_get groups)
grouped_all list groups n end h = record {
  groups = λ ty v at. collected_all list ty v.items n end (h.each ty v at);
  whole = λ k l at none. beyond groups l.ty (All-contains (λ (x : Leaf). x.ty < length groups) list l h.above (k, slice_get_within list k l at, get_or_from_slice_get list k l l at)) none;
}

-- what is read where a list was written
pub written : {X : Type 0} (xs : List X) (i j : ℕ) (x : X) → j ≢ i → slice_get (set xs i x) j ≡ slice_get xs j
written [] i j x other = refl
written (y ∷ ys) zero zero x other = absurd (other refl)
written (y ∷ ys) zero (suc j) x other = refl
written (y ∷ ys) (suc i) zero x other = refl
written (y ∷ ys) (suc i) (suc j) x other = written ys i j x (λ same. other (ap (λ n. suc n) same))

pub written_there : {X : Type 0} (xs : List X) (i : ℕ) (x v : X) → slice_get (set xs i x) i ≡ Some v → v ≡ x
written_there [] i x v at = absurd cc
written_there (y ∷ ys) zero x v at = cc
written_there (y ∷ ys) (suc i) x v at = written_there ys i x v at

-- a number above the types of the leaves, with one leaf more
pub above_more : (list : List Leaf) (i : ℕ) (l : Leaf) (count next : ℕ) → i < length list → l ≡ get_or list i l → All (λ m. m.ty < count) (take i list) → next ≡ l.ty + 1 → All (λ m. m.ty < max count next) (take (i + 1) list)
above_more list i l count next within at h is =
    All-more (λ m. m.ty < max count next) list i l within (All-weaker (λ m. m.ty < count) (λ m. m.ty < max count next) (λ m less. omega arith) (take i list) h)
    (subst (λ m. m.ty < max count next) at (omega arith))

-- the list at the place with one number more
pub pushed : (groups : List (Vec ℕ Global)) (ty number : ℕ) (d after : Vec ℕ Global) → ty < length groups → after.items ≡ (get_or groups ty d).items ++ number ∷ [] → HasOneMore groups (set groups ty after) ty number
pushed groups ty number d after within is = record {
  count = length-set groups ty after;
  others = λ t other. written groups ty t after other;
  more = λ v at. (get_or groups ty d, slice_get-get_or groups ty d within, ap (λ (u : Vec ℕ Global). u.items) (written_there groups ty after v at) ∙ is);
}
