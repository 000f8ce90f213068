-- What an index of names answers, in terms of the list of its names.
use Rattle.std.proofs.Common.{◌≡◌, refl, sym, ap, ap₂, ◌∙◌, ℕ, ◌+◌, Bool, true, false, cond, ◌||◌, List, [], ◌∷◌, ◌++◌, map, Option, Some, None, bytes_eq, nat_eq, vec_len, if◌then◌else◌}
use Rattle.std.specs.Prelude.{Vec, position}
use Rattle.std.specs.declared.alloc.Global.{Global}
use Rattle.std.specs.List.{list_any, position_from, AllZip}
use Rattle.std.specs.Cmp.Lexicographic.{pointwise}
use Rattle.std.proofs.lemmas.Slice.Eq.{bytes_eq-Decides}
use Rattle.std.proofs.lemmas.Iterator.Adapters.{position_from-zero}
use Rattle.std.proofs.lemmas.List.{map-append}

-- the order of the two does not matter
pub bytes_eq-flip : (xs ys : List ℕ) → bytes_eq xs ys ≡ bytes_eq ys xs
bytes_eq-flip xs ys = by (bytes_eq xs ys) (bytes_eq ys xs) refl refl
  where
    by : (a b : Bool) → bytes_eq xs ys ≡ a → bytes_eq ys xs ≡ b → a ≡ b
    by true true e f = refl
    by false false e f = refl
    by true false e f = sym ((bytes_eq-Decides ys xs).1 (sym ((bytes_eq-Decides xs ys).0 e))) ∙ f
    by false true e f = sym e ∙ (bytes_eq-Decides xs ys).1 (sym ((bytes_eq-Decides ys xs).0 f))

place_from : (names : List (Vec ℕ Global)) (name : List ℕ) (i : ℕ) → position_from (λ n. pointwise nat_eq name n.items) i names ≡ position_from (λ n. bytes_eq n name) i (map (λ n. n.items) names)
place_from [] name i = refl
place_from (n ∷ ns) name i = ap₂ (λ b p. cond b (Some i) p) (bytes_eq-flip name n.items) (place_from ns name (i + 1))

pub place_is : (names : List (Vec ℕ Global)) (name : List ℕ) → position (λ n. pointwise nat_eq name n.items) names ≡ position_from (λ n. bytes_eq n name) 0 (map (λ n. n.items) names)
place_is names name = position_from-zero (λ n. pointwise nat_eq name n.items) names ∙ place_from names name 0

pub has_is : (names : List (Vec ℕ Global)) (name : List ℕ) → list_any (λ n. pointwise nat_eq name n.items) names ≡ list_any (λ n. bytes_eq n name) (map (λ n. n.items) names)
has_is [] name = refl
has_is (n ∷ ns) name = ap₂ (λ a b. a || b) (bytes_eq-flip name n.items) (has_is ns name)

either : {A : Type 0} (b : Bool) (x y : A) → b ≡ false → (if b then x else y) ≡ y
either true x y e = absurd cc
either false x y e = refl

-- a name that is not among them goes last
pub added_is : (names : List (Vec ℕ Global)) (more : Vec ℕ Global) (name : List ℕ) → more.items ≡ name → list_any (λ n. bytes_eq n name) (map (λ n. n.items) names) ≡ false → map (λ n. n.items) (if list_any (λ n. pointwise nat_eq more.items n.items) names then names else names ++ more ∷ []) ≡ map (λ n. n.items) names ++ name ∷ []
added_is names more name is new =
    let absent = ap (λ n. list_any (λ m. pointwise nat_eq n m.items) names) is ∙ has_is names name ∙ new in
    ap (map (λ (n : Vec ℕ Global). n.items)) (either (list_any (λ n. pointwise nat_eq more.items n.items) names) names (names ++ more ∷ []) absent)
    ∙ map-append (λ (n : Vec ℕ Global). n.items) names (more ∷ []) ∙ ap (λ n. map (λ (m : Vec ℕ Global). m.items) names ++ n ∷ []) is

same_items : (C : ℕ → ℕ → Type 0) → ((x y : ℕ) → C x y → y ≡ x) → (xs ys : List ℕ) → AllZip C xs ys → ys ≡ xs
same_items C same [] [] h = refl
same_items C same [] (y ∷ ys) h = absurd h
same_items C same (x ∷ xs) [] h = absurd h
same_items C same (x ∷ xs) (y ∷ ys) h = ap₂ (λ b bs. b ∷ bs) (same x y h.0) (same_items C same xs ys h.1)

-- each is a copy of the other's, byte by byte
pub copies_are : (C : ℕ → ℕ → Type 0) → ((x y : ℕ) → C x y → y ≡ x) → (xs ys : List (Vec ℕ Global)) → AllZip (λ v w. AllZip C v.items w.items × (vec_len w ≡ vec_len v)) xs ys → map (λ n. n.items) ys ≡ map (λ n. n.items) xs
copies_are C same [] [] h = refl
copies_are C same [] (y ∷ ys) h = absurd h
copies_are C same (x ∷ xs) [] h = absurd h
copies_are C same (x ∷ xs) (y ∷ ys) h = ap₂ (λ b bs. b ∷ bs) (same_items C same x.items y.items h.0.0) (copies_are C same xs ys h.1)
