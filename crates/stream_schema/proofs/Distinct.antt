-- Names that stand once in a list.
use Rattle.std.proofs.Common.{◌≡◌, refl, sym, ap, ap₂, subst, ◌∙◌, ℕ, zero, suc, ◌+◌, ◌<◌, cond, Bool, true, false, ◌||◌, List, [], ◌∷◌, ◌++◌, map, length, take, drop, get_or, Option, Some, None, All, Contains, slice_get, option_map, option_and_then, arith, bytes_eq, inl, inr}
use Rattle.std.specs.List.{list_any, position_from}
use Rattle.std.proofs.lemmas.Slice.Eq.{bytes_eq-Decides}
use Rattle.std.proofs.lemmas.Option.{slice_get-map, slice_get_within, get_or_from_slice_get}
use Rattle.std.proofs.lemmas.List.{map-append, take-append-drop, take_more}
use Rattle.std.proofs.Math.Seq.{drop-cons}
use Rattle.std.proofs.lemmas.List.Elements.{Contains-push_cases, Contains-append_right}
use Rattle.cer_base.specs.Repeats.{HasNoRepeats}
use Rattle.stream_schema.specs.declared.Attr.{Attr}
use Rattle.stream_schema.specs.Declaring.{repeats_name}
use Rattle.stream_schema.proofs.Indexed.{bytes_eq-flip}

both_ways : (b : Bool) → b ≡ false → b ≡ true → ⊥
both_ways b f t = absurd cc

-- what stands at a place is in the list
pub stands_in : {A : Type 0} (xs : List A) (i : ℕ) (x : A) → slice_get xs i ≡ Some x → Contains xs x
stands_in xs i x at = (i, slice_get_within xs i x at, get_or_from_slice_get xs i x x at)

place_step : (n : List ℕ) (ns : List (List ℕ)) (name : List ℕ) (i k : ℕ) (b : Bool) → bytes_eq n name ≡ b → HasNoRepeats (n ∷ ns) → ((j k : ℕ) → slice_get ns k ≡ Some name → position_from (λ m. bytes_eq m name) j ns ≡ Some (j + k)) → slice_get (n ∷ ns) k ≡ Some name → cond b (Some i) (position_from (λ m. bytes_eq m name) (i + 1) ns) ≡ Some (i + k)
place_step n ns name i zero true e once later at = ap (λ j. Some j) (let s : i ≡ i + 0 = omega arith in s)
place_step n ns name i zero false e once later at = let s : n ≡ name = cc in absurd (both_ways (bytes_eq n name) e ((bytes_eq-Decides n name).1 s))
place_step n ns name i (suc k) true e once later at =
    absurd (once.0 (subst (Contains ns) (sym ((bytes_eq-Decides n name).0 e)) (stands_in ns k name at)))
place_step n ns name i (suc k) false e once later at =
    later (i + 1) k at ∙ ap (λ j. Some j) (let s : (i + 1) + k ≡ i + suc k = omega arith in s)

place_from : (names : List (List ℕ)) (name : List ℕ) → HasNoRepeats names → (i k : ℕ) → slice_get names k ≡ Some name → position_from (λ m. bytes_eq m name) i names ≡ Some (i + k)
place_from [] name once i k at = absurd cc
place_from (n ∷ ns) name once i k at = place_step n ns name i k (bytes_eq n name) refl once (place_from ns name once.1) at

-- the only place of a name is the one that is found
pub place_found : (names : List (List ℕ)) (name : List ℕ) → HasNoRepeats names → (k : ℕ) → slice_get names k ≡ Some name → position_from (λ m. bytes_eq m name) 0 names ≡ Some k
place_found names name once k at = place_from names name once 0 k at ∙ ap (λ j. Some j) (let s : 0 + k ≡ k = omega arith in s)

-- the same of the names of what is listed
pub position-map : {A : Type 0} (f : A → List ℕ) (xs : List A) (name : List ℕ) (i : ℕ) → position_from (λ m. bytes_eq m name) i (map f xs) ≡ position_from (λ x. bytes_eq (f x) name) i xs
position-map f [] name i = refl
position-map f (x ∷ xs) name i = ap (λ p. cond (bytes_eq (f x) name) (Some i) p) (position-map f xs name (i + 1))

pub any-map : {A : Type 0} (f : A → List ℕ) (xs : List A) (name : List ℕ) → list_any (λ m. bytes_eq m name) (map f xs) ≡ list_any (λ x. bytes_eq (f x) name) xs
any-map f [] name = refl
any-map f (x ∷ xs) name = ap (λ b. bytes_eq (f x) name || b) (any-map f xs name)

pub one_found : {A : Type 0} (f : A → List ℕ) (xs : List A) (name : List ℕ) → HasNoRepeats (map f xs) → (k : ℕ) (x : A) → slice_get xs k ≡ Some x → f x ≡ name → position_from (λ y. bytes_eq (f y) name) 0 xs ≡ Some k
one_found f xs name once k x at is =
    sym (position-map f xs name 0) ∙ place_found (map f xs) name once k (slice_get-map f xs k ∙ ap (option_map f) at ∙ ap (λ n. Some n) is)

left : (a b : Bool) → (a || b) ≡ false → a ≡ false
left false b e = refl
left true b e = absurd cc

right : (a b : Bool) → (a || b) ≡ false → b ≡ false
right false b e = e
right true b e = absurd cc

-- a name that no test finds is not in the list
not_among : (names : List (List ℕ)) (name : List ℕ) → list_any (λ n. bytes_eq n name) names ≡ false → Contains names name → ⊥
not_among [] name e (k, within, at) = absurd (omega arith)
not_among (n ∷ ns) name e (zero, within, at) = both_ways (bytes_eq n name) (left (bytes_eq n name) _ e) ((bytes_eq-Decides n name).1 at)
not_among (n ∷ ns) name e (suc k, within, at) = not_among ns name (right (bytes_eq n name) _ e) (k, omega arith, at)

-- and one that is not in the list no test finds
pub none_among : (names : List (List ℕ)) (name : List ℕ) → (Contains names name → ⊥) → list_any (λ n. bytes_eq n name) names ≡ false
none_among [] name absent = refl
none_among (n ∷ ns) name absent = ap₂ (λ a b. a || b) (first (bytes_eq n name) refl) (none_among ns name (λ has. absent (Contains-append_right (n ∷ []) ns name has)))
  where
    first : (b : Bool) → bytes_eq n name ≡ b → bytes_eq n name ≡ false
    first true e = absurd (absent (0, omega arith, (bytes_eq-Decides n name).0 e))
    first false e = e

-- one more name that is not among them
pub repeats_not : (names : List (List ℕ)) (name : List ℕ) → HasNoRepeats names → list_any (λ n. bytes_eq n name) names ≡ false → HasNoRepeats (names ++ name ∷ [])
repeats_not [] name once new = ((λ (k, within, at). absurd (omega arith)), tt)
repeats_not (n ∷ ns) name once new = (fresh, repeats_not ns name once.1 (right (bytes_eq n name) _ new))
  where
    fresh : Contains (ns ++ name ∷ []) n → ⊥
    fresh has = elim (Contains-push_cases ns name n has) [
      | inl h ↦ once.0 h
      | inr same ↦ both_ways (bytes_eq n name) (left (bytes_eq n name) _ new) ((bytes_eq-Decides n name).1 (sym same))
    ]

-- in a list without repeats no name stands before itself
not_before : (xs : List (List ℕ)) (y : List ℕ) (ys : List (List ℕ)) → HasNoRepeats (xs ++ y ∷ ys) → list_any (λ n. bytes_eq n y) xs ≡ false
not_before [] y ys once = refl
not_before (x ∷ xs) y ys once = ap₂ (λ a b. a || b) (first (bytes_eq x y) refl) (not_before xs y ys once.1)
  where
    first : (b : Bool) → bytes_eq x y ≡ b → bytes_eq x y ≡ false
    first true e = absurd (once.0 (subst (Contains (xs ++ y ∷ ys)) (sym ((bytes_eq-Decides x y).0 e)) (Contains-append_right xs (y ∷ ys) y (0, omega arith, refl))))
    first false e = e

split : {A : Type 0} (xs : List A) (i : ℕ) (d : A) → i < length xs → xs ≡ take i xs ++ get_or xs i d ∷ drop (suc i) xs
split xs i d within = sym (take-append-drop i xs) ∙ ap (λ ys. take i xs ++ ys) (drop-cons xs i d within)

later_is : (attrs : List Attr) (name : List ℕ) → list_any (λ b. bytes_eq b.name name) attrs ≡ list_any (λ n. bytes_eq n name) (map (λ a. a.name) attrs)
later_is attrs name = sym (any-map (λ a. a.name) attrs name)

-- attributes of which none has the name of a later one
pub once_named : (attrs : List Attr) → repeats_name attrs ≡ false → HasNoRepeats (map (λ a. a.name) attrs)
once_named [] e = tt
once_named (a ∷ later) e =
    (not_among (map (λ b. b.name) later) a.name (sym (later_is later a.name) ∙ left (list_any (λ b. bytes_eq b.name a.name) later) _ e), once_named later (right (list_any (λ b. bytes_eq b.name a.name) later) _ e))

pub never_repeated : (attrs : List Attr) → HasNoRepeats (map (λ a. a.name) attrs) → repeats_name attrs ≡ false
never_repeated [] once = refl
never_repeated (a ∷ later) once = ap₂ (λ x y. x || y) (later_is later a.name ∙ none_among (map (λ b. b.name) later) a.name once.0) (never_repeated later once.1)

repeated_at : (attrs : List Attr) (i : ℕ) (d : Attr) → i < length attrs → list_any (λ n. bytes_eq n (get_or attrs i d).name) (map (λ a. a.name) (take i attrs)) ≡ true → (b : Bool) → repeats_name attrs ≡ b → true ≡ repeats_name attrs
repeated_at attrs i d within before true e = sym e
repeated_at attrs i d within before false e =
    let whole = ap (map (λ (a : Attr). a.name)) (split attrs i d within) ∙ map-append (λ (a : Attr). a.name) (take i attrs) (get_or attrs i d ∷ drop (suc i) attrs) in
    absurd (both_ways _ (not_before (map (λ a. a.name) (take i attrs)) (get_or attrs i d).name (map (λ a. a.name) (drop (suc i) attrs)) (subst HasNoRepeats whole (once_named attrs e))) before)

-- where the name of an attribute stands before it
pub repeated : (attrs : List Attr) (i : ℕ) (a : Attr) (names : List (List ℕ)) (name : List ℕ) → i < length attrs → a ≡ get_or attrs i a → names ≡ map (λ b. b.name) (take i attrs) → name ≡ a.name → list_any (λ n. bytes_eq n name) names ≡ true → true ≡ repeats_name attrs
repeated attrs i a names name within at named is before =
    repeated_at attrs i a within (sym (ap₂ (λ n ns. list_any (λ m. bytes_eq m n) ns) (is ∙ ap (λ (b : Attr). b.name) at) named) ∙ before) (repeats_name attrs) refl

-- one attribute more
pub one_more : (attrs : List Attr) (i : ℕ) (a : Attr) (names : List (List ℕ)) (name : List ℕ) → i < length attrs → a ≡ get_or attrs i a → names ≡ map (λ b. b.name) (take i attrs) → name ≡ a.name → names ++ name ∷ [] ≡ map (λ b. b.name) (take (i + 1) attrs)
one_more attrs i a names name within at named is =
    ap₂ (λ ns n. ns ++ n ∷ []) named (is ∙ ap (λ (b : Attr). b.name) at) ∙ sym (ap (map (λ (b : Attr). b.name)) (take_more attrs i a within) ∙ map-append (λ (b : Attr). b.name) (take i attrs) (get_or attrs i a ∷ []))
