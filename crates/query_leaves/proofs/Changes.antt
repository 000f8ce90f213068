-- What changes make of an occurrence, whose lists are kept with the last one first.
use Rattle.std.proofs.Common.{◌≡◌, refl, ap, sym, ◌∙◌, ◌||◌, ℕ, List, [], ◌∷◌, ◌++◌, map, bytes_eq, Bool, true, false}
use Rattle.std.specs.Prelude.{reverse}
use Rattle.std.specs.List.{filter}
use Rattle.std.proofs.lemmas.List.{reverse-append, map-append}
use Rattle.std.proofs.lemmas.List.Elements.{filter-append}
use Rattle.cel_terms.specs.Meaning.{lists_name}

-- one more at the end is one more at the beginning
pub one_more_last : {X Y : Type 0} (f : X → Y) (xs : List X) (x : X) → map f (reverse (xs ++ x ∷ [])) ≡ f x ∷ map f (reverse xs)
one_more_last f xs x = ap (map f) (reverse-append xs (x ∷ []))

-- the first one comes last
pub first_last : {X Y : Type 0} (f : X → Y) (x : X) (xs : List X) → map f (reverse (x ∷ xs)) ≡ map f (reverse xs) ++ f x ∷ []
first_last f x xs = ap (map f) (reverse-append (x ∷ []) xs) ∙ map-append f (reverse xs) (x ∷ [])

either_way : (a b : Bool) → (a || (b || false)) ≡ (b || a)
either_way true true = refl
either_way true false = refl
either_way false true = refl
either_way false false = refl

lists_one_more : (names : List (List ℕ)) (last name : List ℕ) → lists_name (names ++ last ∷ []) name ≡ (lists_name names name || (bytes_eq last name || false))
lists_one_more [] last name = refl
lists_one_more (n ∷ ns) last name = ap (λ b. bytes_eq n name || b) (lists_one_more ns last name) ∙ regroup (bytes_eq n name) (lists_name ns name) (bytes_eq last name || false) where
  regroup : (a b c : Bool) → (a || (b || c)) ≡ ((a || b) || c)
  regroup true b c = refl
  regroup false b c = refl

-- a name is listed from either end
pub lists_reversed : {X : Type 0} (f : X → List ℕ) (xs : List X) (name : List ℕ) → lists_name (map f (reverse xs)) name ≡ lists_name (map f xs) name
lists_reversed f [] name = refl
lists_reversed f (x ∷ xs) name =
    ap (λ l. lists_name l name) (first_last f x xs) ∙ lists_one_more (map f (reverse xs)) (f x) name
    ∙ ap (λ b. b || (bytes_eq (f x) name || false)) (lists_reversed f xs name) ∙ either_way (lists_name (map f xs) name) (bytes_eq (f x) name)

-- what a test leaves of a list from either end
kept_alone : {X : Type 0} (p : X → Bool) (x : X) (ys : List X) (b : Bool) → p x ≡ b → reverse (filter p ys) ++ filter p (x ∷ []) ≡ reverse (filter p (x ∷ ys))
kept_alone p x ys true e = rw e (sym (reverse-append (x ∷ []) (filter p ys)))
kept_alone p x ys false e = rw e (nothing_more (reverse (filter p ys))) where
  nothing_more : {X : Type 0} (l : List X) → l ++ [] ≡ l
  nothing_more [] = refl
  nothing_more (y ∷ l) = ap (λ m. y ∷ m) (nothing_more l)

filter_reversed : {X : Type 0} (p : X → Bool) (xs : List X) → filter p (reverse xs) ≡ reverse (filter p xs)
filter_reversed p [] = refl
filter_reversed p (x ∷ xs) =
    ap (filter p) (reverse-append (x ∷ []) xs) ∙ filter-append p (reverse xs) (x ∷ [])
    ∙ ap (λ l. l ++ filter p (x ∷ [])) (filter_reversed p xs) ∙ kept_alone p x xs (p x) refl

map_reversed : {X Y : Type 0} (f : X → Y) (xs : List X) → map f (reverse xs) ≡ reverse (map f xs)
map_reversed f [] = refl
map_reversed f (x ∷ xs) =
    first_last f x xs ∙ ap (λ l. l ++ f x ∷ []) (map_reversed f xs) ∙ sym (reverse-append (f x ∷ []) (map f xs))

pub kept_reversed : {X Y : Type 0} (p : Y → Bool) (f : X → Y) (xs ys : List X) → map f ys ≡ filter p (map f xs) → map f (reverse ys) ≡ filter p (map f (reverse xs))
kept_reversed p f xs ys e =
    map_reversed f ys ∙ ap reverse e ∙ sym (filter_reversed p (map f xs)) ∙ ap (filter p) (sym (map_reversed f xs))
