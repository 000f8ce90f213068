-- Membership in lists, by recursion.
use Rattle.std.proofs.Common.{◌≡◌, refl, sym, ap, subst, ◌∙◌, zero, suc, ◌⊎◌, inl, inr, Bool, true, false, ◌||◌, cond, List, [], ◌∷◌, ◌++◌, map, Option, Some, None, arith}
use Rattle.std.specs.Prelude.{Contains, filter}
use Rattle.std.specs.List.{filter_map, flat_map, list_any, cons_option}

abbrev pub Among : {X : Type 0} → X → List X → Type 0
Among x [] = ⊥
Among x (y ∷ ys) = (y ≡ x) ⊎ Among x ys

later_contains : {X : Type 0} (x y : X) (ys : List X) → Contains ys x → Contains (y ∷ ys) x
later_contains x y ys (k, within, at) = (suc k, omega arith, at)

pub contains_from : {X : Type 0} (x : X) (xs : List X) → Among x xs → Contains xs x
contains_from x [] h = absurd h
contains_from x (y ∷ ys) (inl h) = (0, omega arith, h)
contains_from x (y ∷ ys) (inr h) = later_contains x y ys (contains_from x ys h)

pub among_from : {X : Type 0} (x : X) (xs : List X) → Contains xs x → Among x xs
among_from x [] (k, within, at) = absurd (omega arith)
among_from x (y ∷ ys) (zero, within, at) = inl at
among_from x (y ∷ ys) (suc k, within, at) = inr (among_from x ys (k, omega arith, at))

pub among_left : {X : Type 0} (x : X) (xs ys : List X) → Among x xs → Among x (xs ++ ys)
among_left x [] ys h = absurd h
among_left x (z ∷ zs) ys (inl h) = inl h
among_left x (z ∷ zs) ys (inr h) = inr (among_left x zs ys h)

pub among_right : {X : Type 0} (x : X) (xs ys : List X) → Among x ys → Among x (xs ++ ys)
among_right x [] ys h = h
among_right x (z ∷ zs) ys h = inr (among_right x zs ys h)

pub among_cases : {X : Type 0} (x : X) (xs ys : List X) → Among x (xs ++ ys) → Among x xs ⊎ Among x ys
among_cases x [] ys h = inr h
among_cases x (z ∷ zs) ys (inl h) = inl (inl h)
among_cases x (z ∷ zs) ys (inr h) = elim (among_cases x zs ys h) [ inl a ↦ inl (inr a) | inr b ↦ inr b ]

pub among_map : {X Y : Type 0} (f : X → Y) (x : X) (xs : List X) → Among x xs → Among (f x) (map f xs)
among_map f x [] h = absurd h
among_map f x (y ∷ ys) (inl h) = inl (ap f h)
among_map f x (y ∷ ys) (inr h) = inr (among_map f x ys h)

pub map_among : {X Y : Type 0} (f : X → Y) (y : Y) (xs : List X) → Among y (map f xs) → (x : X) × Among x xs × (f x ≡ y)
map_among f y [] h = absurd h
map_among f y (x ∷ xs) (inl h) = (x, inl refl, h)
map_among f y (x ∷ xs) (inr h) = let r = map_among f y xs h in (r.0, inr r.1, r.2)

among_cons : {Y : Type 0} (y : Y) (o : Option Y) (ys : List Y) → Among y ys → Among y (cons_option o ys)
among_cons y None ys h = h
among_cons y (Some z) ys h = inr h

among_here : {Y : Type 0} (y : Y) (o : Option Y) (ys : List Y) → o ≡ Some y → Among y (cons_option o ys)
among_here y None ys h = absurd cc
among_here y (Some z) ys h = inl cc

cons_cases : {Y : Type 0} (y : Y) (o : Option Y) (ys : List Y) → Among y (cons_option o ys) → (o ≡ Some y) ⊎ Among y ys
cons_cases y None ys h = inr h
cons_cases y (Some z) ys (inl h) = inl (ap Some h)
cons_cases y (Some z) ys (inr h) = inr h

pub among_filter_map : {X Y : Type 0} (f : X → Option Y) (x : X) (y : Y) (xs : List X) → Among x xs → f x ≡ Some y → Among y (filter_map f xs)
among_filter_map f x y [] h e = absurd h
among_filter_map f x y (z ∷ zs) (inl h) e = among_here y (f z) (filter_map f zs) (ap f h ∙ e)
among_filter_map f x y (z ∷ zs) (inr h) e = among_cons y (f z) (filter_map f zs) (among_filter_map f x y zs h e)

pub filter_map_among : {X Y : Type 0} (f : X → Option Y) (y : Y) (xs : List X) → Among y (filter_map f xs) → (x : X) × Among x xs × (f x ≡ Some y)
filter_map_among f y [] h = absurd h
filter_map_among f y (x ∷ xs) h =
    elim (cons_cases y (f x) (filter_map f xs) h) [
      | inl e ↦ (x, inl refl, e)
      | inr r ↦ (let s = filter_map_among f y xs r in (s.0, inr s.1, s.2))
    ]

pub among_flat_map : {X Y : Type 0} (f : X → List Y) (x : X) (y : Y) (xs : List X) → Among x xs → Among y (f x) → Among y (flat_map f xs)
among_flat_map f x y [] h k = absurd h
among_flat_map f x y (z ∷ zs) (inl h) k = among_left y (f z) (flat_map f zs) (subst (λ (w : _). Among y (f w)) (sym h) k)
among_flat_map f x y (z ∷ zs) (inr h) k = among_right y (f z) (flat_map f zs) (among_flat_map f x y zs h k)

pub flat_map_among : {X Y : Type 0} (f : X → List Y) (y : Y) (xs : List X) → Among y (flat_map f xs) → (x : X) × Among x xs × Among y (f x)
flat_map_among f y [] h = absurd h
flat_map_among f y (x ∷ xs) h =
    elim (among_cases y (f x) (flat_map f xs) h) [
      | inl a ↦ (x, inl refl, a)
      | inr r ↦ (let s = flat_map_among f y xs r in (s.0, inr s.1, s.2))
    ]

kept_here : {X : Type 0} (x : X) (b : Bool) (xs : List X) → b ≡ true → Among x (cond b (x ∷ xs) xs)
kept_here x true xs e = inl refl
kept_here x false xs e = absurd cc

kept_later : {X : Type 0} (x y : X) (b : Bool) (xs : List X) → Among x xs → Among x (cond b (y ∷ xs) xs)
kept_later x y true xs h = inr h
kept_later x y false xs h = h

kept_cases : {X : Type 0} (x y : X) (b : Bool) (xs : List X) → Among x (cond b (y ∷ xs) xs) → ((y ≡ x) × (b ≡ true)) ⊎ Among x xs
kept_cases x y true xs (inl h) = inl (h, refl)
kept_cases x y true xs (inr h) = inr h
kept_cases x y false xs h = inr h

pub among_filter : {X : Type 0} (p : X → Bool) (x : X) (xs : List X) → Among x xs → p x ≡ true → Among x (filter p xs)
among_filter p x [] h e = absurd h
among_filter p x (y ∷ ys) (inl h) e = subst (λ (z : _). Among x (cond (p y) (z ∷ filter p ys) (filter p ys))) (sym h) (kept_here x (p y) (filter p ys) (ap p h ∙ e))
among_filter p x (y ∷ ys) (inr h) e = kept_later x y (p y) (filter p ys) (among_filter p x ys h e)

pub filter_among : {X : Type 0} (p : X → Bool) (x : X) (xs : List X) → Among x (filter p xs) → Among x xs × (p x ≡ true)
filter_among p x [] h = absurd h
filter_among p x (y ∷ ys) h =
    elim (kept_cases x y (p y) (filter p ys) h) [
      | inl e ↦ (inl e.0, ap p (sym e.0) ∙ e.1)
      | inr r ↦ (let s = filter_among p x ys r in (inr s.0, s.1))
    ]

pub or_here : (a b : Bool) → a ≡ true → (a || b) ≡ true
or_here true b e = refl
or_here false b e = absurd cc

pub or_later : (a b : Bool) → b ≡ true → (a || b) ≡ true
or_later true b e = refl
or_later false b e = e

pub or_cases : (a b : Bool) → (a || b) ≡ true → (a ≡ true) ⊎ (b ≡ true)
or_cases true b e = inl refl
or_cases false b e = inr e

pub any_among : {X : Type 0} (p : X → Bool) (x : X) (xs : List X) → Among x xs → p x ≡ true → list_any p xs ≡ true
any_among p x [] h e = absurd h
any_among p x (y ∷ ys) (inl h) e = or_here (p y) (list_any p ys) (ap p h ∙ e)
any_among p x (y ∷ ys) (inr h) e = or_later (p y) (list_any p ys) (any_among p x ys h e)

pub among_any : {X : Type 0} (p : X → Bool) (xs : List X) → list_any p xs ≡ true → (x : X) × Among x xs × (p x ≡ true)
among_any p [] e = absurd cc
among_any p (x ∷ xs) e =
    elim (or_cases (p x) (list_any p xs) e) [
      | inl h ↦ (x, inl refl, h)
      | inr h ↦ (let s = among_any p xs h in (s.0, inr s.1, s.2))
    ]
