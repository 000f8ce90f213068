-- The nodes of an arena are what its first places hold: read, written, one more, and cut.
use Rattle.std.proofs.Common.{◌≡◌, ℕ, zero, suc, ◌+◌, ◌<◌, ◌≤◌, List, [], ◌∷◌, ◌++◌, length, map, take, set, get_or, Option, Some, None, refl, sym, ap, ◌∙◌, arith, length-set}
use Rattle.std.specs.Prelude.{slice_get}
use Rattle.std.proofs.lemmas.List.{length-map, length-take, get_or-take, take-take, take-map, take_more_set, map-set, map_push}
use Rattle.tecs_arena.specs.Chunks.{IsFilled, values_of}

module _ {X : Type 0} where
  -- the first n places all hold a value
  abbrev pub AreHeld : ℕ → List (Option X) → Type 0
  AreHeld n cs = (n ≤ length cs) × (map (λ x. Some x) (values_of (take n cs)) ≡ take n cs)

  values_of-map : (xs : List X) → values_of (map (λ x. Some x) xs) ≡ xs
  values_of-map [] = refl
  values_of-map (x ∷ xs) = ap (λ ys. x ∷ ys) (values_of-map xs)

  pub held_length : (n : ℕ) (cs : List (Option X)) → AreHeld n cs → length (values_of (take n cs)) ≡ n
  held_length n cs h = sym (length-map (values_of (take n cs)) (λ x. Some x)) ∙ ap length h.1 ∙ length-take n cs ∙ omega (arith, h.0)

  filled_at : (xs : List X) (i : ℕ) → i < length xs → IsFilled (map (λ x. Some x) xs) i
  filled_at [] i lt = absurd (omega arith)
  filled_at (x ∷ xs) zero lt = (x, refl)
  filled_at (x ∷ xs) (suc i) lt = filled_at xs i (omega arith)

  told_at : (xs : List X) (i : ℕ) (x : X) → get_or (map (λ y. Some y) xs) i None ≡ Some x → slice_get xs i ≡ Some x
  told_at [] i x e = absurd cc
  told_at (y ∷ xs) zero x e = e
  told_at (y ∷ xs) (suc i) x e = told_at xs i x e

  same_at : (n i : ℕ) (cs : List (Option X)) → AreHeld n cs → i < length (values_of (take n cs)) → get_or (map (λ x. Some x) (values_of (take n cs))) i None ≡ get_or cs i None
  same_at n i cs h lt = let l = held_length n cs h in ap (λ ds. get_or ds i None) h.1 ∙ get_or-take n cs i None (omega arith)

  pub held_filled : (n i : ℕ) (cs : List (Option X)) → AreHeld n cs → i < length (values_of (take n cs)) → IsFilled cs i
  held_filled n i cs h lt = let f = filled_at (values_of (take n cs)) i lt in (f.0, sym (same_at n i cs h lt) ∙ f.1)

  pub held_told : (n i : ℕ) (x : X) (cs : List (Option X)) → AreHeld n cs → i < length (values_of (take n cs)) → get_or cs i None ≡ Some x → slice_get (values_of (take n cs)) i ≡ Some x
  held_told n i x cs h lt e = told_at (values_of (take n cs)) i x (same_at n i cs h lt ∙ e)

  take_set : (cs : List (Option X)) (n i : ℕ) (v : Option X) → i < n → take n (set cs i v) ≡ set (take n cs) i v
  take_set cs zero i v lt = absurd (omega arith)
  take_set [] (suc n) i v lt = refl
  take_set (c ∷ cs) (suc n) zero v lt = refl
  take_set (c ∷ cs) (suc n) (suc i) v lt = ap (λ ds. c ∷ ds) (take_set cs n i v (omega arith))

  -- places that begin with values hold exactly these
  held_is : (n : ℕ) (cs : List (Option X)) (xs : List X) → n ≤ length cs → take n cs ≡ map (λ x. Some x) xs → AreHeld n cs × (values_of (take n cs) ≡ xs)
  held_is n cs xs le e = let same : values_of (take n cs) ≡ xs = ap values_of e ∙ values_of-map xs in ((le, ap (map (λ x. Some x)) same ∙ sym e), same)

  pub held_put : (n i : ℕ) (v : X) (cs new : List (Option X)) → AreHeld n cs → i < length (values_of (take n cs)) → new ≡ set cs i (Some v) → AreHeld n new × (values_of (take n new) ≡ set (values_of (take n cs)) i v)
  held_put n i v cs new h lt e =
      let l = held_length n cs h in let long : n ≤ length new = omega (arith, ap length e, length-set cs i (Some v), h.0) in
      let is : take n new ≡ map (λ x. Some x) (set (values_of (take n cs)) i v) = ap (take n) e ∙ take_set cs n i (Some v) (omega arith) ∙ ap (λ ds. set ds i (Some v)) (sym h.1) ∙ sym (map-set (λ x. Some x) (values_of (take n cs)) i v) in
      held_is n new (set (values_of (take n cs)) i v) long is

  pub held_push : (n : ℕ) (v : X) (cs mid new : List (Option X)) → AreHeld n cs → take n mid ≡ take n cs → n < length mid → new ≡ set mid n (Some v) → AreHeld (n + 1) new × (values_of (take (n + 1) new) ≡ values_of (take n cs) ++ v ∷ [])
  held_push n v cs mid new h same lt e =
      let long : n + 1 ≤ length new = omega (arith, ap length e, length-set mid n (Some v)) in
      let is : take (n + 1) new ≡ map (λ x. Some x) (values_of (take n cs) ++ v ∷ []) = ap (take (n + 1)) e ∙ take_more_set mid n (Some v) lt ∙ ap (λ ds. ds ++ Some v ∷ []) (same ∙ sym h.1) ∙ sym (map_push (λ x. Some x) (values_of (take n cs)) v) in
      held_is (n + 1) new (values_of (take n cs) ++ v ∷ []) long is

  pub held_cut : (n m : ℕ) (cs : List (Option X)) → AreHeld n cs → m ≤ length (values_of (take n cs)) → AreHeld m cs × (values_of (take m cs) ≡ take m (values_of (take n cs)))
  held_cut n m cs h le =
      let l = held_length n cs h in let below : m ≤ n = omega arith in
      let is : take m cs ≡ map (λ x. Some x) (take m (values_of (take n cs))) = sym (take-take m n cs below) ∙ ap (take m) (sym h.1) ∙ take-map (λ x. Some x) m (values_of (take n cs)) in
      held_is m cs (take m (values_of (take n cs))) (omega (arith, h.0)) is
