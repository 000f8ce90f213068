-- The first place at which a test passes.
use Rattle.std.proofs.Common.{◌≡◌, refl, ap, ◌∙◌, ℕ, suc, ◌+◌, cond, Bool, true, false, List, [], ◌∷◌, Some, arith, slice_get}
use Rattle.std.specs.List.{position_from}

-- where places are counted from i
found_from : {A : Type 0} (passes : A → Bool) (i : ℕ) (xs : List A) (k : ℕ) → position_from passes i xs ≡ Some k → (j : ℕ) × (k ≡ i + j) × (x : A) × (slice_get xs j ≡ Some x) × (passes x ≡ true)
found_from passes i [] k e = absurd cc
found_from {A = A} passes i (y ∷ ys) k e = step (passes y) refl (found_from passes (i + 1) ys k) e
  where
    step : (b : Bool) → passes y ≡ b → (position_from passes (i + 1) ys ≡ Some k → (j : ℕ) × (k ≡ (i + 1) + j) × (x : A) × (slice_get ys j ≡ Some x) × (passes x ≡ true)) → cond b (Some i) (position_from passes (i + 1) ys) ≡ Some k → (j : ℕ) × (k ≡ i + j) × (x : A) × (slice_get (y ∷ ys) j ≡ Some x) × (passes x ≡ true)
    step true p later e = let s : i ≡ k = cc in (0, omega arith, y, refl, p)
    step false p later e = let r = later e in let s : k ≡ (i + 1) + r.0 = r.1 in (suc r.0, omega arith, r.2, r.3, r.4)

-- an element that passes stands at the place that was found
pub found : {A : Type 0} (passes : A → Bool) (xs : List A) (k : ℕ) → position_from passes 0 xs ≡ Some k → (x : A) × (slice_get xs k ≡ Some x) × (passes x ≡ true)
found passes xs k e =
    let r = found_from passes 0 xs k e in
    let s : k ≡ r.0 = (let q : k ≡ 0 + r.0 = r.1 in omega arith) in
    (r.2, ap (λ n. slice_get xs n) s ∙ r.3, r.4)
