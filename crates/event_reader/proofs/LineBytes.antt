-- What tests on the bytes of a line say of each byte.
use Rattle.std.proofs.Common.{◌≡◌, ◌≢◌, ℕ, ◌==◌, List, [], ◌∷◌, take, Bool, true, false, ◌||◌, refl, eq-eqb, suc, zero}
use Rattle.std.specs.List.{list_any, AllByRecursion}
use Rattle.event_reader.specs.Events.{is_bad}
use Rattle.event_reader.proofs.Cuts.{IsPlain}

pub neither : (a b : Bool) → (a || b) ≡ false → (a ≡ false) × (b ≡ false)
neither true b e = absurd (cc)
neither false b e = (refl, e)

pub differs : (a b : ℕ) → (a == b) ≡ false → a ≢ b
differs a b e q = absurd (cc (eq-eqb a b q))

-- what no byte is, no byte of a front part is
pub any_take : (p : ℕ → Bool) (n : ℕ) (xs : List ℕ) → list_any p xs ≡ false → list_any p (take n xs) ≡ false
any_take p zero xs e = refl
any_take p (suc n) [] e = refl
any_take p (suc n) (x ∷ xs) e =
    let both : (p x ≡ false) × (list_any p xs ≡ false) = neither _ _ e in
    rw (both.0) (any_take p n xs both.1)

pub plain_bytes : (line : List ℕ) → list_any (λ b. b == 34) line ≡ false → list_any (λ b. b == 13) line ≡ false → list_any (λ b. b == 10) line ≡ false → AllByRecursion IsPlain line
plain_bytes [] q r f = tt
plain_bytes (c ∷ rest) q r f =
    let q' : ((c == 34) ≡ false) × (list_any (λ b. b == 34) rest ≡ false) = neither _ _ q in
    let r' : ((c == 13) ≡ false) × (list_any (λ b. b == 13) rest ≡ false) = neither _ _ r in
    let f' : ((c == 10) ≡ false) × (list_any (λ b. b == 10) rest ≡ false) = neither _ _ f in
    ((differs c 34 q'.0, differs c 13 r'.0, differs c 10 f'.0), plain_bytes rest q'.1 r'.1 f'.1)

-- a line that is not bad has no carriage return
pub no_return : (line : List ℕ) → is_bad line ≡ false → list_any (λ b. b == 13) line ≡ false
no_return line e = (neither _ _ e).0
