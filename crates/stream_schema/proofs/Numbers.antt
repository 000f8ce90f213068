-- Decimal numbers compared by value.
use Rattle.std.proofs.Common.{◌≡◌, refl, sym, ap, ◌∙◌, ℕ, zero, suc, ◌+◌, ◌-◌, ◌*◌, ◌^◌, ◌<◌, ◌≤◌, ℤ, pos, negsuc, arith, Ordering, Less, Equal, Greater}
use Rattle.std.specs.Ordering.{nat_cmp, int_cmp, ordering_reverse, MatchOrdering}
use Rattle.std.specs.Cmp.{nat_cmp_is}
use Rattle.std.proofs.lemmas.Grind.{pow_more}
use Rattle.std.proofs.lemmas.Nat.{pow-add}
use lib.IntN.{neg_ℤ}
use Rattle.std.specs.Prelude.{◌<ℤ◌, ◌≤ℤ◌}
use Rattle.std.proofs.lemmas.Int.{ints}
use Rattle.std.proofs.lemmas.Cmp.{ranked}
use Rattle.stream_schema.specs.Comparing.{number_cmp}

ranks_map : (o : Ordering) {P Q R P' Q' R' : Type 0} → (P → P') → (Q → Q') → (R → R') → MatchOrdering o P Q R → MatchOrdering o P' Q' R'
ranks_map Less f g h r = f r
ranks_map Equal f g h r = g r
ranks_map Greater f g h r = h r

ranks_turned : (o : Ordering) (P Q R : Type 0) → MatchOrdering o R Q P → MatchOrdering (ordering_reverse o) P Q R
ranks_turned Less P Q R r = r
ranks_turned Equal P Q R r = r
ranks_turned Greater P Q R r = r

pub nat_cmp_turned : (x y : ℕ) → ordering_reverse (nat_cmp y x) ≡ nat_cmp x y
nat_cmp_turned x y =
    nat_cmp_is x y (ordering_reverse (nat_cmp y x))
    (ranks_turned (nat_cmp y x) (x < y) (x ≡ y) (y < x) (ranks_map (nat_cmp y x) (λ (h : y < x). h) (λ (h : y ≡ x). sym h) (λ (h : x < y). h) (ranked y x (nat_cmp y x) refl)))

scaled_less : (x y k : ℕ) → 0 < k → x < y → x * k < y * k
scaled_less x y k some less = grind arith

-- a positive factor of both changes nothing
pub nat_cmp_scaled : (x y k : ℕ) → 0 < k → nat_cmp (x * k) (y * k) ≡ nat_cmp x y
nat_cmp_scaled x y k some =
    sym (nat_cmp_is (x * k) (y * k) (nat_cmp x y)
    (ranks_map (nat_cmp x y) (λ (h : x < y). scaled_less x y k some h) (λ (h : x ≡ y). ap (λ n. n * k) h) (λ (h : y < x). scaled_less y x k some h) (ranked x y (nat_cmp x y) refl)))

pub power_some : (n : ℕ) → 0 < 10 ^ n
power_some zero = omega arith
power_some (suc n) = let h = power_some n in grind arith

pub scaled_more : (x y k : ℕ) → y < x → Greater ≡ nat_cmp (x * 10 ^ k) y
scaled_more x y k more = let h = power_some k in let g : x ≤ x * 10 ^ k = grind arith in nat_cmp_is (x * 10 ^ k) y Greater (omega arith)

regroup : (x p : ℕ) → x * (p * 10) ≡ (x * 10) * p
regroup x p = omega arith

pub scaled_step : (x k : ℕ) → 0 < k → x * 10 ^ k ≡ (x * 10) * 10 ^ (k - 1)
scaled_step x k some =
    let e : (k - 1) + 1 ≡ k = omega arith in
    ap (λ n. x * 10 ^ n) (sym e) ∙ (ap (λ n. x * n) (pow_more 10 (k - 1)) ∙ regroup x (10 ^ (k - 1)))

-- the lesser power is taken from both
pub scaled_apart : (x y p q : ℕ) → q ≤ p → nat_cmp (x * 10 ^ (p - q)) y ≡ nat_cmp (x * 10 ^ p) (y * 10 ^ q)
scaled_apart x y p q le =
    let e : (p - q) + q ≡ p = omega arith in
    let s : 10 ^ p ≡ 10 ^ (p - q) * 10 ^ q = sym (ap (λ n. 10 ^ n) e) ∙ pow-add 10 (p - q) q in
    let t : x * 10 ^ p ≡ (x * 10 ^ (p - q)) * 10 ^ q = grind (arith, s) in
    sym (ap (λ n. nat_cmp n (y * 10 ^ q)) t ∙ nat_cmp_scaled (x * 10 ^ (p - q)) y (10 ^ q) (power_some q))

opposite_less : (n m : ℕ) → 0 < n → Less ≡ int_cmp (neg_ℤ (pos n)) (pos m)
opposite_less zero m some = absurd (omega arith)
opposite_less (suc n) m some = refl

opposite_greater : (n m : ℕ) → 0 < n → Greater ≡ int_cmp (pos m) (neg_ℤ (pos n))
opposite_greater zero m some = absurd (omega arith)
opposite_greater (suc n) m some = refl

pub negative_less : (a : ℤ) (p : ℕ) (b : ℤ) (q : ℕ) → a <ℤ pos 0 → pos 0 ≤ℤ b → Less ≡ number_cmp a p b q
negative_less (pos n) p b q less more = absurd (omega (arith, ints))
negative_less (negsuc n) p (negsuc m) q less more = absurd (omega (arith, ints))
negative_less (negsuc n) p (pos m) q less more = let h = power_some q in opposite_less (suc n * 10 ^ q) (m * 10 ^ p) (grind arith)

pub negative_greater : (a : ℤ) (p : ℕ) (b : ℤ) (q : ℕ) → pos 0 ≤ℤ a → b <ℤ pos 0 → Greater ≡ number_cmp a p b q
negative_greater a p (pos n) q more less = absurd (omega (arith, ints))
negative_greater (negsuc m) p (negsuc n) q more less = absurd (omega (arith, ints))
negative_greater (pos m) p (negsuc n) q more less = let h = power_some p in opposite_greater (suc n * 10 ^ p) (m * 10 ^ q) (grind arith)
