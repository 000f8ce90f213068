-- Bytes that are marked by the bits of a number.
use Rattle.std.proofs.Common.{◌≡◌, ℕ, ◌<◌, ◌≤◌, ◌==◌, ◌^◌, Bool, List, length, take, map, get_or, true, false, Some, refl, sym, ◌∙◌, ap, arith, cond, inl, inr, w64}
use Rattle.std.specs.Prelude.{nat_lt}
use Rattle.std.specs.Int.{bit_at, trailing_zeros}
use Rattle.std.specs.Simd.Lanes.{mask_l}
use Rattle.std.proofs.lemmas.Bool.{cases_Bool, ltb-true, ltb-false, eqb-true}
use Rattle.std.proofs.lemmas.Simd.{bit_mask_l}
use Rattle.std.proofs.lemmas.List.{length-take, get_or-take, get_or_past}
use Rattle.std.proofs.lemmas.Nat.Bits.{bit_at-zero, bit_at-trailing_zeros}
use Rattle.std.proofs.Math.ListN.{get_or-map}
use Rattle.std.proofs.lemmas.List.Folds.{list_any_none}
use Rattle.std.specs.List.{list_any}
use Rattle.std.proofs.lemmas.Grind.{get_or_default_zero}
use Rattle.memchr.specs.Find.{IsFirstByte, Nowhere, Passes, is_byte}
use Rattle.event_reader.proofs.Texts.{by_cases}

-- the bit of a place is set where the byte stands there
bit_is : (n : ℕ) → (0 == n) ≡ false → (xs : List ℕ) (k : ℕ) → bit_at (mask_l (map (is_byte n) (take 16 xs))) k ≡ cond (is_byte n (get_or (take 16 xs) k 0)) 1 0
bit_is n z xs k =
    bit_mask_l (map (is_byte n) (take 16 xs)) k
    ∙ ap (λ b. cond (get_or (map (is_byte n) (take 16 xs)) k b) 1 0) (sym z)
    ∙ ap (λ b. cond b 1 0) (get_or-map (is_byte n) (take 16 xs) k 0)

marked : (n : ℕ) → (0 == n) ≡ false → (xs : List ℕ) (k : ℕ) → k < 16 → Passes (is_byte n) xs k → bit_at (mask_l (map (is_byte n) (take 16 xs))) k ≡ 1
marked n z xs k less p =
    bit_is n z xs k ∙ ap (λ b. cond (is_byte n b) 1 0) (get_or-take 16 xs k 0 less) ∙ ap (λ b. cond b 1 0) p

pub none_marked : (n : ℕ) → (0 == n) ≡ false → (xs : List ℕ) (marks : ℕ) → marks ≡ mask_l (map (is_byte n) (take 16 xs)) → marks ≡ 0 → Nowhere (Passes (is_byte n) xs) 0 16
none_marked n z xs marks is none k low high p =
    let set : bit_at marks k ≡ 1 = ap (λ m. bit_at m k) is ∙ marked n z xs k high p in
    let unset : bit_at marks k ≡ 0 = ap (λ m. bit_at m k) none ∙ bit_at-zero k in
    omega (arith, set, unset)

holds : (b : Bool) → cond {A = ℕ} b 1 0 ≡ 1 → b ≡ true
holds true e = refl
holds false e = absurd (omega (arith, e))

set_bit : (n : ℕ) → (0 == n) ≡ false → (xs : List ℕ) (k : ℕ) → bit_at (mask_l (map (is_byte n) (take 16 xs))) k ≡ 1 → (k < 16) × Passes (is_byte n) xs k
set_bit n z xs k e = elim (cases_Bool (nat_lt k 16)) [
  | inl less ↦
      let low : k < 16 = ltb-true k 16 less in
      (low, ap (is_byte n) (sym (get_or-take 16 xs k 0 low)) ∙ holds (is_byte n (get_or (take 16 xs) k 0)) (sym (bit_is n z xs k) ∙ e))
  | inr more ↦
      let none : get_or (take 16 xs) k 0 ≡ 0 = get_or_past (take 16 xs) k 0 (omega (arith, length-take 16 xs, ltb-false k 16 more)) in
      let unset : bit_at (mask_l (map (is_byte n) (take 16 xs))) k ≡ 0 = bit_is n z xs k ∙ ap (λ b. cond (is_byte n b) 1 0) none ∙ ap (λ b. cond b 1 0) z in
      absurd (omega (arith, unset, e))
]

pub first_marked : (n : ℕ) → (0 == n) ≡ false → (xs : List ℕ) (marks : ℕ) → 16 ≤ length xs → marks ≡ mask_l (map (is_byte n) (take 16 xs)) → 0 < marks → marks < 2 ^ 64 → IsFirstByte (is_byte n) xs (Some (trailing_zeros w64 marks))
first_marked n z xs marks long is some fits =
    let first = bit_at-trailing_zeros w64 marks some fits in
    let here = set_bit n z xs (trailing_zeros w64 marks) (ap (λ m. bit_at m (trailing_zeros w64 marks)) (sym is) ∙ first.1) in (
      record {
        low = omega arith;
        high = omega (arith, here.0);
        before = λ k low high p.
            let set : bit_at marks k ≡ 1 = ap (λ m. bit_at m k) is ∙ marked n z xs k (omega (arith, here.0)) p in
            omega (arith, set, first.2 k high);
      },
      here.1,
    )

-- before the first place of a byte
pub none_in_front : (n : ℕ) (xs : List ℕ) (k : ℕ) → k < length xs → Nowhere (Passes (is_byte n) xs) 0 k → list_any (λ b. b == n) (take k xs) ≡ false
none_in_front n xs k within none =
    let l : length (take k xs) ≡ k = omega (arith, length-take k xs) in
    list_any_none (λ b. b == n) (take k xs) (λ i d h. by_cases _ (λ e.
    let below : i < k = omega arith in
    let same : get_or (take k xs) i d ≡ get_or xs i 0 = get_or-take k xs i d below ∙ get_or_default_zero xs i d (omega arith) in
    none i (omega arith) below (ap (λ b. b == n) (sym same) ∙ e)))

first_place : (n : ℕ) (xs : List ℕ) (k : ℕ) → IsFirstByte (is_byte n) xs (Some k) → (k < length xs) × (list_any (λ b. b == n) (take k xs) ≡ false) × (get_or xs k 0 ≡ n)
first_place n xs k first = (first.0.high, none_in_front n xs k first.0.high first.0.before, eqb-true (get_or xs k 0) n first.1)

-- the first byte that is marked
pub mark_place : (n : ℕ) → (0 == n) ≡ false → (xs : List ℕ) (marks : ℕ) → 16 ≤ length xs → marks ≡ mask_l (map (is_byte n) (take 16 xs)) → 0 < marks → marks < 2 ^ 64 → (trailing_zeros w64 marks < length xs) × (list_any (λ b. b == n) (take (trailing_zeros w64 marks) xs) ≡ false) × (get_or xs (trailing_zeros w64 marks) 0 ≡ n)
mark_place n z xs marks long is some fits = first_place n xs (trailing_zeros w64 marks) (first_marked n z xs marks long is some fits)
