-- Sets as the bits of words: one number in them, their room, and when two are equal. For callers of the crate too.
use Rattle.std.proofs.Common.{◌≡◌, ◌≢◌, ℕ, zero, suc, ◌+◌, ◌-◌, ◌*◌, ◌/◌, ◌%◌, ◌^◌, ◌<◌, ◌≤◌, Bool, true, false, List, [], ◌∷◌, ◌++◌, length, refl, sym, ap, ◌∙◌, inl, inr, arith, length-append, get_or, set, pow-suc, max, min}
use Rattle.std.specs.Prelude.{◌&&◌, ◌||◌, not, eqb, cond, nat_le, nat_lt, map, replicate}
use Rattle.std.specs.Bool.{Decides, beq}
use Rattle.std.specs.Cmp.{booleans_Decides}
use Rattle.std.specs.Cmp.Lexicographic.{pointwise, pointwise_decides}
use Rattle.std.specs.Int.{bit_at, bit_not, w64, trailing_zeros}
use Rattle.std.specs.Int.RustNames.{bit_or}
use Rattle.std.specs.List.{range_with_len}
use lib.Bits.{bit_and}
use Rattle.std.proofs.lemmas.Grind.{common_steps}
use Rattle.std.proofs.lemmas.Bool.{cases_lt, cases_eq, eq-eqb, ne_eqb, le-leb, false≢true, false_from_ne_true}
use Rattle.std.proofs.lemmas.List.{get_or_append_left, get_or-append_right, get_or_past, get_or-set_same, get_or-set_other, get_or-replicate}
use Rattle.std.proofs.lemmas.List.FromFn.{length-map-range_with_len, get_or-map-range_with_len, fill_by_all}
use Rattle.std.proofs.lemmas.List.Edits.{fill_by_more}
use Rattle.std.proofs.lemmas.Nat.{and_le_l}
use Rattle.std.proofs.lemmas.Nat.Bits.{bit_at_and, bit_at_or, bit_at_not, bit_at-trailing_zeros, bit_at-lt, bit_at-suc, bit_at_lowest, bit_at-zero, bit_at_set_same, bit_at_set_other, bit_at_clear_same, bit_at_clear_other, bit_at_mask_inside, bit_at_mask_below, ones_shl, shr_and_one}
use Rattle.cer_base.specs.Bits.{has, room_for, bit, word_bits, bits_of_words, word_with_bits, word_of, words_of}

pub length-word_bits : (w : ℕ) → length (word_bits w) ≡ 64
unfolding word_bits
length-word_bits w = length-map-range_with_len (bit w) 0 64

pub has-word_bits : (w k : ℕ) → k < 64 → has (word_bits w) k ≡ bit w k
unfolding word_bits
has-word_bits w k h = get_or-map-range_with_len (bit w) 0 64 k k false h (omega arith)

pub length_bits_of : (ws : List ℕ) → length (bits_of_words ws) ≡ length ws * 64
length_bits_of [] = refl
length_bits_of (w ∷ ws) = omega (arith, length-append (word_bits w) (bits_of_words ws), length-word_bits w, length_bits_of ws)

pub bit-zero : (i : ℕ) → bit 0 i ≡ false
bit-zero i = rw (bit_at-zero i) refl

-- number 64 q + i is bit i of word q
pub has-bits_of_words_at : (ws : List ℕ) (q i : ℕ) → i < 64 → has (bits_of_words ws) (64 * q + i) ≡ bit (get_or ws q 0) i
has-bits_of_words_at [] q i h = sym (bit-zero i)
has-bits_of_words_at (w ∷ ws) zero i h =
    ap (has (word_bits w ++ bits_of_words ws)) (omega arith) ∙ get_or_append_left (word_bits w) (bits_of_words ws) false i (omega (arith, length-word_bits w)) ∙ has-word_bits w i h
has-bits_of_words_at (w ∷ ws) (suc q) i h =
    get_or-append_right (word_bits w) (bits_of_words ws) 64 (64 * suc q + i) false (length-word_bits w) (omega arith) ∙
    ap (has (bits_of_words ws)) (omega arith) ∙ has-bits_of_words_at ws q i h

pub has-bits_of_words : (ws : List ℕ) (k : ℕ) → has (bits_of_words ws) k ≡ bit (get_or ws (k / 64) 0) (k % 64)
has-bits_of_words ws k =
    let e : k ≡ 64 * (k / 64) + k % 64 = omega arith in
    ap (has (bits_of_words ws)) e ∙ has-bits_of_words_at ws (k / 64) (k % 64) (omega arith)

eqb-max : (x y : ℕ) → x < 2 → y < 2 → eqb (max x y) 1 ≡ eqb x 1 || eqb y 1
eqb-max x y h k = grind arith

eqb-min : (x y : ℕ) → x < 2 → y < 2 → eqb (min x y) 1 ≡ eqb x 1 && eqb y 1
eqb-min x y h k = grind arith

eqb-other : (x : ℕ) → x < 2 → eqb (1 - x) 1 ≡ not (eqb x 1)
eqb-other x h = grind arith

pub bit-or : (a b i : ℕ) → bit (bit_or a b) i ≡ bit a i || bit b i
bit-or a b i = rw (bit_at_or a b i) (eqb-max (bit_at a i) (bit_at b i) (bit_at-lt a i) (bit_at-lt b i))

pub bit-and : (a b i : ℕ) → bit (bit_and a b) i ≡ bit a i && bit b i
bit-and a b i = rw (bit_at_and a b i) (eqb-min (bit_at a i) (bit_at b i) (bit_at-lt a i) (bit_at-lt b i))

pub bit-not : (a i : ℕ) → a < 2 ^ 64 → i < 64 → bit (bit_not w64 a) i ≡ not (bit a i)
bit-not a i h k = rw (bit_at_not w64 a i h k) (eqb-other (bit_at a i) (bit_at-lt a i))

-- Where each word of the new words is made of the two others' by an operation on bits, so are the sets.
pub made_of_both : (on : Bool → Bool → Bool) (old other new : List ℕ) → on false false ≡ false → ((k i : ℕ) → k < length old → i < 64 → bit (get_or new k 0) i ≡ on (bit (get_or old k 0) i) (bit (get_or other k 0) i)) → length old ≡ length other → length new ≡ length old → (k : ℕ) → has (bits_of_words new) k ≡ on (has (bits_of_words old) k) (has (bits_of_words other) k)
made_of_both on old other new none word same kept k =
    elim (cases_lt (k / 64) (length old)) [
      | inl h ↦ rw (has-bits_of_words new k, has-bits_of_words old k, has-bits_of_words other k) (word (k / 64) (k % 64) h (omega arith))
      | inr h ↦ rw (has-bits_of_words new k, has-bits_of_words old k, has-bits_of_words other k, get_or_past new (k / 64) 0 (omega arith), get_or_past old (k / 64) 0 h, get_or_past other (k / 64) 0 (omega arith), bit-zero (k % 64)) (sym none)
    ]

pub lowest_is_in : (ws : List ℕ) (q : ℕ) → 0 < get_or ws q 0 → get_or ws q 0 < 2 ^ 64 → has (bits_of_words ws) (64 * q + trailing_zeros w64 (get_or ws q 0)) ≡ true
lowest_is_in ws q some fits =
    let low = bit_at-trailing_zeros w64 (get_or ws q 0) some fits in
    has-bits_of_words_at ws q _ low.0 ∙ ap (λ b. eqb b 1) low.1

-- two words with a bit in common give a number in both sets
pub in_both : (ws os : List ℕ) (q : ℕ) → 0 < bit_and (get_or ws q 0) (get_or os q 0) → get_or ws q 0 < 2 ^ 64 → (k : ℕ) × (has (bits_of_words ws) k && has (bits_of_words os) k ≡ true)
in_both ws os q some fits =
    let both = bit_and (get_or ws q 0) (get_or os q 0) in
    let low = bit_at-trailing_zeros w64 both some (omega (arith, and_le_l (get_or ws q 0) (get_or os q 0))) in
    let i = trailing_zeros w64 both in
    (64 * q + i, rw (has-bits_of_words_at ws q i low.0, has-bits_of_words_at os q i low.0, ← bit-and (get_or ws q 0) (get_or os q 0) i) (ap (λ b. eqb b 1) low.1))

pub in_neither : (ws os : List ℕ) (n : ℕ) → ((q : ℕ) → q < n → bit_and (get_or ws q 0) (get_or os q 0) ≡ 0) → length ws ≤ n → (k : ℕ) → has (bits_of_words ws) k && has (bits_of_words os) k ≡ false
in_neither ws os n none long k =
    elim (cases_lt (k / 64) n) [
      | inl h ↦ rw (has-bits_of_words ws k, has-bits_of_words os k, ← bit-and (get_or ws (k / 64) 0) (get_or os (k / 64) 0) (k % 64), none (k / 64) h) (bit-zero (k % 64))
      | inr h ↦ rw (has-bits_of_words ws k, get_or_past ws (k / 64) 0 (omega arith), bit-zero (k % 64)) refl
    ]

pub all_out : (ws : List ℕ) → ((q : ℕ) → q < length ws → get_or ws q 0 ≡ 0) → (k : ℕ) → has (bits_of_words ws) k ≡ false
all_out ws none k =
    elim (cases_lt (k / 64) (length ws)) [
      | inl h ↦ rw (has-bits_of_words ws k, none (k / 64) h) (bit-zero (k % 64))
      | inr h ↦ rw (has-bits_of_words ws k, get_or_past ws (k / 64) 0 h) (bit-zero (k % 64))
    ]

pub bit-and_not : (a b i : ℕ) → b < 2 ^ 64 → i < 64 → bit (bit_and a (bit_not w64 b)) i ≡ bit a i && not (bit b i)
bit-and_not a b i h low = bit-and a (bit_not w64 b) i ∙ ap (λ x. bit a i && x) (bit-not b i h low)

-- a pass that writes each word from the old one and the other
pub written_more : (f : ℕ → ℕ → ℕ) (old other ws : List ℕ) (i : ℕ) → i < length ws → ((k : ℕ) → k < i → get_or ws k 0 ≡ f (get_or old k 0) (get_or other k 0)) → ((k : ℕ) → i ≤ k → get_or ws k 0 ≡ get_or old k 0) → (k : ℕ) → k < i + 1 → get_or (set ws i (f (get_or ws i 0) (get_or other i 0))) k 0 ≡ f (get_or old k 0) (get_or other k 0)
written_more f old other ws i h done rest =
    rw (rest i (omega arith)) (fill_by_more (λ k. f (get_or old k 0) (get_or other k 0)) ws i 0 h done)

pub written_rest : (old ws : List ℕ) (i v : ℕ) → i < length ws → ((k : ℕ) → i ≤ k → get_or ws k 0 ≡ get_or old k 0) → (k : ℕ) → i + 1 ≤ k → get_or (set ws i v) k 0 ≡ get_or old k 0
written_rest old ws i v h rest k more = grind (arith, common_steps, rest)

-- what agrees on a range maps it to the same
map-agree : {X : Type 0} (f g : ℕ → X) (a n : ℕ) → ((j : ℕ) → a ≤ j → j < a + n → f j ≡ g j) → map f (range_with_len a n) ≡ map g (range_with_len a n)
map-agree f g a zero same = refl
map-agree f g a (suc n) same =
    rw (same a (omega arith) (omega arith), map-agree f g (a + 1) n (λ j h k. same j (omega arith) (omega arith))) refl

map-shift : {X : Type 0} (f : ℕ → X) (a n : ℕ) → map f (range_with_len (a + 1) n) ≡ map (λ j. f (suc j)) (range_with_len a n)
map-shift f a zero = refl
map-shift f a (suc n) = let e : a + 1 ≡ suc a = omega arith in rw (map-shift f (a + 1) n, e) refl

-- a word is that with its bits
word_with_bits-bits : (n w : ℕ) → w < 2 ^ n → word_with_bits (map (bit w) (range_with_len 0 n)) ≡ w
word_with_bits-bits zero w h = omega arith
word_with_bits-bits (suc n) w h =
    let shift : map (bit w) (range_with_len 1 n) ≡ map (bit (w / 2)) (range_with_len 0 n) =
    map-shift (bit w) 0 n ∙ map-agree (λ j. bit w (suc j)) (bit (w / 2)) 0 n (λ j _ _. ap (λ x. eqb x 1) (bit_at-suc w j)) in
    let low : cond (bit w 0) 1 0 ≡ w % 2 = rw (bit_at_lowest w) (grind arith) in
    let half : w / 2 < 2 ^ n = omega (arith, pow-suc 2 n) in
    rw (shift, word_with_bits-bits n (w / 2) half, low) (omega arith)

pub word_of-bits_of_words : (ws : List ℕ) (i : ℕ) → get_or ws i 0 < 2 ^ 64 → word_of (bits_of_words ws) i ≡ get_or ws i 0
unfolding word_of
word_of-bits_of_words ws i h =
    ap word_with_bits (map-agree (λ j. has (bits_of_words ws) (64 * i + j)) (bit (get_or ws i 0)) 0 64 (λ j _ k. has-bits_of_words_at ws i j (omega arith))) ∙ word_with_bits-bits 64 (get_or ws i 0) h

pub words_of-bits_of_words : (ws : List ℕ) → ((i : ℕ) → get_or ws i 0 < 2 ^ 64) → words_of (bits_of_words ws) ≡ ws
words_of-bits_of_words ws fits =
    let n : length (bits_of_words ws) / 64 ≡ length ws = omega (arith, length_bits_of ws) in
    rw n (sym (fill_by_all (word_of (bits_of_words ws)) ws (length ws) 0 refl (λ k h. sym (word_of-bits_of_words ws k (fits k)))))

-- a set of a room is told by its numbers
pub same_bits : (a b : List Bool) → length a ≡ length b → ((k : ℕ) → has a k ≡ has b k) → a ≡ b
same_bits [] [] e same = refl
same_bits [] (y ∷ ys) e same = absurd (omega (arith, e))
same_bits (x ∷ xs) [] e same = absurd (omega (arith, e))
same_bits (x ∷ xs) (y ∷ ys) e same =
    rw (same 0, same_bits xs ys (omega (arith, e)) (λ k. same (suc k))) refl

-- the comparison of two sets tells whether they are equal
pub Decides-same : (a b : List Bool) → Decides (pointwise beq a b) (a ≡ b)
Decides-same a b = pointwise_decides booleans_Decides a b

-- equal words make equal sets, and words that differ make sets that differ
pub same_sets : (ws os : List ℕ) → ws ≡ os → pointwise beq (bits_of_words ws) (bits_of_words os) ≡ true
same_sets ws os e = (Decides-same (bits_of_words ws) (bits_of_words os)).1 (ap bits_of_words e)

pub other_sets : (ws os : List ℕ) → ((i : ℕ) → get_or ws i 0 < 2 ^ 64) → ((i : ℕ) → get_or os i 0 < 2 ^ 64) → (ws ≡ os → ⊥) → pointwise beq (bits_of_words ws) (bits_of_words os) ≡ false
other_sets ws os f g differ =
    let back : bits_of_words ws ≡ bits_of_words os → ws ≡ os =
    λ e. sym (words_of-bits_of_words ws f) ∙ ap words_of e ∙ words_of-bits_of_words os g in
    false_from_ne_true _ (λ t. differ (back ((Decides-same (bits_of_words ws) (bits_of_words os)).0 t)))

pub same_lengths : (ws os : List ℕ) → length (bits_of_words ws) ≡ length (bits_of_words os) → length ws ≡ length os
same_lengths ws os e = omega (arith, e, length_bits_of ws, length_bits_of os)

pub contained : (ws : List ℕ) (k w : ℕ) → w ≡ get_or ws (k / 64) 0 → eqb (bit_and (w / 2 ^ (k % 64)) 1) 1 ≡ has (bits_of_words ws) k
contained ws k w is = rw (is, has-bits_of_words ws k, shr_and_one (get_or ws (k / 64) 0) (k % 64)) refl

pub past_end : (ws : List ℕ) (k : ℕ) → length ws ≤ k / 64 → has (bits_of_words ws) k ≡ false
past_end ws k h = rw (has-bits_of_words ws k, get_or_past ws (k / 64) 0 h) (bit-zero (k % 64))

-- one bit is put in
pub inserted : (ws : List ℕ) (k : ℕ) → k < length ws * 64 → (j : ℕ) → has (bits_of_words (set ws (k / 64) (bit_or (get_or ws (k / 64) 0) (1 * 2 ^ (k % 64) % 2 ^ 64)))) j ≡ eqb j k || has (bits_of_words ws) j
inserted ws k h j =
    let w = get_or ws (k / 64) 0 in
    let v = bit_or w (1 * 2 ^ (k % 64) % 2 ^ 64) in
    elim (cases_eq (j / 64) (k / 64)) [
      | inl q ↦ elim (cases_eq (j % 64) (k % 64)) [
        | inl i ↦ let e : j ≡ k = omega (arith, q, i) in
            rw (e, has-bits_of_words (set ws (k / 64) v) k, get_or-set_same ws (k / 64) v 0 (omega arith), bit_at_set_same w64 w (k % 64) (omega arith), eq-eqb k k refl) refl
        | inr i ↦ let e : j ≢ k = λ s. i (ap (λ n. n % 64) s) in
            rw (ne_eqb j k e, has-bits_of_words (set ws (k / 64) v) j, has-bits_of_words ws j, q, get_or-set_same ws (k / 64) v 0 (omega arith), bit_at_set_other w64 w (k % 64) (omega arith) (j % 64) i) refl
      ]
      | inr q ↦ let e : j ≢ k = λ s. q (ap (λ n. n / 64) s) in
          rw (ne_eqb j k e, has-bits_of_words (set ws (k / 64) v) j, has-bits_of_words ws j, get_or-set_other ws (k / 64) (j / 64) v 0 q) refl
    ]

-- one bit is taken out
pub removed : (ws : List ℕ) (k : ℕ) → k < length ws * 64 → (j : ℕ) → has (bits_of_words (set ws (k / 64) (bit_and (get_or ws (k / 64) 0) (bit_not w64 (1 * 2 ^ (k % 64) % 2 ^ 64))))) j ≡ not (eqb j k) && has (bits_of_words ws) j
removed ws k h j =
    let w = get_or ws (k / 64) 0 in
    let v = bit_and w (bit_not w64 (1 * 2 ^ (k % 64) % 2 ^ 64)) in
    elim (cases_eq (j / 64) (k / 64)) [
      | inl q ↦ elim (cases_eq (j % 64) (k % 64)) [
        | inl i ↦ let e : j ≡ k = omega (arith, q, i) in
            rw (e, has-bits_of_words (set ws (k / 64) v) k, get_or-set_same ws (k / 64) v 0 (omega arith), bit_at_clear_same w64 w (k % 64) (omega arith), eq-eqb k k refl) refl
        | inr i ↦ let e : j ≢ k = λ s. i (ap (λ n. n % 64) s) in
            rw (ne_eqb j k e, has-bits_of_words (set ws (k / 64) v) j, has-bits_of_words ws j, q, get_or-set_same ws (k / 64) v 0 (omega arith), bit_at_clear_other w64 w (k % 64) (omega arith) (j % 64) (omega arith) i) refl
      ]
      | inr q ↦ let e : j ≢ k = λ s. q (ap (λ n. n / 64) s) in
          rw (ne_eqb j k e, has-bits_of_words (set ws (k / 64) v) j, has-bits_of_words ws j, get_or-set_other ws (k / 64) (j / 64) v 0 q) refl
    ]

-- the bits of a word from one on
abbrev pub IsFront : ℕ → ℕ → ℕ → Type 0
IsFront w s v = (i : ℕ) → i < 64 → bit v i ≡ bit w i && nat_le s i

and-true : (b : Bool) → b && true ≡ b
and-true true = refl
and-true false = refl

both_true : (a b : Bool) → a && b ≡ true → (a ≡ true) × (b ≡ true)
both_true true true e = (refl, refl)
both_true true false e = absurd (false≢true e)
both_true false b e = absurd (false≢true e)

not_le : (s i : ℕ) → i < s → nat_le s i ≡ false
not_le s i h = grind arith

bit_of_mask : (s i : ℕ) → s < 64 → i < 64 → bit ((2 ^ 64 - 1) * 2 ^ s % 2 ^ 64) i ≡ nat_le s i
bit_of_mask s i h low =
    elim (cases_lt i s) [
      | inl k ↦ rw (ones_shl 64 s (omega arith), bit_at_mask_below s 64 i k, not_le s i k) refl
      | inr k ↦ rw (ones_shl 64 s (omega arith), bit_at_mask_inside s 64 i k low, le-leb s i k) refl
    ]

pub front_is : (w s : ℕ) → s < 64 → IsFront w s (bit_and w ((2 ^ 64 - 1) * 2 ^ s % 2 ^ 64))
front_is w s h = λ i low. bit-and w _ i ∙ ap (λ x. bit w i && x) (bit_of_mask s i h low)

in_front : (w s v i : ℕ) → IsFront w s v → i < 64 → s ≤ i → bit v i ≡ bit w i
in_front w s v i front low h = front i low ∙ ap (λ x. bit w i && x) (le-leb s i h) ∙ and-true (bit w i)

le_from : (s i : ℕ) → nat_le s i ≡ true → s ≤ i
le_from s i e = grind arith

pub front_found : (ws : List ℕ) (from v : ℕ) → IsFront (get_or ws (from / 64) 0) (from % 64) v → 0 < v → v < 2 ^ 64 → (from ≤ from / 64 * 64 + trailing_zeros w64 v) × (has (bits_of_words ws) (from / 64 * 64 + trailing_zeros w64 v) ≡ true)
front_found ws from v front some fits =
    let low = bit_at-trailing_zeros w64 v some fits in
    let tz = trailing_zeros w64 v in
    let one : bit v tz ≡ true = ap (λ b. eqb b 1) low.1 in
    let parts = both_true (bit (get_or ws (from / 64) 0) tz) (nat_le (from % 64) tz) (sym (front tz low.0) ∙ one) in
    let after : from % 64 ≤ tz = le_from (from % 64) tz parts.1 in
    (omega (arith, after), ap (has (bits_of_words ws)) (omega arith) ∙ has-bits_of_words_at ws (from / 64) tz low.0 ∙ parts.0)

pub front_first : (ws : List ℕ) (from v : ℕ) → IsFront (get_or ws (from / 64) 0) (from % 64) v → 0 < v → v < 2 ^ 64 → (k : ℕ) → from ≤ k → k < from / 64 * 64 + trailing_zeros w64 v → has (bits_of_words ws) k ≡ false
front_first ws from v front some fits k more less =
    let low = bit_at-trailing_zeros w64 v some fits in
    let within : trailing_zeros w64 v < 64 = low.0 in
    let here : k / 64 ≡ from / 64 = omega (arith, within) in
    let zero : bit v (k % 64) ≡ false = ap (λ b. eqb b 1) (low.2 (k % 64) (omega (arith, here))) in
    rw (has-bits_of_words ws k, here) (sym (in_front (get_or ws (from / 64) 0) (from % 64) v (k % 64) front (omega arith) (omega (arith, here))) ∙ zero)

pub later_found : (ws : List ℕ) (from i : ℕ) → from / 64 + 1 ≤ i → 0 < get_or ws i 0 → get_or ws i 0 < 2 ^ 64 → (from ≤ i * 64 + trailing_zeros w64 (get_or ws i 0)) × (has (bits_of_words ws) (i * 64 + trailing_zeros w64 (get_or ws i 0)) ≡ true)
later_found ws from i h some fits =
    (omega arith, ap (has (bits_of_words ws)) (omega arith) ∙ lowest_is_in ws i some fits)

pub none_before : (ws : List ℕ) (from i : ℕ) → IsFront (get_or ws (from / 64) 0) (from % 64) 0 → ((j : ℕ) → from / 64 + 1 ≤ j → j < i → get_or ws j 0 ≡ 0) → (k : ℕ) → from ≤ k → k / 64 < i → has (bits_of_words ws) k ≡ false
none_before ws from i front none k more less =
    elim (cases_lt (from / 64) (k / 64)) [
      | inl h ↦ rw (has-bits_of_words ws k, none (k / 64) (omega arith) less) (bit-zero (k % 64))
      | inr h ↦ let here : k / 64 ≡ from / 64 = omega (arith, h) in
          rw (has-bits_of_words ws k, here) (sym (in_front (get_or ws (from / 64) 0) (from % 64) 0 (k % 64) front (omega arith) (omega (arith, here))) ∙ bit-zero (k % 64))
    ]

pub later_first : (ws : List ℕ) (from i : ℕ) → IsFront (get_or ws (from / 64) 0) (from % 64) 0 → ((j : ℕ) → from / 64 + 1 ≤ j → j < i → get_or ws j 0 ≡ 0) → 0 < get_or ws i 0 → get_or ws i 0 < 2 ^ 64 → (k : ℕ) → from ≤ k → k < i * 64 + trailing_zeros w64 (get_or ws i 0) → has (bits_of_words ws) k ≡ false
later_first ws from i front none some fits k more less =
    let low = bit_at-trailing_zeros w64 (get_or ws i 0) some fits in
    let within : trailing_zeros w64 (get_or ws i 0) < 64 = low.0 in
    elim (cases_lt (k / 64) i) [
      | inl h ↦ none_before ws from i front none k more h
      | inr h ↦ let here : k / 64 ≡ i = omega (arith, h, within) in
          rw (has-bits_of_words ws k, here) (ap (λ b. eqb b 1) (low.2 (k % 64) (omega (arith, here))))
    ]

pub kept_room : (ws os : List ℕ) → length os ≡ length ws → length (bits_of_words os) ≡ length (bits_of_words ws)
kept_room ws os e = omega (arith, e, length_bits_of ws, length_bits_of os)

pub blank_room : (ws : List ℕ) (size : ℕ) → length ws ≡ size / 64 + min 1 (size % 64) → length (bits_of_words ws) ≡ room_for size
blank_room ws size e = omega (arith, e, length_bits_of ws)

pub below_room : (ws : List ℕ) (k : ℕ) → nat_lt (k / 64) (length ws) ≡ nat_lt k (length (bits_of_words ws))
below_room ws k = rw (length_bits_of ws) (grind arith)

pub zeros_out : (n k : ℕ) → has (bits_of_words (replicate n 0)) k ≡ false
zeros_out n k = all_out (replicate n 0) (λ q h. grind (arith, common_steps, get_or-replicate)) k
