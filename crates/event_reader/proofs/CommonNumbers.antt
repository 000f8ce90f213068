-- The whole numbers that a line read in one pass spells.
use Rattle.std.proofs.Common.{◌≡◌, ℕ, zero, suc, ◌+◌, ◌*◌, ◌^◌, ◌<◌, ◌≤◌, ◌-◌, ◌%◌, ◌==◌, List, [], ◌∷◌, ◌++◌, length, take, drop, get_or, Bool, true, false, ◌&&◌, Some, None, refl, sym, ◌∙◌, ap, arith, cond, subst, inl, inr, pow-suc}
use Rattle.std.specs.Prelude.{ℤ, pos, nat_le, if◌then◌else◌, nat_lt, option_map}
use Rattle.std.proofs.lemmas.Bool.{cases_Bool, ltb-true, ltb-false}
use Rattle.std.proofs.lemmas.Bool.Decides.{nat_tests}
use Rattle.std.proofs.lemmas.Grind.{pow_more}
use Rattle.std.proofs.lemmas.List.{append-nil, take_all, drop_all, take_more, take-append-drop, length-take}
use Rattle.std.specs.Char.{is_ascii_digit, digit_value}
use Rattle.std.specs.List.{list_any, position_or_len, before_first, after_first}
use Rattle.std.specs.Str.{all_ascii_digits}
use Rattle.std.specs.Str.Parse.{digits_value, digits_value_after, without_leading_sign, starts_with_minus}
use Rattle.stream_schema.specs.declared.Kind.TheVariants as kind
use Rattle.stream_schema.specs.declared.Value.TheVariants as value
use Rattle.event_reader.specs.Cells.{is_comma}
use Rattle.event_reader.specs.Values.{is_point, has_point, is_decimal, digits_of, scaled_by, scaled, signed}
use Rattle.event_reader.specs.CommonLines.{is_odd, IsNumeralUpTo, HasField, IsFieldUpTo}
use Rattle.event_reader.proofs.Digits.{value_append}

pub both : (a b : Bool) → (a && b) ≡ true → (a ≡ true) × (b ≡ true)
both true b e = (refl, e)
both false b e = absurd (cc)

-- one digit more
all_more : (xs : List ℕ) (y : ℕ) → all_ascii_digits xs ≡ true → is_ascii_digit y ≡ true → all_ascii_digits (xs ++ y ∷ []) ≡ true
all_more [] y a d = rw d refl
all_more (x ∷ xs) y a d =
    let parts = both (is_ascii_digit x) (all_ascii_digits xs) a in
    rw (parts.0) (all_more xs y parts.1 d)

digit_is : (y : ℕ) → is_ascii_digit y ≡ true → digit_value y ≡ y - 48
digit_is y d = grind (arith, nat_tests)

pub all_digits_more : (text : List ℕ) (i : ℕ) → i < length text → is_ascii_digit (get_or text i 0) ≡ true → all_ascii_digits (take i text) ≡ true → all_ascii_digits (take (i + 1) text) ≡ true
all_digits_more text i within d a = rw (take_more text i 0 within) (all_more (take i text) (get_or text i 0) a d)

pub spells_more : (text : List ℕ) (i size : ℕ) → i < length text → is_ascii_digit (get_or text i 0) ≡ true → size ≡ digits_value 10 (take i text) → size * 10 + (get_or text i 0 - 48) ≡ digits_value 10 (take (i + 1) text)
spells_more text i size within d e =
    let b : ℕ = get_or text i 0 in
    let whole : digits_value 10 (take (i + 1) text) ≡ digits_value_after 10 (digits_value 10 (take i text)) (b ∷ []) = ap (digits_value 10) (take_more text i 0 within) ∙ value_append 0 (take i text) (b ∷ []) in
    let is : digit_value b ≡ b - 48 = digit_is b d in
    sym (whole ∙ ap (λ n. n * 10 + digit_value b) (sym e) ∙ ap (λ n. size * 10 + n) is)

-- what is at most 9 once 48 was taken away is a digit
pub digit_told : (byte : ℕ) → byte < 256 → (byte + 18446744073709551568) % 18446744073709551616 ≤ 9 → (is_ascii_digit byte ≡ true) × ((byte + 18446744073709551568) % 18446744073709551616 ≡ byte - 48)
digit_told byte fits few =
    let low : 48 ≤ byte = omega arith in
    let high : byte ≤ 57 = omega arith in
    (grind (arith, nat_tests, low, high), omega (arith, low, high))

-- so many digits spell no more than their number allows
pub still_small : (byte i size : ℕ) → is_ascii_digit byte ≡ true → size < 10 ^ i → size * 10 + (byte - 48) < 10 ^ (i + 1)
still_small byte i size d small =
    let nine : byte - 48 ≤ 9 = grind (arith, nat_tests, d) in
    omega (arith, pow_more 10 i)

below_power : (m i : ℕ) → i ≤ m → 10 ^ i ≤ 10 ^ m
below_power zero i h = let none : i ≡ 0 = omega arith in rw none (omega arith)
below_power (suc m) i h = elim (cases_Bool (nat_lt i (suc m))) [
  | inl less ↦ omega (arith, below_power m i (omega (arith, ltb-true i (suc m) less)), pow-suc 10 m)
  | inr more ↦ let all : i ≡ suc m = omega (arith, ltb-false i (suc m) more) in rw all (omega arith)
]

pub room_for_all : (i size : ℕ) → i ≤ 18 → size < 10 ^ i → size < 9223372036854775808
room_for_all i size few small =
    let most : 10 ^ i ≤ 1000000000000000000 = below_power 18 i few in
    omega arith

pub room_for_more : (i size : ℕ) → i < 18 → size < 10 ^ i → size < 100000000000000000
room_for_more i size few small =
    let most : 10 ^ i ≤ 100000000000000000 = below_power 17 i (omega arith) in
    omega arith

-- digits are no points, commas or odd bytes
not_point : (d : ℕ) → is_ascii_digit d ≡ true → (d == 46) ≡ false
not_point d e = grind (arith, nat_tests)

not_comma : (d : ℕ) → is_ascii_digit d ≡ true → is_comma d ≡ false
not_comma d e = grind (arith, nat_tests)

not_odd : (d : ℕ) → is_ascii_digit d ≡ true → is_odd d ≡ false
not_odd d e = grind (arith, nat_tests)

no_point : (ds : List ℕ) → all_ascii_digits ds ≡ true → position_or_len is_point ds ≡ length ds
no_point [] a = refl
no_point (d ∷ ds) a =
    let parts = both (is_ascii_digit d) (all_ascii_digits ds) a in
    rw (not_point d parts.0) (omega (arith, no_point ds parts.1))

without_commas : (ds : List ℕ) → all_ascii_digits ds ≡ true → list_any is_comma ds ≡ false
without_commas [] a = refl
without_commas (d ∷ ds) a =
    let parts = both (is_ascii_digit d) (all_ascii_digits ds) a in
    rw (not_comma d parts.0) (without_commas ds parts.1)

without_odd : (ds : List ℕ) → all_ascii_digits ds ≡ true → list_any is_odd ds ≡ false
without_odd [] a = refl
without_odd (d ∷ ds) a =
    let parts = both (is_ascii_digit d) (all_ascii_digits ds) a in
    rw (not_odd d parts.0) (without_odd ds parts.1)

-- digits without a point are a whole number
no_fewer : (n : ℕ) → nat_lt n n ≡ false
no_fewer n = grind (arith, nat_tests)

some_more : (n : ℕ) → 0 < n → nat_lt 0 n ≡ true
some_more n h = grind (arith, nat_tests)

number_is : (minus : Bool) (ds whole fraction : List ℕ) (point : Bool) → whole ≡ ds → fraction ≡ [] → point ≡ false → all_ascii_digits ds ≡ true → 0 < length ds → (if is_decimal 0 point whole fraction then signed minus (digits_value 10 (digits_of 0 whole fraction)) else None) ≡ signed minus (digits_value 10 ds)
number_is minus ds whole fraction point w f p a some =
    rw (w, f, p, a, some_more (length ds) some) (ap (λ l. signed minus (digits_value 10 l)) (append-nil (ds ++ []) ∙ append-nil ds))

scaled_is : (minus : Bool) (ds : List ℕ) → all_ascii_digits ds ≡ true → 0 < length ds → scaled_by 0 minus ds ≡ signed minus (digits_value 10 ds)
scaled_is minus ds a some =
    let n : position_or_len is_point ds ≡ length ds = no_point ds a in
    number_is minus ds (before_first is_point ds) (after_first is_point ds) (has_point ds)
    (ap (λ k. take k ds) n ∙ take_all (length ds) ds (omega arith)) (drop_all (position_or_len is_point ds + 1) ds (omega (arith, n)))
    (ap (λ k. nat_lt k (length ds)) n ∙ no_fewer (length ds)) a some

-- a number after a sign
after_sign : (c : ℕ) (minus : Bool) (rest digits after : List ℕ) (n : ℤ) → is_odd c ≡ false → is_comma c ≡ false → rest ≡ digits ++ after → all_ascii_digits digits ≡ true → scaled 0 (c ∷ digits) ≡ Some n → HasField kind.Int (c ∷ rest) (value.Int n) after
after_sign c minus rest digits after n odd comma e a is =
    record {
      cell = c ∷ digits;
      cut = ap (λ t. c ∷ t) e;
      is_cell = record { plain = rw odd (without_odd digits a); whole = rw comma (without_commas digits a) };
      value_is = ap (option_map (λ n. value.Int n)) is;
    }

-- a number of any sign, or none
by_sign : (c : ℕ) (rest digits after : List ℕ) (n : ℤ) (minus plus : Bool) → (c == 45) ≡ minus → (c == 43) ≡ plus → cond minus rest (drop (cond plus 1 0) (c ∷ rest)) ≡ digits ++ after → all_ascii_digits digits ≡ true → 0 < length digits → signed minus (digits_value 10 digits) ≡ Some n → HasField kind.Int (c ∷ rest) (value.Int n) after
by_sign c rest digits after n true plus m p e a some s =
    let is : scaled 0 (c ∷ digits) ≡ Some n = rw m (scaled_is true digits a some ∙ s) in
    after_sign c true rest digits after n (grind (arith, nat_tests, m)) (grind (arith, nat_tests, m)) e a is
by_sign c rest digits after n false true m p e a some s =
    let is : scaled 0 (c ∷ digits) ≡ Some n = rw (m, p) (scaled_is false digits a some ∙ s) in
    after_sign c false rest digits after n (grind (arith, nat_tests, p)) (grind (arith, nat_tests, p)) e a is
by_sign c rest [] after n false false m p e a some s = absurd (omega arith)
by_sign c rest (d ∷ ds) after n false false m p e a some s =
    let same : c ≡ d = cc in
    let no_minus : (d == 45) ≡ false = rw (sym same) m in
    let no_plus : (d == 43) ≡ false = rw (sym same) p in
    record {
      cell = d ∷ ds;
      cut = e;
      is_cell = record { plain = without_odd (d ∷ ds) a; whole = without_commas (d ∷ ds) a };
      value_is = ap (option_map (λ n. value.Int n)) (let is : scaled 0 (d ∷ ds) ≡ Some n = rw (no_minus, no_plus) (scaled_is false (d ∷ ds) a some ∙ s) in is);
    }

-- where digits begin, no sign does
first_digit : (c end : ℕ) (rest : List ℕ) → 0 < end → all_ascii_digits (take end (c ∷ rest)) ≡ true → is_ascii_digit c ≡ true
first_digit c zero rest some a = absurd (omega arith)
first_digit c (suc end) rest some a = (both (is_ascii_digit c) (all_ascii_digits (take end rest)) a).0

not_minus : (d : ℕ) → is_ascii_digit d ≡ true → (d == 45) ≡ false
not_minus d e = grind (arith, nat_tests)

not_plus : (d : ℕ) → is_ascii_digit d ≡ true → (d == 43) ≡ false
not_plus d e = grind (arith, nat_tests)

some_digits : (text : List ℕ) (end : ℕ) → 0 < end → end ≤ length text → 0 < length (take end text)
some_digits text end some within = omega (arith, length-take end text)

small_signed : (size : ℕ) → size < 9223372036854775808 → signed false size ≡ Some (pos size)
small_signed size small =
    let test : nat_le size 9223372036854775807 ≡ true = grind (arith, nat_tests) in
    rw test refl

pub plain_field : (text : List ℕ) (size end : ℕ) → IsNumeralUpTo text size end → IsFieldUpTo kind.Int text (value.Int (pos size)) end
plain_field [] size end i = absurd (omega (arith, i.some, i.within))
plain_field (c ∷ rest) size end i =
    let d = first_digit c end rest i.some i.are_digits in
    record {
      within = i.within;
      field = by_sign c rest (take end (c ∷ rest)) (drop end (c ∷ rest)) (pos size) false false (not_minus c d) (not_plus c d) (sym (take-append-drop end (c ∷ rest))) i.are_digits (some_digits (c ∷ rest) end i.some i.within)
          (ap (signed false) (sym i.spells) ∙ small_signed size i.small);
    }

-- what follows a number of any sign, or none
behind_sign : (c end : ℕ) (rest : List ℕ) (minus plus : Bool) → end ≤ length (cond minus rest (drop (cond plus 1 0) (c ∷ rest))) → (length (c ∷ rest) - length (cond minus rest (drop (cond plus 1 0) (c ∷ rest))) + end ≤ length (c ∷ rest)) × (drop (length (c ∷ rest) - length (cond minus rest (drop (cond plus 1 0) (c ∷ rest))) + end) (c ∷ rest) ≡ drop end (cond minus rest (drop (cond plus 1 0) (c ∷ rest))))
behind_sign c end rest true plus h =
    let k : length (c ∷ rest) - length rest + end ≡ suc end = omega arith in
    (omega arith, ap (λ k. drop k (c ∷ rest)) k)
behind_sign c end rest false true h =
    let k : length (c ∷ rest) - length rest + end ≡ suc end = omega arith in
    (omega arith, ap (λ k. drop k (c ∷ rest)) k)
behind_sign c end rest false false h =
    let k : length (c ∷ rest) - length (c ∷ rest) + end ≡ end = omega arith in
    (omega arith, ap (λ k. drop k (c ∷ rest)) k)

pub signed_field : (text : List ℕ) (size end : ℕ) (n : ℤ) → IsNumeralUpTo (without_leading_sign text) size end → signed (starts_with_minus text) size ≡ Some n → IsFieldUpTo kind.Int text (value.Int n) (length text - length (without_leading_sign text) + end)
signed_field [] size end n i s = absurd (omega (arith, i.some, i.within))
signed_field (c ∷ rest) size end n i s =
    let digits : List ℕ = without_leading_sign (c ∷ rest) in
    let behind = behind_sign c end rest (c == 45) (c == 43) i.within in
    record {
      within = behind.0;
      field = subst (HasField kind.Int (c ∷ rest) (value.Int n)) (sym behind.1)
          (by_sign c rest (take end digits) (drop end digits) n (c == 45) (c == 43) refl refl (sym (take-append-drop end digits)) i.are_digits (some_digits digits end i.some i.within)
          (ap (signed (c == 45)) (sym i.spells) ∙ s));
    }
