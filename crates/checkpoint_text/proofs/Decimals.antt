-- The numbers that decimals without leading zeros write.
use Rattle.std.proofs.Common.{◌≡◌, ℕ, zero, suc, ◌<◌, ◌≤◌, ◌^◌, ◌==◌, ◌&&◌, ◌||◌, Bool, true, false, not, cond, List, [], ◌∷◌, length, get_or, refl, sym, ap, ◌∙◌, Some, None, arith, rules}
use Rattle.std.specs.Prelude.{nat_le, decimal}
use Rattle.std.specs.Char.{is_ascii_digit}
use Rattle.std.specs.List.{list_any, list_all}
use Rattle.std.specs.Str.{all_ascii_digits}
use Rattle.std.proofs.lemmas.Bool.{and_parts, and_from, leb-true, le-leb, eqb-true, eq-eqb}
use Rattle.std.proofs.lemmas.Fmt.{digits_decimal, digits_value-decimal, decimal-digits_value, decimal_nonempty, first_decimal, decimal_digit}
use Rattle.std.proofs.lemmas.Str.Parse.{IsNumeralModel, numerals_by_fold, tells_all_ascii_digits}
use Rattle.cer_base.specs.Digits.{read_on}
use Rattle.checkpoint_text.specs.Numbers.{is_canonical_numeral, number}

own : IsNumeralModel (λ ds. all_ascii_digits ds ≡ true) (read_on 0)
own = numerals_by_fold (λ ds. all_ascii_digits ds ≡ true) tells_all_ascii_digits read_on (record { empty = λ n. refl; more = λ n c cs h. refl })

chosen_some : {X : Type 0} (t : Bool) (x y : X) → cond t (Some x) None ≡ Some y → (t ≡ true) × (x ≡ y)
chosen_some true x y e = (refl, cc)
chosen_some false x y e = absurd cc

pub all_digits : (ds : List ℕ) → list_all is_ascii_digit ds ≡ all_ascii_digits ds
all_digits [] = refl
all_digits (d ∷ ds) = ap (λ t. is_ascii_digit d && t) (all_digits ds)

neither : (a t : Bool) → a ≡ false → t ≡ true → (a || not t) ≡ true → ⊥
neither true t f e both = absurd cc
neither false true f e both = absurd cc
neither false false f e both = absurd cc

some_not_none : (x : ℕ) (ds : List ℕ) → (length (x ∷ ds) == 0) ≡ false
some_not_none x ds = by_test (length (x ∷ ds) == 0) refl
  where
    by_test : (t : Bool) → (length (x ∷ ds) == 0) ≡ t → t ≡ false
    by_test true e = let none : length (x ∷ ds) ≡ 0 = eqb-true (length (x ∷ ds)) 0 e in absurd (omega (arith, none))
    by_test false e = refl

-- the first of several digits is not 0
leads : (d : ℕ) (ds : List ℕ) → (length ds == 0 || not (d == 48)) ≡ true → d ≡ 48 → length (d ∷ ds) ≡ 1
leads d [] e zero_is = refl
leads d (x ∷ ds) e zero_is = absurd (neither (length (x ∷ ds) == 0) (d == 48) (some_not_none x ds) (eq-eqb d 48 zero_is) e)

numeral_parts : (digits : List ℕ) → is_canonical_numeral digits ≡ true → (all_ascii_digits digits ≡ true) × (0 < length digits) × (get_or digits 0 0 ≡ 48 → length digits ≡ 1)
numeral_parts [] e = absurd cc
numeral_parts (d ∷ ds) e =
    let both = and_parts (length ds == 0 || not (d == 48)) (list_all is_ascii_digit (d ∷ ds)) e in
    (sym (all_digits (d ∷ ds)) ∙ both.1, omega arith, leads d ds both.0)

lead_test : (d : ℕ) (ds : List ℕ) → (d ≡ 48 → length (d ∷ ds) ≡ 1) → (length ds == 0 || not (d == 48)) ≡ true
lead_test d [] one = refl
lead_test d (x ∷ ds) one = ap (λ t. t || not (d == 48)) (some_not_none x ds) ∙ by_test (d == 48) refl
  where
    by_test : (t : Bool) → (d == 48) ≡ t → not t ≡ true
    by_test true e = let long : length (d ∷ x ∷ ds) ≡ 1 = one (eqb-true d 48 e) in absurd (omega (arith, long))
    by_test false e = refl

numeral_from : (digits : List ℕ) → all_ascii_digits digits ≡ true → 0 < length digits → (get_or digits 0 0 ≡ 48 → length digits ≡ 1) → is_canonical_numeral digits ≡ true
numeral_from [] all some one = absurd (omega (arith, some))
numeral_from (d ∷ ds) all some one = and_from (length ds == 0 || not (d == 48)) (list_all is_ascii_digit (d ∷ ds)) (lead_test d ds one) (all_digits (d ∷ ds) ∙ all)

-- the decimal of 0 alone begins with 0
decimal_lead : (n : ℕ) → n < 2 ^ 64 → get_or (decimal n) 0 0 ≡ 48 → length (decimal n) ≡ 1
decimal_lead zero few e = ap length (decimal_digit 0 (omega arith))
decimal_lead (suc n) few e =
    let above : 48 < get_or (decimal (suc n)) 0 0 = first_decimal (suc n) (omega arith) few in
    absurd (omega (arith, above, e))

-- what a number is read from
pub number_text : (most n : ℕ) (digits : List ℕ) → most < 2 ^ 64 → number most digits ≡ Some n → (digits ≡ decimal n) × (n ≤ most)
number_text most n digits small e =
    let found = chosen_some (is_canonical_numeral digits && nat_le (read_on 0 digits) most) (read_on 0 digits) n e in
    let tests = and_parts (is_canonical_numeral digits) (nat_le (read_on 0 digits) most) found.0 in
    let parts = numeral_parts digits tests.0 in
    let few : read_on 0 digits ≤ most = leb-true (read_on 0 digits) most tests.1 in
    let same : read_on 0 digits ≡ n = found.1 in
    let written : decimal (read_on 0 digits) ≡ digits = decimal-digits_value own digits parts.0 parts.1 parts.2 (omega arith) in
    (sym written ∙ ap decimal same, omega arith)

-- a decimal is read as its number
pub text_number : (most n : ℕ) → most < 2 ^ 64 → n ≤ most → number most (decimal n) ≡ Some n
text_number most n small few =
    let low : n < 2 ^ 64 = omega arith in
    let value : read_on 0 (decimal n) ≡ n = digits_value-decimal own n low in
    let passes : nat_le (read_on 0 (decimal n)) most ≡ true = ap (λ m. nat_le m most) value ∙ le-leb n most few in
    let shape : is_canonical_numeral (decimal n) ≡ true = numeral_from (decimal n) (digits_decimal own n low) (decimal_nonempty n low) (decimal_lead n low) in
    rw (and_from (is_canonical_numeral (decimal n)) (nat_le (read_on 0 (decimal n)) most) shape passes) (ap (λ m. Some m) value)

other_byte : (stop byte : ℕ) → is_ascii_digit stop ≡ false → is_ascii_digit byte ≡ true → (byte == stop) ≡ false
other_byte stop byte no_digit e = by_test (byte == stop) refl
  where
    by_test : (t : Bool) → (byte == stop) ≡ t → t ≡ false
    by_test true same =
        let clash : false ≡ true = sym no_digit ∙ ap is_ascii_digit (sym (eqb-true byte stop same)) ∙ e in
        absurd (search (rules, clash))
    by_test false same = refl

digits_without : (stop : ℕ) (digits : List ℕ) → is_ascii_digit stop ≡ false → all_ascii_digits digits ≡ true → list_any (λ b. b == stop) digits ≡ false
digits_without stop [] no_digit all = refl
digits_without stop (d ∷ digits) no_digit all =
    let parts = and_parts (is_ascii_digit d) (all_ascii_digits digits) all in
    rw (other_byte stop d no_digit parts.0) (digits_without stop digits no_digit parts.1)

-- a decimal has no byte but digits
pub decimal_without : (stop n : ℕ) → is_ascii_digit stop ≡ false → n < 2 ^ 64 → list_any (λ b. b == stop) (decimal n) ≡ false
decimal_without stop n no_digit few = digits_without stop (decimal n) no_digit (digits_decimal own n few)
