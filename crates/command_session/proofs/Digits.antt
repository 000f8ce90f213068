-- The numbers that digits write.
use Rattle.std.proofs.Common.{◌≡◌, ℕ, ◌<◌, ◌≤◌, ◌^◌, ◌&&◌, Bool, true, false, cond, List, [], ◌∷◌, length, refl, sym, ap, ◌∙◌, Option, Some, None, arith, rules}
use Rattle.std.specs.Prelude.{nat_le, nat_lt, option_and_then}
use Rattle.std.specs.Char.{is_ascii_digit}
use Rattle.std.specs.List.{list_any}
use Rattle.std.specs.Option.{SomeIff}
use Rattle.std.specs.Str.{all_ascii_digits}
use Rattle.std.specs.Str.Parse.{digits_value}
use Rattle.std.proofs.lemmas.Bool.{and_parts, and_from, leb-true, le-leb, eqb-true, lt-ltb}
use Rattle.std.proofs.lemmas.Str.Parse.{digits_value_short, numerals_by_value, tells_all_ascii_digits}
use Rattle.event_reader.specs.LineWords.{is_blank}
use Rattle.command_session.specs.Numbers.{is_command_number, command_number, one_of}
use Rattle.command_session.specs.Spelling.{Writes, WritesOneOf}

pub below_ten_digits : (digits : List ℕ) → length digits ≤ 10 → all_ascii_digits digits ≡ true → digits_value 10 digits < 2 ^ 64
below_ten_digits digits few all =
    let small : digits_value 10 digits < 10 ^ 10 = digits_value_short (numerals_by_value (λ ds. all_ascii_digits ds ≡ true) tells_all_ascii_digits) digits 10 all few in
    omega arith

-- what the test of a number tests
number_tests : (digits : List ℕ) → is_command_number digits ≡ true → (nat_lt 0 (length digits) ≡ true) × (nat_le (length digits) 10 ≡ true) × (all_ascii_digits digits ≡ true)
number_tests digits e =
    let both = and_parts (nat_lt 0 (length digits) && nat_le (length digits) 10) (all_ascii_digits digits) e in
    let first = and_parts (nat_lt 0 (length digits)) (nat_le (length digits) 10) both.0 in
    (first.0, first.1, both.1)

-- what digits write is the number, where there are from one to ten bytes
pub numbered : (digits : List ℕ) (r : Option ℕ) → 0 < length digits → length digits ≤ 10 → SomeIff r ((all_ascii_digits digits ≡ true) × (digits_value 10 digits < 2 ^ 64)) (digits_value 10 digits) → r ≡ command_number digits
numbered digits (Some n) some few told =
    rw (and_from (nat_lt 0 (length digits) && nat_le (length digits) 10) (all_ascii_digits digits) (and_from (nat_lt 0 (length digits)) (nat_le (length digits) 10) (lt-ltb 0 (length digits) some) (le-leb (length digits) 10 few)) told.0.0) (ap (λ m. Some m) told.1)
numbered digits None some few told = by_test (is_command_number digits) refl
  where
    by_test : (t : Bool) → is_command_number digits ≡ t → None ≡ cond t (Some (digits_value 10 digits)) None
    by_test true e =
        let all = (number_tests digits e).2 in
        absurd (told (all, below_ten_digits digits few all))
    by_test false e = refl

chosen_some : {X : Type 0} (t : Bool) (x y : X) → cond t (Some x) None ≡ Some y → (t ≡ true) × (x ≡ y)
chosen_some true x y e = (refl, cc)
chosen_some false x y e = absurd (search (rules, e))

pub and_then_some : {X Y : Type 0} (f : X → Option Y) (o : Option X) (y : Y) → option_and_then f o ≡ Some y → (x : X) × (o ≡ Some x) × (f x ≡ Some y)
and_then_some f None y e = absurd (search (rules, e))
and_then_some f (Some x) y e = (x, refl, e)

pub number_writes : (digits : List ℕ) (n : ℕ) → command_number digits ≡ Some n → Writes digits n
number_writes digits n e = chosen_some (is_command_number digits) (digits_value 10 digits) n e

pub writes_number : (digits : List ℕ) (n : ℕ) → Writes digits n → command_number digits ≡ Some n
writes_number digits n writes = rw writes.0 (ap (λ m. Some m) writes.1)

pub one_writes : (most : ℕ) (digits : List ℕ) (n : ℕ) → one_of most digits ≡ Some n → WritesOneOf most digits n
one_writes most digits n e =
    let found = and_then_some (λ m. cond (nat_le 1 m && nat_le m most) (Some m) None) (command_number digits) n e in
    let parts = chosen_some (nat_le 1 found.0 && nat_le found.0 most) found.0 n found.2 in
    let tests = and_parts (nat_le 1 found.0) (nat_le found.0 most) parts.0 in
    let least : 1 ≤ found.0 = leb-true 1 found.0 tests.0 in
    let greatest : found.0 ≤ most = leb-true found.0 most tests.1 in
    let same : found.0 ≡ n = parts.1 in
    (number_writes digits n (found.1 ∙ ap (λ m. Some m) same), omega arith, omega arith)

pub writes_one : (most : ℕ) (digits : List ℕ) (n : ℕ) → WritesOneOf most digits n → one_of most digits ≡ Some n
writes_one most digits n writes = rw (writes_number digits n writes.0) (rw (and_from (nat_le 1 n) (nat_le n most) (le-leb 1 n writes.1) (le-leb n most writes.2)) refl)

no_blank : (byte : ℕ) → is_ascii_digit byte ≡ true → is_blank byte ≡ false
no_blank byte e = by_test (is_blank byte) refl
  where
    by_test : (t : Bool) → is_blank byte ≡ t → t ≡ false
    by_test true blank =
        let clash : false ≡ true = ap is_ascii_digit (sym (eqb-true byte 32 blank)) ∙ e in
        absurd (search (rules, clash))
    by_test false blank = refl

pub digits_unblank : (digits : List ℕ) → all_ascii_digits digits ≡ true → list_any is_blank digits ≡ false
digits_unblank [] all = refl
digits_unblank (d ∷ digits) all =
    let parts = and_parts (is_ascii_digit d) (all_ascii_digits digits) all in
    rw (no_blank d parts.0) (digits_unblank digits parts.1)

pub writes_unblank : (digits : List ℕ) (n : ℕ) → Writes digits n → list_any is_blank digits ≡ false
writes_unblank digits n writes = digits_unblank digits (number_tests digits writes.0).2
