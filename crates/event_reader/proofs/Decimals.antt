-- The parts of a decimal number and the number that they spell.
use Rattle.std.proofs.Common.{◌≡◌, ℕ, ◌<◌, ◌≤◌, ◌^◌, ◌-◌, List, [], ◌∷◌, ◌++◌, length, replicate, Bool, true, false, Option, Some, None, refl, sym, ◌∙◌, ap, arith}
use Rattle.std.proofs.lemmas.Bool.Decides.{nat_tests}
use Rattle.std.specs.Option.{SomeIff}
use Rattle.std.specs.Str.{all_ascii_digits}
use Rattle.std.specs.Str.Parse.{digits_value_after, digits_value}
use Rattle.event_reader.specs.Values.{is_decimal, digits_of}
use Rattle.event_reader.proofs.Digits.{value_grows, value_append}

-- the number of three parts
three_parts : (w f z : List ℕ) → digits_value_after 10 0 ((w ++ f) ++ z) ≡ digits_value_after 10 (digits_value_after 10 (digits_value_after 10 0 w) f) z
three_parts w f z = value_append 0 (w ++ f) z ∙ ap (λ n. digits_value_after 10 n z) (value_append 0 w f)

-- an answer below a bound, where a test passes
same_answer : (r : Option ℕ) (d : Bool) (n m : ℕ) → d ≡ true → n ≡ m → SomeIff r (m < 2 ^ 64) m → SomeIff r ((d ≡ true) × (n < 2 ^ 64)) n
same_answer None d n m e q h = λ y. h (omega (arith, y.1))
same_answer (Some x) d n m e q h = ((e, omega (arith, h.0)), h.1 ∙ sym q)

-- a decimal has a whole part, and a fraction after its point that is no longer than its places
pub shape_refused : (places : ℕ) (point : Bool) (w f : List ℕ) → is_decimal places point w f ≡ true → (point ≡ false → length f ≡ 0) → (0 < length w) × (length f ≤ places) × (point ≡ true → 0 < length f)
shape_refused places true w f e n = grind (arith, nat_tests)
shape_refused places false w f e n = grind (arith, nat_tests)

-- whose bytes are digits
pub digits_wanted : (places : ℕ) (point : Bool) (w f : List ℕ) → is_decimal places point w f ≡ true → (point ≡ false → length f ≡ 0) → (all_ascii_digits w ≡ true) × (all_ascii_digits f ≡ true)
digits_wanted places true w f e n = grind (arith, nat_tests)
digits_wanted places false w [] e n = grind (arith, nat_tests)
digits_wanted places false w (x ∷ f) e n = absurd (omega (arith, n refl))

-- each part spells at most the number
pub whole_least : (places : ℕ) (w f : List ℕ) → digits_value_after 10 0 w ≤ digits_value 10 (digits_of places w f)
whole_least places w f =
    rw (three_parts w f (replicate (places - length f) 48)) (omega (arith, value_grows (digits_value_after 10 0 w) f, value_grows (digits_value_after 10 (digits_value_after 10 0 w) f) (replicate (places - length f) 48)))

pub fraction_least : (places size : ℕ) (w f : List ℕ) → size ≡ digits_value_after 10 0 w → digits_value_after 10 size f ≤ digits_value 10 (digits_of places w f)
fraction_least places size w f e =
    rw (e, three_parts w f (replicate (places - length f) 48)) (value_grows (digits_value_after 10 (digits_value_after 10 0 w) f) (replicate (places - length f) 48))

-- a decimal with all its parts
pub decimal_shape : (places : ℕ) (point : Bool) (w f : List ℕ) → 0 < length w → length f ≤ places → (point ≡ true → 0 < length f) → all_ascii_digits w ≡ true → all_ascii_digits f ≡ true → is_decimal places point w f ≡ true
decimal_shape places true w f some few more dw df = grind (arith, nat_tests)
decimal_shape places false w f some few more dw df = grind (arith, nat_tests)

pub all_parts : (places size more : ℕ) (point : Bool) (w f : List ℕ) (r : Option ℕ) → is_decimal places point w f ≡ true → size ≡ digits_value_after 10 0 w → more ≡ digits_value_after 10 size f → SomeIff r (digits_value_after 10 more (replicate (places - length f) 48) < 2 ^ 64) (digits_value_after 10 more (replicate (places - length f) 48)) → SomeIff r ((is_decimal places point w f ≡ true) × (digits_value 10 (digits_of places w f) < 2 ^ 64)) (digits_value 10 (digits_of places w f))
all_parts places size more point w f r d s m h =
    let z : List ℕ = replicate (places - length f) 48 in
    let last : digits_value_after 10 (digits_value_after 10 (digits_value_after 10 0 w) f) z ≡ digits_value_after 10 more z = ap (λ n. digits_value_after 10 n z) (ap (λ n. digits_value_after 10 n f) (sym s) ∙ sym m) in
    same_answer r _ _ (digits_value_after 10 more z) d (three_parts w f z ∙ last) h
