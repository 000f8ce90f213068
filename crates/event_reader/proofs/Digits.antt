-- The number that digits write.
use Rattle.std.proofs.Common.{◌≡◌, ℕ, ◌+◌, ◌*◌, ◌<◌, ◌≤◌, List, [], ◌∷◌, ◌++◌, length, drop, get_or, replicate, ◌&&◌, true, add-one, refl, arith, suc, ◌-◌, sym, ◌∙◌, ap}
use Rattle.std.proofs.Math.Seq.{drop-cons}
use Rattle.std.proofs.lemmas.List.{drop_all}
use Rattle.std.specs.Char.{digit_value, is_ascii_digit}
use Rattle.std.specs.Str.{all_ascii_digits}
use Rattle.std.specs.Str.Parse.{digits_value_after}

-- one digit more
pub value_step : (n i : ℕ) (ds : List ℕ) → i < length ds → digits_value_after 10 n (drop i ds) ≡ digits_value_after 10 (n * 10 + digit_value (get_or ds i 0)) (drop (i + 1) ds)
value_step n i ds h = rw (add-one, drop-cons ds i 0) refl

-- the bytes from place i on are digits where this one is and the later ones are
pub digits_step : (i : ℕ) (ds : List ℕ) → i < length ds → all_ascii_digits (drop i ds) ≡ (is_ascii_digit (get_or ds i 0) && all_ascii_digits (drop (i + 1) ds))
digits_step i ds h = rw (add-one, drop-cons ds i 0) refl

-- further digits make no number less
pub value_grows : (n : ℕ) (ds : List ℕ) → n ≤ digits_value_after 10 n ds
value_grows n [] = omega arith
value_grows n (d ∷ ds) = omega (arith, value_grows (n * 10 + digit_value d) ds)

-- digits and then more of them
pub value_append : (n : ℕ) (xs ys : List ℕ) → digits_value_after 10 n (xs ++ ys) ≡ digits_value_after 10 (digits_value_after 10 n xs) ys
value_append n [] ys = refl
value_append n (x ∷ xs) ys = value_append (n * 10 + digit_value x) xs ys

-- a number on the way is at most the whole one
pub value_bound : (size n i : ℕ) (ds : List ℕ) → i < length ds → digits_value_after 10 size ds ≡ digits_value_after 10 n (drop i ds) → n * 10 + digit_value (get_or ds i 0) ≤ digits_value_after 10 size ds
value_bound size n i ds h e =
    rw (e ∙ value_step n i ds h) (value_grows (n * 10 + digit_value (get_or ds i 0)) (drop (i + 1) ds))

-- at the end nothing follows
pub value_end : (size n i : ℕ) (ds : List ℕ) → length ds ≤ i → digits_value_after 10 size ds ≡ digits_value_after 10 n (drop i ds) → n ≡ digits_value_after 10 size ds
value_end size n i ds h e = sym (e ∙ ap (digits_value_after 10 n) (drop_all i ds h))

pub digits_end : (i : ℕ) (ds : List ℕ) → length ds ≤ i → all_ascii_digits ds ≡ all_ascii_digits (drop i ds) → all_ascii_digits ds ≡ true
digits_end i ds h e = e ∙ ap all_ascii_digits (drop_all i ds h)

-- one zero more
pub zeros_step : (n count i : ℕ) → i < count → digits_value_after 10 n (replicate (count - i) 48) ≡ digits_value_after 10 (n * 10) (replicate (count - (i + 1)) 48)
zeros_step n count i h =
    let k : count - i ≡ suc (count - (i + 1)) = omega arith in
    let z : n * 10 + 0 ≡ n * 10 = omega arith in
    ap (λ m. digits_value_after 10 n (replicate m 48)) k ∙ ap (λ m. digits_value_after 10 m (replicate (count - (i + 1)) 48)) z

pub zeros_bound : (size n count i : ℕ) → i < count → digits_value_after 10 size (replicate count 48) ≡ digits_value_after 10 n (replicate (count - i) 48) → n * 10 ≤ digits_value_after 10 size (replicate count 48)
zeros_bound size n count i h e =
    rw (e ∙ zeros_step n count i h) (value_grows (n * 10) (replicate (count - (i + 1)) 48))
