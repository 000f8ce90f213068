-- Texts and tests on them.
use Rattle.std.proofs.Common.{◌≡◌, ℕ, ◌+◌, ◌<◌, List, length, take, get_or, Bool, true, false, bytes_eq, refl, sym, IsTrue}
use Rattle.std.specs.Prelude.{◌↔◌}
use Rattle.std.specs.Str.{IsUtf8, is_utf8, IsAscii}
use Rattle.std.proofs.lemmas.Slice.Eq.{bytes_eq-Decides}
use Rattle.std.proofs.lemmas.Str.{IsUtf8-from_is_utf8, is_utf8-from_IsUtf8, IsUtf8-from_ascii}
use Rattle.std.proofs.lemmas.Str.Ascii.{IsAscii-more}

-- a test that does not hold
pub by_cases : (b : Bool) → (b ≡ true → ⊥) → b ≡ false
by_cases true n = absurd (n refl)
by_cases false n = refl

pub utf8_is : (bytes : List ℕ) → IsUtf8 bytes → is_utf8 bytes ≡ true
utf8_is bytes u = is_utf8-from_IsUtf8 bytes u

pub utf8_is_not : (bytes : List ℕ) → (IsUtf8 bytes → ⊥) → is_utf8 bytes ≡ false
utf8_is_not bytes u = by_cases (is_utf8 bytes) (λ e. u (IsUtf8-from_is_utf8 bytes e))

-- bytes below 128 are a text
pub ascii_utf8 : (bytes : List ℕ) → IsAscii bytes → IsUtf8 bytes
ascii_utf8 bytes a = IsUtf8-from_ascii bytes a

pub ascii_is : (bytes : List ℕ) → IsAscii bytes → is_utf8 bytes ≡ true
ascii_is bytes a = utf8_is bytes (ascii_utf8 bytes a)

-- one more byte below 128
pub ascii_more : (bytes : List ℕ) (i : ℕ) → i < length bytes → IsAscii (take i bytes) → get_or bytes i 0 < 128 → IsAscii (take (i + 1) bytes)
ascii_more bytes i within before below = IsAscii-more bytes i within before below

-- a test that tells whether two texts are alike is the comparison of them
pub same_test : (xs ys : List ℕ) (r : Bool) → (IsTrue r ↔ (xs ≡ ys)) → r ≡ bytes_eq xs ys
same_test xs ys true h = sym ((bytes_eq-Decides xs ys).1 (h.0 refl))
same_test xs ys false h = sym (by_cases (bytes_eq xs ys) (λ e. absurd (cc (h.1 ((bytes_eq-Decides xs ys).0 e)))))
