-- A search for a line feed tells whether there is one.
use Rattle.std.proofs.Common.{◌≡◌, ◌∙◌, sym, ap, refl, ℕ, ◌==◌, List, length, take, Bool, true, false, Option, Some, None, arith}
use Rattle.std.specs.Prelude.{is_some, IfSome, IfNone}
use Rattle.std.proofs.lemmas.List.Folds.{list_any_none, list_any_at}
use Rattle.std.proofs.lemmas.Grind.{get_or_default_zero}
use Rattle.std.proofs.lemmas.List.{get_or-take, length-take}
use Rattle.memchr.specs.Find.{IsFirstByte, is_byte}
use Rattle.event_reader.specs.Lines.{has_line_feed}

not_true : (b : Bool) → (b ≡ true → ⊥) → b ≡ false
not_true false not = refl
not_true true not = absurd (not refl)

pub has_feed : (bytes : List ℕ) (place : Option ℕ) → IsFirstByte (is_byte 10) bytes place → is_some place ≡ has_line_feed bytes
has_feed bytes None none =
    sym (list_any_none (λ b. b == 10) bytes (λ k d h. not_true _ (λ e. none k (omega arith) h (ap (λ b. b == 10) (sym (get_or_default_zero bytes k d h)) ∙ e))))
has_feed bytes (Some k) found = sym (list_any_at (λ b. b == 10) bytes k 0 found.0.high found.1)

-- no line feed stands before the first one,
pub before_feed : (bytes : List ℕ) (place : Option ℕ) → IsFirstByte (is_byte 10) bytes place → IfSome place (λ len. has_line_feed (take len bytes) ≡ false)
before_feed bytes None none = tt
before_feed bytes (Some n) found =
    let high = found.0.high in
    let long : length (take n bytes) ≡ n = (let l = length-take n bytes in omega arith) in
    list_any_none (λ b. b == 10) (take n bytes) (λ k d h. not_true _ (λ e. found.0.before k (omega arith) (omega arith)
    (ap (λ b. b == 10) (sym (get_or_default_zero bytes k d (omega arith))) ∙ (ap (λ b. b == 10) (sym (get_or-take n bytes k d (omega arith))) ∙ e))))

-- and none at all where a search finds none
pub none_feed : (bytes : List ℕ) (place : Option ℕ) → IsFirstByte (is_byte 10) bytes place → IfNone place (has_line_feed bytes ≡ false)
none_feed bytes None none = sym (has_feed bytes None none)
none_feed bytes (Some n) found = tt
