-- Where a string is closed, and whether its bytes are UTF-8.
use Rattle.std.proofs.Common.{◌≡◌, ℕ, ◌+◌, ◌<◌, ◌≤◌, Bool, true, false, eqb, List, [], ◌∷◌, length, get_or, drop, Option, Some, None, Result, Ok, Err, refl, ap, sym, ◌∙◌, arith, add-one}
use Rattle.std.specs.Prelude.{option_map, MatchResult}
use Rattle.std.specs.Result.{is_ok}
use Rattle.std.specs.Str.{IsUtf8, is_utf8}
use Rattle.std.proofs.Math.Seq.{drop-cons}
use Rattle.std.proofs.lemmas.Grind.{common_steps}
use Rattle.std.proofs.lemmas.Str.{is_utf8-from_IsUtf8, IsUtf8-from_is_utf8}
use Rattle.ceql_lexer.specs.Fronts.{closing}

is_false : (b : Bool) → (b ≡ true → ⊥) → false ≡ b
is_false false h = refl
is_false true h = absurd (h refl)

pub utf8_test : {T E : Type 0} (r : Result T E) (P : T → Type 0) (Q : E → Type 0) (bytes : List ℕ) → MatchResult r (λ s. P s × IsUtf8 bytes) (λ e. ¬ (IsUtf8 bytes) × Q e) → is_ok r ≡ is_utf8 bytes
utf8_test (Ok s) P Q bytes h = sym (is_utf8-from_IsUtf8 bytes h.1)
utf8_test (Err e) P Q bytes h = is_false (is_utf8 bytes) (λ t. h.0 (IsUtf8-from_is_utf8 bytes t))

-- what is found, counted from so many bytes before
abbrev pub later : ℕ → Option ℕ → Option ℕ
later k None = None
later k (Some n) = Some (k + n)

later_zero : (o : Option ℕ) → later 0 o ≡ o
later_zero None = refl
later_zero (Some n) = ap (λ x. Some x) (omega arith)

later_more : (k m : ℕ) (o : Option ℕ) → later k (option_map (λ n. n + m) o) ≡ later (k + m) o
later_more k m None = refl
later_more k m (Some n) = ap (λ x. Some x) (omega arith)

closing_other : (quote byte : ℕ) (bytes : List ℕ) → eqb byte 10 ≡ false → eqb byte quote ≡ false → closing quote (byte ∷ bytes) ≡ option_map (λ n. n + 1) (closing quote bytes)
unfolding closing
closing_other quote byte [] line other = rw (line, other) refl
closing_other quote byte (next ∷ bytes) line other = rw (line, other) refl

closing_doubled : (quote byte next : ℕ) (bytes : List ℕ) → eqb byte 10 ≡ false → eqb byte quote ≡ true → eqb next quote ≡ true → closing quote (byte ∷ next ∷ bytes) ≡ option_map (λ n. n + 2) (closing quote bytes)
unfolding closing
closing_doubled quote byte next bytes line same again = rw (line, same, again) refl

closing_line : (quote byte : ℕ) (bytes : List ℕ) → eqb byte 10 ≡ true → closing quote (byte ∷ bytes) ≡ None
unfolding closing
closing_line quote byte [] line = rw line refl
closing_line quote byte (next ∷ bytes) line = rw line refl

closing_last : (quote byte : ℕ) → eqb byte 10 ≡ false → eqb byte quote ≡ true → closing quote (byte ∷ []) ≡ Some 1
unfolding closing
closing_last quote byte line same = rw (line, same) refl

closing_here : (quote byte next : ℕ) (bytes : List ℕ) → eqb byte 10 ≡ false → eqb byte quote ≡ true → eqb next quote ≡ false → closing quote (byte ∷ next ∷ bytes) ≡ Some 1
unfolding closing
closing_here quote byte next bytes line same single = rw (line, same, single) refl

-- The closing quote of the whole is the one that is found after the bytes that were passed.
pub record Passes (quote : ℕ) (text : List ℕ) (passed : ℕ) : Type 0 where
  pub within : passed ≤ length text
  pub found : later passed (closing quote (drop passed text)) ≡ closing quote text

pub passes_none : (quote : ℕ) (text : List ℕ) → Passes quote text 0
passes_none quote text = record { within = omega arith; found = later_zero (closing quote text) }

at_byte : (text : List ℕ) (k : ℕ) → k < length text → drop k text ≡ get_or text k 0 ∷ drop (k + 1) text
at_byte text k lt = rw (add-one, drop-cons text k 0) refl

pub passes_other : (quote : ℕ) (text : List ℕ) (k : ℕ) → Passes quote text k → k < length text → eqb (get_or text k 0) 10 ≡ false → eqb (get_or text k 0) quote ≡ false → Passes quote text (k + 1)
passes_other quote text k p lt line other = record {
  within = omega arith;
  found = sym (later_more k 1 (closing quote (drop (k + 1) text))) ∙ ap (later k) (sym (closing_other quote (get_or text k 0) (drop (k + 1) text) line other)) ∙ ap (λ bytes. later k (closing quote bytes)) (sym (at_byte text k lt)) ∙ p.found;
}

two_bytes : (text : List ℕ) (k : ℕ) → k + 1 < length text → drop k text ≡ get_or text k 0 ∷ (get_or text (k + 1) 0 ∷ drop (k + 2) text)
two_bytes text k lt = at_byte text k (omega arith) ∙ ap (λ bytes. get_or text k 0 ∷ bytes) (at_byte text (k + 1) lt ∙ ap (λ n. get_or text (k + 1) 0 ∷ drop n text) (omega arith))

pub passes_doubled : (quote : ℕ) (text : List ℕ) (k : ℕ) → Passes quote text k → k + 1 < length text → eqb (get_or text k 0) 10 ≡ false → eqb (get_or text k 0) quote ≡ true → eqb (get_or text (k + 1) 0) quote ≡ true → Passes quote text (k + 2)
passes_doubled quote text k p lt line same again = record {
  within = omega arith;
  found = sym (later_more k 2 (closing quote (drop (k + 2) text))) ∙ ap (later k) (sym (closing_doubled quote (get_or text k 0) (get_or text (k + 1) 0) (drop (k + 2) text) line same again)) ∙ ap (λ bytes. later k (closing quote bytes)) (sym (two_bytes text k lt)) ∙ p.found;
}

pub closed_last : (quote : ℕ) (text : List ℕ) (k : ℕ) → Passes quote text k → k + 1 ≡ length text → eqb (get_or text k 0) 10 ≡ false → eqb (get_or text k 0) quote ≡ true → Some (k + 1) ≡ closing quote text
closed_last quote text k p last line same =
    let nothing : drop (k + 1) text ≡ [] = grind (arith, common_steps) in
    sym (ap (λ bytes. later k (closing quote bytes)) (at_byte text k (omega arith) ∙ ap (λ bytes. get_or text k 0 ∷ bytes) nothing) ∙ ap (later k) (closing_last quote (get_or text k 0) line same)) ∙ p.found

pub closed_here : (quote : ℕ) (text : List ℕ) (k : ℕ) → Passes quote text k → k + 1 < length text → eqb (get_or text k 0) 10 ≡ false → eqb (get_or text k 0) quote ≡ true → eqb (get_or text (k + 1) 0) quote ≡ false → Some (k + 1) ≡ closing quote text
closed_here quote text k p lt line same single =
    sym (ap (λ bytes. later k (closing quote bytes)) (two_bytes text k lt) ∙ ap (later k) (closing_here quote (get_or text k 0) (get_or text (k + 1) 0) (drop (k + 2) text) line same single)) ∙ p.found

pub open_at_line : (quote : ℕ) (text : List ℕ) (k : ℕ) → Passes quote text k → k < length text → eqb (get_or text k 0) 10 ≡ true → None ≡ closing quote text
open_at_line quote text k p lt line =
    sym (ap (λ bytes. later k (closing quote bytes)) (at_byte text k lt) ∙ ap (later k) (closing_line quote (get_or text k 0) (drop (k + 1) text) line)) ∙ p.found

pub open_at_end : (quote : ℕ) (text : List ℕ) (k : ℕ) → Passes quote text k → length text ≤ k → None ≡ closing quote text
unfolding closing
open_at_end quote text k p le =
    let nothing : drop k text ≡ [] = grind (arith, common_steps) in
    sym (ap (λ bytes. later k (closing quote bytes)) nothing) ∙ p.found
