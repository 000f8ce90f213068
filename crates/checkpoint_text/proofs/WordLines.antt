-- The lines of counts and of a position, as they are read and as they are spelled.
use Rattle.std.proofs.Common.{◌≡◌, ℕ, ◌≤◌, ◌∷◌, ◌++◌, Bool, true, false, cond, List, refl, sym, ap, ◌∙◌, Option, Some, None, arith, rules}
use Rattle.std.specs.Prelude.{bytes_eq, codes, decimal, option_and_then, option_map}
use Rattle.std.specs.List.{list_any}
use Rattle.checkpoint_text.specs.Numbers.{number, after_word, after_word_in, two_numbers, counts_of, position_of}
use Rattle.checkpoint_text.specs.Spelling.{counts_text, position_text}
use Rattle.event_reader.specs.LineWords.{is_blank, cut}
use Rattle.event_reader.proofs.FirstBlank.{cut_is, parts_join, parts_of, mapped_some}
use Rattle.checkpoint_text.proofs.Decimals.{number_text, text_number, decimal_without}

same_bytes : (xs ys : List ℕ) → bytes_eq xs ys ≡ true → xs ≡ ys
same_bytes xs ys e = search (rules, e)

cut_joins : (text a b : List ℕ) → cut text ≡ Some (a, b) → text ≡ a ++ 32 ∷ b
cut_joins text a b e = parts_join text a b (sym (cut_is text) ∙ e)

cut_of : (a b : List ℕ) → list_any is_blank a ≡ false → cut (a ++ 32 ∷ b) ≡ Some (a, b)
cut_of a b none = cut_is (a ++ 32 ∷ b) ∙ parts_of a b none

and_then_some : {X Y : Type 0} (f : X → Option Y) (o : Option X) (y : Y) → option_and_then f o ≡ Some y → (x : X) × (o ≡ Some x) × (f x ≡ Some y)
and_then_some f None y e = absurd cc
and_then_some f (Some x) y e = (x, refl, e)

chosen_some : {X : Type 0} (t : Bool) (x y : X) → cond t (Some x) None ≡ Some y → (t ≡ true) × (x ≡ y)
chosen_some true x y e = (refl, cc)
chosen_some false x y e = absurd cc

after_word_text : (word text rest : List ℕ) → after_word word text ≡ Some rest → text ≡ word ++ 32 ∷ rest
after_word_text word text rest e =
    let found = and_then_some (after_word_in word) (cut text) rest e in
    let chosen = chosen_some (bytes_eq found.0.0 word) found.0.1 rest found.2 in
    cut_joins text found.0.0 found.0.1 found.1 ∙ ap (λ w. w ++ 32 ∷ found.0.1) (same_bytes found.0.0 word chosen.0) ∙ ap (λ r. word ++ 32 ∷ r) chosen.1

-- what a position is read from
pub position_told : (text : List ℕ) (n : ℕ) → position_of text ≡ Some n → (text ≡ position_text n) × (n ≤ 4611686018427387904)
position_told text n e =
    let found = and_then_some (number 4611686018427387904) (after_word (codes "at") text) n e in
    let digits = number_text 4611686018427387904 n found.0 (omega arith) found.2 in
    (after_word_text (codes "at") text found.0 found.1 ∙ ap (λ ds. codes "at " ++ ds) digits.0, digits.1)

pub told_position : (n : ℕ) → n ≤ 4611686018427387904 → position_of (position_text n) ≡ Some n
told_position n few =
    ap (λ o. option_and_then (number 4611686018427387904) (option_and_then (after_word_in (codes "at")) o)) (cut_of (codes "at") (decimal n) refl) ∙ text_number 4611686018427387904 n (omega arith) few

-- what counts are read from
pub counts_told : (text : List ℕ) (positions count : ℕ) → counts_of text ≡ Some (positions, count) → (text ≡ counts_text positions count) × (positions ≤ 4611686018427387904) × (count ≤ positions)
counts_told text positions count e =
    let words = and_then_some (λ ws. option_and_then two_numbers (cut ws)) (after_word (codes "events") text) (positions, count) e in
    let pair = and_then_some two_numbers (cut words.0) (positions, count) words.2 in
    let first = and_then_some (λ p. option_map (λ k. (p, k)) (number p pair.0.1)) (number 4611686018427387904 pair.0.0) (positions, count) pair.2 in
    let second = mapped_some (λ k. (first.0, k)) (number first.0 pair.0.1) (positions, count) first.2 in
    let p_is : first.0 ≡ positions = ap (λ x. x.0) second.2 in
    let k_is : second.0 ≡ count = ap (λ x. x.1) second.2 in
    let p_text = number_text 4611686018427387904 first.0 pair.0.0 (omega arith) first.1 in
    let k_text = number_text first.0 second.0 pair.0.1 (omega (arith, p_text.1)) second.1 in (
      after_word_text (codes "events") text words.0 words.1
          ∙ ap (λ ws. codes "events " ++ ws) (cut_joins words.0 pair.0.0 pair.0.1 pair.1
          ∙ ap (λ a. a ++ 32 ∷ pair.0.1) (p_text.0 ∙ ap decimal p_is) ∙ ap (λ b. decimal positions ++ 32 ∷ b) (k_text.0 ∙ ap decimal k_is)),
      omega (arith, p_text.1, p_is),
      omega (arith, k_text.1, p_is, k_is),
    )

pub told_counts : (positions count : ℕ) → positions ≤ 4611686018427387904 → count ≤ positions → counts_of (counts_text positions count) ≡ Some (positions, count)
told_counts positions count few fewer =
    ap (λ o. option_and_then (λ ws. option_and_then two_numbers (cut ws)) (option_and_then (after_word_in (codes "events")) o)) (cut_of (codes "events") (decimal positions ++ 32 ∷ decimal count) refl)
    ∙ ap (option_and_then two_numbers) (cut_of (decimal positions) (decimal count) (decimal_without 32 positions refl (omega arith)))
    ∙ ap (option_and_then (λ p. option_map (λ k. (p, k)) (number p (decimal count)))) (text_number 4611686018427387904 positions (omega arith) few)
    ∙ ap (option_map (λ k. (positions, k))) (text_number positions count (omega arith) fewer)
