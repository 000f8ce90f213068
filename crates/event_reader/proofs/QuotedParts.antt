-- The field at the beginning of a text that may have quotes.
use Rattle.std.proofs.Common.{◌≡◌, ◌≢◌, ℕ, ◌+◌, ◌-◌, ◌<◌, ◌≤◌, ◌==◌, List, [], ◌∷◌, ◌++◌, length, take, drop, get_or, false, refl, sym, ◌∙◌, ap, arith, append_assoc, subst, suc, zero, add-one}
use Rattle.std.specs.List.{list_any}
use Rattle.std.proofs.Math.Seq.{drop-cons}
use Rattle.std.proofs.lemmas.Bool.{ne_eqb}
use Rattle.std.proofs.lemmas.List.{append-nil, take-append-drop}
use Rattle.cer_base.specs.declared.bytes.TheConstants.{COMMA, QUOTE}
use Rattle.event_reader.specs.declared.fields.FieldState.{FieldState}
use Rattle.event_reader.specs.declared.fields.FieldState.TheVariants.{Start, Plain, Quoted, AfterQuote}
use Rattle.event_reader.specs.CommonLines.{BeginsNext}
use Rattle.event_reader.specs.QuotedLines.{past, cells_from, is_inside, ends_inside, cells_after, open_after, IsCutOff, IsCutAt, IsPart}
use Rattle.event_reader.proofs.LineBytes.{neither}

-- what a walk from a state on tells of the field at hand and of what follows
pub record Ends (state : FieldState) (cell text whole after : List ℕ) : Type 0 where
  pub cells : cells_from state cell text ≡ whole ∷ cells_after after
  pub ends : ends_inside state text ≡ open_after after

-- a walk comes from one place to another, with these bytes of the field at hand before and after
pub record IsMoved (state : FieldState) (cell text : List ℕ) (next : FieldState) (longer after : List ℕ) : Type 0 where
  pub cells : cells_from state cell text ≡ cells_from next longer after
  pub ends : ends_inside state text ≡ ends_inside next after

-- where the text ends, or another field begins
at_next : (state : FieldState) (cell after : List ℕ) → is_inside state ≡ false → BeginsNext after → Ends state cell after cell after
at_next Start cell [] n b = record { cells = refl; ends = refl }
at_next Plain cell [] n b = record { cells = refl; ends = refl }
at_next Quoted cell [] n b = absurd (cc n)
at_next AfterQuote cell [] n b = record { cells = refl; ends = refl }
at_next Start cell (c ∷ after) n b = record { cells = rw b refl; ends = rw b refl }
at_next Plain cell (c ∷ after) n b = record { cells = rw b refl; ends = rw b refl }
at_next Quoted cell (c ∷ after) n b = absurd (cc n)
at_next AfterQuote cell (c ∷ after) n b = record { cells = rw b refl; ends = rw b refl }

-- bytes with no comma, outside of quotes
pub plain_run : (cell front after : List ℕ) → list_any (λ b. b == COMMA) front ≡ false → BeginsNext after → Ends Plain cell (front ++ after) (cell ++ front) after
plain_run cell [] after none b = subst (λ w. Ends Plain cell after w after) (sym (append-nil cell)) (at_next Plain cell after refl b)
plain_run cell (c ∷ front) after none b =
    let parts : ((c == 44) ≡ false) × (list_any (λ b. b == COMMA) front ≡ false) = neither _ _ none in
    let stays : past Plain c ≡ Plain = rw (parts.0) refl in
    let on = plain_run (cell ++ c ∷ []) front after parts.1 b in
    record {
      cells = rw (parts.0) on.cells ∙ ap (λ w. w ∷ cells_after after) (append_assoc cell (c ∷ []) front);
      ends = ap (λ s. ends_inside s (front ++ after)) stays ∙ on.ends;
    }

-- bytes with no quote, inside of quotes, up to the next one
pub inside_run : (cell front after : List ℕ) → list_any (λ b. b == QUOTE) front ≡ false → IsMoved Quoted cell (front ++ QUOTE ∷ after) AfterQuote (cell ++ front) after
inside_run cell [] after none = record { cells = ap (λ w. cells_from AfterQuote w after) (sym (append-nil cell)); ends = refl }
inside_run cell (c ∷ front) after none =
    let parts : ((c == 34) ≡ false) × (list_any (λ b. b == QUOTE) front ≡ false) = neither _ _ none in
    let stays : past Quoted c ≡ Quoted = rw (parts.0) refl in
    let on = inside_run (cell ++ c ∷ []) front after parts.1 in
    record {
      cells = rw (parts.0) on.cells ∙ ap (λ w. cells_from AfterQuote w after) (append_assoc cell (c ∷ []) front);
      ends = ap (λ s. ends_inside s (front ++ QUOTE ∷ after)) stays ∙ on.ends;
    }

-- where the field ends behind it
quoted_run : (cell front after : List ℕ) → list_any (λ b. b == QUOTE) front ≡ false → BeginsNext after → Ends Quoted cell (front ++ QUOTE ∷ after) (cell ++ front) after
quoted_run cell front after none b =
    let closing = inside_run cell front after none in
    let on = at_next AfterQuote (cell ++ front) after refl b in
    record { cells = closing.cells ∙ on.cells; ends = closing.ends ∙ on.ends }

-- a field that begins with no quote
plain_begins : (front after : List ℕ) → (get_or front 0 0 == QUOTE) ≡ false → list_any (λ b. b == COMMA) front ≡ false → BeginsNext after → Ends Start [] (front ++ after) front after
plain_begins [] after first none b = at_next Start [] after refl b
plain_begins (c ∷ front) after first none b =
    let first' : (c == 34) ≡ false = first in
    let parts : ((c == 44) ≡ false) × (list_any (λ b. b == COMMA) front ≡ false) = neither _ _ none in
    let on = plain_run (c ∷ []) front after parts.1 b in
    let plain : past Start c ≡ Plain = rw (first', parts.0) refl in
    record { cells = rw (first', parts.0) on.cells; ends = ap (λ s. ends_inside s (front ++ after)) plain ∙ on.ends }

-- a text from a place on, where its end is or such a byte stands
pub next_at : (text : List ℕ) (end : ℕ) → end ≤ length text → (end < length text → get_or text end 0 ≡ COMMA) → BeginsNext (drop end text)
next_at [] zero w h = tt
next_at [] (suc end) w h = absurd (omega arith)
next_at (c ∷ text) zero w h = h (omega arith)
next_at (c ∷ text) (suc end) w h = next_at text end (omega arith) (λ less. h (omega arith))

front_first : (text : List ℕ) (end : ℕ) → (get_or text 0 0 == QUOTE) ≡ false → (get_or (take end text) 0 0 == QUOTE) ≡ false
front_first [] zero e = e
front_first [] (suc end) e = e
front_first (c ∷ text) zero e = refl
front_first (c ∷ text) (suc end) e = e

pub plain_cut : (text : List ℕ) (end : ℕ) → end ≤ length text → (get_or text 0 0 == QUOTE) ≡ false → list_any (λ b. b == COMMA) (take end text) ≡ false → (end < length text → get_or text end 0 ≡ COMMA) → IsCutAt text (take end text) end
plain_cut text end within first none here =
    let b = next_at text end within here in
    let e = plain_begins (take end text) (drop end text) (front_first text end first) none b in
    let whole : take end text ++ drop end text ≡ text = take-append-drop end text in
    record {
      within = within;
      cut = record {
        begins = b;
        cells = ap (cells_from Start []) (sym whole) ∙ e.cells;
        ends = ap (ends_inside Start) (sym whole) ∙ e.ends;
      };
    }

-- the bytes between an opening quote and the next one, behind which the field ends
pub quoted_cut : (text : List ℕ) (at : ℕ) → at < length text → list_any (λ b. b == QUOTE) (take at text) ≡ false → get_or text at 0 ≡ QUOTE → (at + 1 < length text → get_or text (at + 1) 0 ≡ COMMA) → IsCutAt (QUOTE ∷ text) (take at text) (at + 2)
quoted_cut text at within none here behind =
    let b = next_at text (at + 1) (omega arith) behind in
    let e = quoted_run [] (take at text) (drop (at + 1) text) none b in
    let rest : drop at text ≡ QUOTE ∷ drop (at + 1) text = rw (add-one) (drop-cons text at 0 within) ∙ ap (λ q. q ∷ drop (at + 1) text) here in
    let whole : take at text ++ QUOTE ∷ drop (at + 1) text ≡ text = ap (λ t. take at text ++ t) (sym rest) ∙ take-append-drop at text in
    let left : drop (at + 2) (QUOTE ∷ text) ≡ drop (at + 1) text = ap (λ n. drop n (QUOTE ∷ text)) (let n : at + 2 ≡ suc (at + 1) = omega arith in n) in
    record {
      within = omega arith;
      cut = subst (λ after. IsCutOff (QUOTE ∷ text) (take at text) after) (sym left) (record {
        begins = b;
        cells = ap (cells_from Quoted []) (sym whole) ∙ e.cells;
        ends = ap (ends_inside Quoted) (sym whole) ∙ e.ends;
      });
    }

-- the parts as they are answered
pub plain_part : (text : List ℕ) (end : ℕ) → end ≤ length text → (get_or text 0 0 == QUOTE) ≡ false → list_any (λ b. b == COMMA) (take end text) ≡ false → (end < length text → get_or text end 0 ≡ COMMA) → IsPart text 0 end end
plain_part text end within first none here =
    let all : take (end - 0) (drop 0 text) ≡ take end text = ap (λ n. take n text) (let n : end - 0 ≡ end = omega arith in n) in
    record { low = omega arith; high = within; cut = subst (λ cell. IsCutAt text cell end) (sym all) (plain_cut text end within first none here) }

pub quoted_part : (text : List ℕ) (at : ℕ) → at < length text → list_any (λ b. b == QUOTE) (take at text) ≡ false → get_or text at 0 ≡ QUOTE → (at + 1 < length text → get_or text (at + 1) 0 ≡ COMMA) → IsPart (QUOTE ∷ text) 1 (at + 1) (at + 2)
quoted_part text at within none here behind =
    let all : take (at + 1 - 1) (drop 1 (QUOTE ∷ text)) ≡ take at text = ap (λ n. take n text) (let n : at + 1 - 1 ≡ at = omega arith in n) in
    record { low = omega arith; high = omega arith; cut = subst (λ cell. IsCutAt (QUOTE ∷ text) cell (at + 2)) (sym all) (quoted_cut text at within none here behind) }

-- a text without its first byte, as the code takes it apart
pub first_told : (text rest : List ℕ) (first : ℕ) → text ≡ first ∷ rest → first ≢ QUOTE → (get_or text 0 0 == QUOTE) ≡ false
first_told text rest first is n = rw is (ne_eqb first QUOTE n)
