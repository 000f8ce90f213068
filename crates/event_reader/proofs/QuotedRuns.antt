-- The field at the beginning of a text, put together run by run.
use Rattle.std.proofs.Common.{◌≡◌, ℕ, ◌+◌, ◌-◌, ◌<◌, ◌≤◌, ◌==◌, List, [], ◌∷◌, ◌++◌, length, take, drop, get_or, max, false, refl, sym, ◌∙◌, ap, add-one, arith, append_assoc, subst, suc, zero}
use Rattle.std.specs.List.{list_any}
use Rattle.std.proofs.Math.Seq.{drop-cons}
use Rattle.std.proofs.lemmas.List.{take-append-drop, get_or-drop, get_or_past, length-drop, drop-drop}
use Rattle.cer_base.specs.declared.bytes.TheConstants.{COMMA, QUOTE}
use Rattle.event_reader.specs.declared.fields.FieldState.{FieldState}
use Rattle.event_reader.specs.declared.fields.FieldState.TheVariants.{Start, Plain, AfterQuote}
use Rattle.event_reader.specs.QuotedLines.{cells_from, ends_inside, IsCutOff, IsCutAt, IsWalked, IsPlainFrom}
use Rattle.event_reader.proofs.CommonFields.{slice_is}
use Rattle.event_reader.proofs.QuotedParts.{IsMoved, inside_run, plain_run, next_at}

-- where a walk stands before a quote that opens the quotes: at the beginning, or behind one that closed them
abbrev pub opening : ℕ → FieldState
opening zero = Start
opening (suc at) = AfterQuote

pub at_first : (text cell : List ℕ) → cell ≡ [] → IsWalked text Start cell text
at_first text cell none = record { cells = ap (λ c. cells_from Start c text) (sym none); ends = refl }

-- a quote, a run and the quote behind it
first_run : (text cell run after : List ℕ) → IsWalked text Start cell (QUOTE ∷ run ++ QUOTE ∷ after) → list_any (λ b. b == QUOTE) run ≡ false → IsWalked text AfterQuote (cell ++ run) after
first_run text cell run after w none =
    let m = inside_run cell run after none in
    record { cells = w.cells ∙ m.cells; ends = w.ends ∙ m.ends }

further_run : (text cell run after : List ℕ) → IsWalked text AfterQuote cell (QUOTE ∷ run ++ QUOTE ∷ after) → list_any (λ b. b == QUOTE) run ≡ false → IsWalked text AfterQuote (cell ++ QUOTE ∷ run) after
further_run text cell run after w none =
    let m = inside_run (cell ++ QUOTE ∷ []) run after none in
    record { cells = w.cells ∙ m.cells ∙ ap (λ c. cells_from AfterQuote c after) (append_assoc cell (QUOTE ∷ []) run); ends = w.ends ∙ m.ends }

-- what is kept of them
abbrev kept : ℕ → List ℕ → List ℕ
kept zero run = run
kept (suc at) run = QUOTE ∷ run

one_run : (text cell run after : List ℕ) (at : ℕ) → IsWalked text (opening at) cell (QUOTE ∷ run ++ QUOTE ∷ after) → list_any (λ b. b == QUOTE) run ≡ false → IsWalked text AfterQuote (cell ++ kept at run) after
one_run text cell run after zero w none = first_run text cell run after w none
one_run text cell run after (suc at) w none = further_run text cell run after w none

-- a text from a byte on, and from a later one
split_at : (text : List ℕ) (at : ℕ) (byte : ℕ) → at < length text → get_or text at 0 ≡ byte → drop at text ≡ byte ∷ drop (at + 1) text
split_at text at byte less here = rw add-one (drop-cons text at 0 less) ∙ ap (λ b. b ∷ drop (at + 1) text) here

between : (text : List ℕ) (at size : ℕ) → at + 1 + size < length text → get_or text at 0 ≡ QUOTE → get_or text (at + 1 + size) 0 ≡ QUOTE → drop at text ≡ QUOTE ∷ take size (drop (at + 1) text) ++ QUOTE ∷ drop (at + 1 + size + 1) text
between text at size less here there =
    split_at text at QUOTE (omega arith) here
    ∙ ap (λ t. QUOTE ∷ t) (sym (take-append-drop size (drop (at + 1) text)))
    ∙ ap (λ t. QUOTE ∷ take size (drop (at + 1) text) ++ t) (drop-drop size (at + 1) text ∙ split_at text (at + 1 + size) QUOTE less there)

kept_is : (text : List ℕ) (at size : ℕ) → at < length text → get_or text at 0 ≡ QUOTE → take (at + 1 + size - max at 1) (drop (max at 1) text) ≡ kept at (take size (drop (at + 1) text))
kept_is text zero size less here =
    ap (λ n. take n (drop (max 0 1) text)) (let n : 0 + 1 + size - max 0 1 ≡ size = omega arith in n)
    ∙ ap (λ n. take size (drop n text)) (let n : max 0 1 ≡ 0 + 1 = omega arith in n)
kept_is text (suc at) size less here =
    ap (λ n. take n (drop (max (suc at) 1) text)) (let n : suc at + 1 + size - max (suc at) 1 ≡ suc size = omega arith in n)
    ∙ ap (λ n. take (suc size) (drop n text)) (let n : max (suc at) 1 ≡ suc at = omega arith in n)
    ∙ ap (take (suc size)) (split_at text (suc at) QUOTE less here)

run_kept : (text cell now rest : List ℕ) (at size : ℕ) → rest ≡ drop (at + 1) text → IsWalked text (opening at) cell (drop at text) → at < length text → get_or text at 0 ≡ QUOTE → at + 1 + size < length text → list_any (λ b. b == QUOTE) (take size rest) ≡ false → (size < length rest → get_or rest size 0 ≡ QUOTE) → now ≡ cell ++ take (at + 1 + size - max at 1) (drop (max at 1) text) → IsWalked text AfterQuote now (drop (at + 1 + size + 1) text)
run_kept text cell now rest at size is w less here more none next put =
    let long : length rest ≡ length text - (at + 1) = ap length is ∙ length-drop (at + 1) text in
    let there : get_or text (at + 1 + size) 0 ≡ QUOTE = sym (get_or-drop (at + 1) text size 0) ∙ ap (λ t. get_or t size 0) (sym is) ∙ next (omega (arith, long)) in
    let run : list_any (λ b. b == QUOTE) (take size (drop (at + 1) text)) ≡ false = ap (λ t. list_any (λ b. b == QUOTE) (take size t)) (sym is) ∙ none in
    let front : IsWalked text (opening at) cell (QUOTE ∷ take size (drop (at + 1) text) ++ QUOTE ∷ drop (at + 1 + size + 1) text) = subst (IsWalked text (opening at) cell) (between text at size more here there) w in
    let bytes : now ≡ cell ++ kept at (take size (drop (at + 1) text)) = put ∙ ap (λ t. cell ++ t) (kept_is text at size less here) in
    subst (λ c. IsWalked text AfterQuote c (drop (at + 1 + size + 1) text)) (sym bytes) (one_run text cell (take size (drop (at + 1) text)) (drop (at + 1 + size + 1) text) at front run)

-- one more run, its bytes told of the text as the code takes it apart
pub one_more_run : (text cell now : List ℕ) (at low size : ℕ) → IsWalked text (opening at) cell (drop at text) → at < length text → get_or text at 0 ≡ QUOTE → at + 1 + size < length text → list_any (λ b. b == QUOTE) (take size (take (length text - (at + 1)) (drop (at + 1) text))) ≡ false → (size < length (take (length text - (at + 1)) (drop (at + 1) text)) → get_or (take (length text - (at + 1)) (drop (at + 1) text)) size 0 ≡ QUOTE) → low ≡ max at 1 → now ≡ cell ++ take (at + 1 + size - low) (drop low text) → IsWalked text (opening (at + 1 + size + 1)) now (drop (at + 1 + size + 1) text)
one_more_run text cell now at low size w less here more none next is put =
    let closed : opening (at + 1 + size + 1) ≡ AfterQuote = ap opening (add-one (at + 1 + size)) in
    subst (λ s. IsWalked text s now (drop (at + 1 + size + 1) text)) (sym closed) (run_kept text cell now _ at size (slice_is (at + 1) text) w less here more none next (put ∙ ap (λ n. cell ++ take (at + 1 + size - n) (drop n text)) is))

-- where no quote follows, a walk goes on as one outside of quotes does
as_plain : (at : ℕ) (cell rest : List ℕ) → (get_or rest 0 0 == QUOTE) ≡ false → IsMoved (opening at) cell rest Plain cell rest
as_plain zero cell [] n = record { cells = refl; ends = refl }
as_plain (suc at) cell [] n = record { cells = refl; ends = refl }
as_plain zero cell (c ∷ rest) n = let other : (c == 34) ≡ false = n in record { cells = rw other refl; ends = rw other refl }
as_plain (suc at) cell (c ∷ rest) n = let other : (c == 34) ≡ false = n in record { cells = rw other refl; ends = rw other refl }

pub runs_end : (text cell : List ℕ) (at : ℕ) → at ≤ length text → IsWalked text (opening at) cell (drop at text) → (get_or text at 0 == QUOTE) ≡ false → IsPlainFrom text cell at
runs_end text cell at within w none =
    let first : get_or (drop at text) 0 0 ≡ get_or text at 0 = get_or-drop at text 0 0 ∙ ap (λ n. get_or text n 0) (let n : at + 0 ≡ at = omega arith in n) in
    let m = as_plain at cell (drop at text) (ap (λ b. b == QUOTE) first ∙ none) in
    record { within = within; walked = record { cells = w.cells ∙ m.cells; ends = w.ends ∙ m.ends } }

-- no byte stands behind the last
pub none_behind : (text : List ℕ) (at : ℕ) → length text ≤ at → (get_or text at 0 == QUOTE) ≡ false
none_behind text at all = rw (get_or_past text at 0 all) refl

cut_behind : (text cell now rest : List ℕ) (from size : ℕ) → rest ≡ drop from text → IsPlainFrom text cell from → size ≤ length rest → list_any (λ b. b == COMMA) (take size rest) ≡ false → (size < length rest → get_or rest size 0 ≡ COMMA) → now ≡ cell ++ take size rest → IsCutAt text now (from + size)
cut_behind text cell now rest from size is p within none here put =
    let b = next_at rest size within here in
    let e = plain_run cell (take size rest) (drop size rest) none b in
    let whole : drop from text ≡ take size rest ++ drop size rest = sym is ∙ sym (take-append-drop size rest) in
    let left : drop size rest ≡ drop (from + size) text = ap (drop size) is ∙ drop-drop size from text in
    let long : length rest ≡ length text - from = ap length is ∙ length-drop from text in
    let cut : IsCutOff text (cell ++ take size rest) (drop size rest) = record {
      begins = b;
      cells = p.walked.cells ∙ ap (cells_from Plain cell) whole ∙ e.cells;
      ends = p.walked.ends ∙ ap (ends_inside Plain) whole ∙ e.ends;
    } in
    record {
      within = omega (arith, long, p.within);
      cut = subst (λ c. IsCutOff text c (drop (from + size) text)) (sym put) (subst (IsCutOff text (cell ++ take size rest)) left cut);
    }

-- the bytes up to the field's end behind those that quotes enclose
pub cut_at_comma : (text cell now : List ℕ) (from size : ℕ) → IsPlainFrom text cell from → size ≤ length (take (length text - from) (drop from text)) → list_any (λ b. b == COMMA) (take size (take (length text - from) (drop from text))) ≡ false → (size < length (take (length text - from) (drop from text)) → get_or (take (length text - from) (drop from text)) size 0 ≡ COMMA) → now ≡ cell ++ take size (take (length text - from) (drop from text)) → IsCutAt text now (from + size)
cut_at_comma text cell now from size p within none here put = cut_behind text cell now _ from size (slice_is from text) p within none here put
