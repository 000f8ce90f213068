-- What is written of lines is read as their stream.
use Rattle.std.proofs.Common.{◌≡◌, ℕ, suc, ◌+◌, ◌-◌, ◌<◌, ◌≤◌, ◌^◌, false, ◌||◌, ◌==◌, List, [], ◌∷◌, ◌++◌, length, None, Ok, refl, sym, ap, ◌∙◌, subst, arith, append_assoc, length-append}
use Rattle.std.specs.Prelude.{flat_map, codes, decimal}
use Rattle.std.specs.List.{AllByRecursion}
use Rattle.std.proofs.lemmas.Fmt.{length-decimal-le}
use Rattle.std.proofs.lemmas.List.Folds.{list_any-append}
use Rattle.stream_schema.specs.Types.{Declared}
use Rattle.cel_terms.specs.declared.Query.{Query}
use Rattle.event_reader.specs.Lines.{FileLines, has_line_feed, lines_from, file_lines, unmarked}
use Rattle.event_reader.proofs.LineWalks.{first_line, first_none}
use Rattle.checkpoint_text.specs.declared.keeping.KeptLine.{KeptLine}
use Rattle.checkpoint_text.specs.Checkpoints.{checkpoint_of}
use Rattle.checkpoint_text.specs.Spelling.{counts_text, position_text, AreEventLines, IsHistory}
use Rattle.checkpoint_text.specs.Keeping.{line_text, checkpoint_text}
use Rattle.checkpoint_text.specs.KeepLaws.{events_of, IsLineOf, told_stream}
use Rattle.checkpoint_text.proofs.Decimals.{decimal_without}
use Rattle.checkpoint_text.proofs.Histories.{read_so}

decimal_plain : (n : ℕ) → n < 2 ^ 64 → has_line_feed (decimal n) ≡ false
decimal_plain n few = decimal_without 10 n refl few

position_plain : (p : ℕ) → p < 2 ^ 64 → has_line_feed (position_text p) ≡ false
position_plain p few = decimal_plain p few

counts_plain : (p k : ℕ) → p < 2 ^ 64 → k < 2 ^ 64 → has_line_feed (counts_text p k) ≡ false
counts_plain p k few fewer = list_any-append (λ b. b == 10) (decimal p) (32 ∷ decimal k) ∙ ap (λ t. t || has_line_feed (decimal k)) (decimal_plain p few) ∙ decimal_plain k fewer

position_short : (p : ℕ) → p < 2 ^ 64 → length (position_text p) ≤ 65536
position_short p few = let short : length (decimal p) ≤ 20 = length-decimal-le 20 p (omega arith) (omega arith) few in omega (arith, short)

counts_short : (p k : ℕ) → p < 2 ^ 64 → k < 2 ^ 64 → length (counts_text p k) ≤ 65536
counts_short p k few fewer =
    let first : length (decimal p) ≤ 20 = length-decimal-le 20 p (omega arith) (omega arith) few in
    let second : length (decimal k) ≤ 20 = length-decimal-le 20 k (omega arith) (omega arith) fewer in
    let all : length (decimal p ++ 32 ∷ decimal k) ≡ length (decimal p) + length (32 ∷ decimal k) = length-append (decimal p) (32 ∷ decimal k) in
    omega (arith, first, second, all)

-- the two lines of an event
abbrev two_lines : KeptLine → List (List ℕ)
two_lines line = position_text line.at.position ∷ line.text ∷ []

abbrev whole : List (List ℕ) → FileLines
whole texts = record { texts = texts; fault = None }

-- a line and what follows
next_line : (n : ℕ) (line rest : List ℕ) (room : ℕ) (texts : List (List ℕ)) → has_line_feed line ≡ false → length line ≤ 65536 → length line < room →
    lines_from 1099511627776 (n + 1) [] rest (room - (length line + 1)) ≡ whole texts → lines_from 1099511627776 n [] (line ++ 10 ∷ rest) room ≡ whole (line ∷ texts)
next_line n line rest room texts plain short within e = first_line 1099511627776 n line rest room plain short within ∙ ap (λ (f : FileLines). record { texts = line ∷ f.texts; fault = f.fault }) e

split_text : (place text rest : List ℕ) → ((place ++ (10 ∷ text)) ++ (10 ∷ [])) ++ rest ≡ place ++ (10 ∷ (text ++ (10 ∷ rest)))
split_text place text rest = append_assoc (place ++ (10 ∷ text)) (10 ∷ []) rest ∙ append_assoc place (10 ∷ text) (10 ∷ rest)

-- the lines of events, one after another
body_lines : (schema : Declared) (n : ℕ) (lines : List KeptLine) (room : ℕ) → AllByRecursion (λ (line : KeptLine). line.at.position < 2 ^ 64) lines → AllByRecursion (IsLineOf schema) lines → length (flat_map line_text lines) < room →
    lines_from 1099511627776 n [] (flat_map line_text lines) room ≡ whole (flat_map two_lines lines)
body_lines schema n [] room places all within = first_none 1099511627776 n room (omega (arith, within))
body_lines schema n (line ∷ lines) room places all within =
    let place = position_text line.at.position in
    let rest = flat_map line_text lines in
    let inner : length (line.text ++ 10 ∷ rest) ≡ length line.text + length (10 ∷ rest) = length-append line.text (10 ∷ rest) in
    let outer : length (place ++ (10 ∷ (line.text ++ (10 ∷ rest)))) ≡ length place + length (10 ∷ (line.text ++ (10 ∷ rest))) = length-append place (10 ∷ (line.text ++ (10 ∷ rest))) in
    let apart : flat_map line_text (line ∷ lines) ≡ place ++ (10 ∷ (line.text ++ (10 ∷ rest))) = split_text place line.text rest in
    let long : length place + length (10 ∷ (line.text ++ (10 ∷ rest))) < room = subst (λ m. m < room) (ap length apart ∙ outer) within in
    ap (λ t. lines_from 1099511627776 n [] t room) apart
    ∙ next_line n place (line.text ++ 10 ∷ rest) room (line.text ∷ flat_map two_lines lines) (position_plain line.at.position places.0) (position_short line.at.position places.0) (omega (arith, long))
    (next_line (n + 1) line.text rest (room - (length place + 1)) (flat_map two_lines lines) all.0.short.plain all.0.short.short (omega (arith, long, inner))
    (body_lines schema (n + 1 + 1) lines (room - (length place + 1) - (length line.text + 1)) places.1 all.1 (omega (arith, long, inner))))

-- the lines of events
event_lines : (schema : Declared) (lines : List KeptLine) → AllByRecursion (IsLineOf schema) lines → AreEventLines schema (events_of lines) (flat_map two_lines lines)
event_lines schema [] all = refl
event_lines schema (line ∷ lines) all = (line.text, flat_map two_lines lines, refl, all.0.gives, event_lines schema lines all.1)

low_places : (positions : ℕ) (lines : List KeptLine) → positions ≤ 4611686018427387904 → AllByRecursion (λ e. e.position < positions) (events_of lines) → AllByRecursion (λ (line : KeptLine). line.at.position < 2 ^ 64) lines
low_places positions [] few below = tt
low_places positions (line ∷ lines) few below = (omega (arith, few, below.0), low_places positions lines few below.1)

events_long : (lines : List KeptLine) → length (events_of lines) ≡ length lines
events_long [] = refl
events_long (line ∷ lines) = ap suc (events_long lines)

-- the lines of a whole text
text_lines : (schema : Declared) (positions : ℕ) (lines : List KeptLine) → positions ≤ 4611686018427387904 → length lines ≤ positions → AllByRecursion (λ (line : KeptLine). line.at.position < 2 ^ 64) lines → AllByRecursion (IsLineOf schema) lines →
    length (checkpoint_text positions lines) < 1099511627776 →
    lines_from 1099511627776 1 [] (checkpoint_text positions lines) 1099511627776 ≡ whole (codes "core checkpoint 1" ∷ counts_text positions (length lines) ∷ flat_map two_lines lines)
text_lines schema positions lines few fewer places all within =
    let counts = counts_text positions (length lines) in
    let rest = flat_map line_text lines in
    let long : length (counts ++ 10 ∷ rest) ≡ length counts + length (10 ∷ rest) = length-append counts (10 ∷ rest) in
    next_line 1 (codes "core checkpoint 1") (counts ++ 10 ∷ rest) 1099511627776 (counts ∷ flat_map two_lines lines) refl (omega arith) (omega arith)
    (next_line 2 counts rest (1099511627776 - 18) (flat_map two_lines lines) (counts_plain positions (length lines) (omega (arith, few)) (omega (arith, few, fewer))) (counts_short positions (length lines) (omega (arith, few)) (omega (arith, few, fewer))) (omega (arith, within, long))
    (body_lines schema 3 lines (1099511627776 - 18 - (length counts + 1)) places all (omega (arith, within, long))))

pub written_is_read : (schema : Declared) (queries : List Query) (positions : ℕ) (lines : List KeptLine) → IsHistory schema queries (told_stream positions lines) → AllByRecursion (IsLineOf schema) lines →
    length (checkpoint_text positions lines) < 1099511627776 → checkpoint_of schema queries (checkpoint_text positions lines) ≡ Ok (told_stream positions lines)
written_is_read schema queries positions lines is all within =
    let text = checkpoint_text positions lines in
    let count : length (events_of lines) ≡ length lines = events_long lines in
    let read : lines_from 1099511627776 1 [] text 1099511627776 ≡ whole (codes "core checkpoint 1" ∷ counts_text positions (length lines) ∷ flat_map two_lines lines) =
    text_lines schema positions lines is.few (omega (arith, is.counted, count)) (low_places positions lines is.few is.placed.below) all within in
    let texts : (file_lines 1099511627776 text).texts ≡ codes "core checkpoint 1" ∷ counts_text positions (length (events_of lines)) ∷ flat_map two_lines lines =
    ap (λ (f : FileLines). unmarked f.texts) read ∙ ap (λ k. codes "core checkpoint 1" ∷ counts_text positions k ∷ flat_map two_lines lines) (sym count) in
    read_so schema queries (file_lines 1099511627776 text) (told_stream positions lines) (ap (λ (f : FileLines). f.fault) read) (record {
      is = is;
      later = flat_map two_lines lines;
      first = texts;
      events = event_lines schema lines all;
    })
