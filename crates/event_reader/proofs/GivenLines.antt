-- What a reader has given, from answer to answer.
use Rattle.std.proofs.Common.{◌≡◌, ℕ, ◌+◌, ◌-◌, ◌<◌, ◌≤◌, ◌==◌, List, [], ◌∷◌, ◌++◌, length, take, true, false, Option, Some, None, refl, sym, ◌∙◌, ap, arith, append_assoc, length-append}
use Rattle.std.proofs.lemmas.Bool.Decides.{nat_tests}
use Rattle.std.proofs.lemmas.List.{append-nil}
use Rattle.std.proofs.Math.Seq.{take-append_seam}
use Rattle.event_reader.specs.declared.LineFault.{LineFault}
use Rattle.event_reader.specs.declared.LineFault.TheVariants.{LineTooLong, InputTooLong}
use Rattle.cer_base.specs.declared.limits.TheConstants.{LONGEST_LINE}
use Rattle.event_reader.specs.Lines.{FileLines, stops, lines_from, file_lines, without_mark, line_text, unmarked}
use Rattle.event_reader.specs.Lines.{has_line_feed}
use Rattle.event_reader.specs.LineReaders.{LineReader, ended_from, followed_by, to_come, HasRead, HasTaken, IsCutOff}
use Rattle.event_reader.proofs.LineWalks.{first_line, first_long, first_full, first_last, first_none, ended_line, ended_none}

-- before the last line the rest is what the definition reads on
open_rest : (r : LineReader) (left : List ℕ) → r.ended ≡ false → to_come r left ≡ lines_from r.budget (r.number + 1) [] (r.pending ++ left) r.room
open_rest r left open_ = rw open_ refl

ended_rest : (r : LineReader) (left : List ℕ) → r.ended ≡ true → to_come r left ≡ stops None
ended_rest r left ended = rw ended refl

-- one more line
unmarked_more : (lines : List (List ℕ)) (line : List ℕ) → unmarked (lines ++ line ∷ []) ≡ unmarked lines ++ line_text (length lines) line ∷ []
unmarked_more [] line = refl
unmarked_more (first ∷ lines) line =
    let later : (length (first ∷ lines) == 0) ≡ false = grind (arith, nat_tests) in
    rw later refl

behind_more : (lines : List (List ℕ)) (line : List ℕ) (later : FileLines) → followed_by lines (record { texts = line ∷ later.texts; fault = later.fault }) ≡ followed_by (lines ++ line ∷ []) later
behind_more lines line later =
    ap (λ t. let f : FileLines = record { texts = t; fault = later.fault } in f) (sym (append_assoc lines (line ∷ []) later.texts))

pub begun : (r : LineReader) (bytes : List ℕ) → r.number ≡ 0 → r.pending ≡ [] → r.room ≡ r.budget → r.ended ≡ false → HasRead r bytes bytes []
begun r bytes first none all open_ = record {
  passed = [];
  lines = [];
  whole = rw none refl;
  measured = omega (arith, all);
  passed_lines = λ _ later. refl;
  counted = sym first;
  texts_are = refl;
  rest = rw (open_, first, none, all) refl;
}

-- a line that ends in a line feed
pub given_line : (r s : LineReader) (bytes left after : List ℕ) (texts : List (List ℕ)) (line : List ℕ) →
    HasRead r bytes left texts → r.ended ≡ false →
    has_line_feed line ≡ false → length line ≤ LONGEST_LINE → length line < r.room →
    r.pending ++ left ≡ line ++ 10 ∷ (s.pending ++ after) →
    s.budget ≡ r.budget → s.number ≡ r.number + 1 → s.room ≡ r.room - (length line + 1) → s.ended ≡ false → s.text ≡ line_text r.number line →
    HasRead s bytes after (texts ++ s.text ∷ [])
given_line r s bytes left after texts line given open_ plain short within at budget number room ended text = record {
  passed = given.passed ++ (line ++ 10 ∷ []);
  lines = given.lines ++ line ∷ [];
  whole = given.whole ∙ ap (λ l. given.passed ++ l) (at ∙ sym (append_assoc line (10 ∷ []) (s.pending ++ after))) ∙ sym (append_assoc given.passed (line ++ 10 ∷ []) (s.pending ++ after));
  measured =
      (let more : length (given.passed ++ (line ++ 10 ∷ [])) ≡ length given.passed + (length line + 1) = length-append given.passed (line ++ 10 ∷ []) ∙ ap (λ n. length given.passed + n) (length-append line (10 ∷ [])) in
      let before : length given.passed + r.room ≡ r.budget = given.measured in omega (arith, more, before, room, budget, within));
  passed_lines = λ _ later.
      ap (λ l. ended_from [] l) (append_assoc given.passed (line ++ 10 ∷ []) later ∙ ap (λ l. given.passed ++ l) (append_assoc line (10 ∷ []) later))
      ∙ given.passed_lines open_ (line ++ 10 ∷ later)
      ∙ ap (λ l. given.lines ++ l) (ended_line line later plain)
      ∙ sym (append_assoc given.lines (line ∷ []) (ended_from [] later));
  counted = length-append given.lines (line ∷ []) ∙ (let n : length given.lines ≡ r.number = given.counted in omega arith);
  texts_are = unmarked_more given.lines line ∙ (let n : length given.lines ≡ r.number = given.counted in let t : unmarked given.lines ≡ texts = given.texts_are in rw (n, t, text) refl);
  rest =
      (let goes : to_come r left ≡ record { texts = line ∷ (to_come s after).texts; fault = (to_come s after).fault } =
      open_rest r left open_ ∙ ap (λ l. lines_from r.budget (r.number + 1) [] l r.room) at
      ∙ first_line r.budget (r.number + 1) line (s.pending ++ after) r.room plain short within
      ∙ rw (ended, budget, number, room) refl
      in ap (λ b. lines_from b 1 [] bytes b) budget ∙ given.rest ∙ ap (followed_by given.lines) goes ∙ behind_more given.lines line (to_come s after));
}

-- the last line, which lacks its line feed
pub given_last : (r s : LineReader) (bytes left after : List ℕ) (texts : List (List ℕ)) (line : List ℕ) →
    HasRead r bytes left texts → r.ended ≡ false →
    has_line_feed line ≡ false → length line ≤ LONGEST_LINE → length line < r.room → 0 < length line →
    r.pending ++ left ≡ line → s.pending ++ after ≡ [] →
    s.budget ≡ r.budget → s.number ≡ r.number + 1 → s.room ≡ r.room - length line → s.ended ≡ true → s.text ≡ line_text r.number line →
    HasRead s bytes after (texts ++ s.text ∷ [])
given_last r s bytes left after texts line given open_ plain short within some at none budget number room ended text = record {
  passed = given.passed ++ line;
  lines = given.lines ++ line ∷ [];
  whole = given.whole ∙ ap (λ l. given.passed ++ l) at ∙ sym (append-nil (given.passed ++ line)) ∙ ap (λ l. (given.passed ++ line) ++ l) (sym none);
  measured =
      (let before : length given.passed + r.room ≡ r.budget = given.measured in omega (arith, length-append given.passed line, before, room, budget, within));
  passed_lines = λ still. absurd (let wrong : true ≡ false = sym ended ∙ still in cc);
  counted = length-append given.lines (line ∷ []) ∙ (let n : length given.lines ≡ r.number = given.counted in omega arith);
  texts_are = unmarked_more given.lines line ∙ (let n : length given.lines ≡ r.number = given.counted in let t : unmarked given.lines ≡ texts = given.texts_are in rw (n, t, text) refl);
  rest =
      (let goes : to_come r left ≡ record { texts = line ∷ (to_come s after).texts; fault = (to_come s after).fault } =
      open_rest r left open_ ∙ ap (λ l. lines_from r.budget (r.number + 1) [] l r.room) (at ∙ sym (append-nil line))
      ∙ first_last r.budget (r.number + 1) line r.room plain short within some
      ∙ rw ended refl
      in ap (λ b. lines_from b 1 [] bytes b) budget ∙ given.rest ∙ ap (followed_by given.lines) goes ∙ behind_more given.lines line (to_come s after));
}

-- nothing is to come: the lines were all, and this is why
pub given_all : (r : LineReader) (bytes left : List ℕ) (texts : List (List ℕ)) (fault : Option LineFault) → HasRead r bytes left texts → to_come r left ≡ stops fault → file_lines r.budget bytes ≡ record { texts = texts; fault = fault }
given_all r bytes left texts fault given none =
    let all : lines_from r.budget 1 [] bytes r.budget ≡ record { texts = given.lines; fault = fault } =
    given.rest ∙ ap (followed_by given.lines) none ∙ ap (λ t. let f : FileLines = record { texts = t; fault = fault } in f) (append-nil given.lines) in
    ap (λ (f : FileLines). let g : FileLines = record { texts = unmarked f.texts; fault = f.fault } in g) all
    ∙ ap (λ t. let f : FileLines = record { texts = t; fault = fault } in f) given.texts_are

pub all_ended : (r : LineReader) (bytes left : List ℕ) (texts : List (List ℕ)) → HasRead r bytes left texts → r.ended ≡ true → file_lines r.budget bytes ≡ record { texts = texts; fault = None }
all_ended r bytes left texts given ended = given_all r bytes left texts None given (ended_rest r left ended)

pub all_at_end : (r : LineReader) (bytes left : List ℕ) (texts : List (List ℕ)) → HasRead r bytes left texts → r.ended ≡ false → r.pending ++ left ≡ [] → 0 < r.room → file_lines r.budget bytes ≡ record { texts = texts; fault = None }
all_at_end r bytes left texts given open_ none some =
    given_all r bytes left texts None given
    (open_rest r left open_ ∙ ap (λ l. lines_from r.budget (r.number + 1) [] l r.room) none ∙ first_none r.budget (r.number + 1) r.room some)

pub all_long : (r : LineReader) (bytes left : List ℕ) (texts : List (List ℕ)) (front later : List ℕ) → HasRead r bytes left texts → r.ended ≡ false → r.pending ++ left ≡ front ++ later → has_line_feed front ≡ false → LONGEST_LINE < length front → length front ≤ r.room → file_lines r.budget bytes ≡ record { texts = texts; fault = Some (LineTooLong (r.number + 1)) }
all_long r bytes left texts front later given open_ at plain long within =
    given_all r bytes left texts (Some (LineTooLong (r.number + 1))) given
    (open_rest r left open_ ∙ ap (λ l. lines_from r.budget (r.number + 1) [] l r.room) at ∙ first_long r.budget (r.number + 1) front later r.room plain long within)

pub all_full : (r : LineReader) (bytes left : List ℕ) (texts : List (List ℕ)) (line later : List ℕ) → HasRead r bytes left texts → r.ended ≡ false → r.pending ++ left ≡ line ++ later → has_line_feed line ≡ false → length line ≤ LONGEST_LINE → length line ≡ r.room → file_lines r.budget bytes ≡ record { texts = texts; fault = Some (InputTooLong r.budget) }
all_full r bytes left texts line later given open_ at plain short full =
    given_all r bytes left texts (Some (InputTooLong r.budget)) given
    (open_rest r left open_ ∙ ap (λ l. lines_from r.budget (r.number + 1) [] l r.room) at ∙ first_full r.budget (r.number + 1) line later r.room plain short full)

-- texts before others
texts_before : (lines later : List (List ℕ)) → take (length (unmarked lines)) (unmarked (lines ++ later)) ≡ unmarked lines
texts_before [] later = refl
texts_before (first ∷ lines) later = take-append_seam (without_mark first ∷ lines) later

-- the texts are the first ones of the file, whatever follows
pub given_first : (r : LineReader) (bytes left : List ℕ) (texts : List (List ℕ)) → HasRead r bytes left texts → take (length texts) (file_lines r.budget bytes).texts ≡ texts
given_first r bytes left texts given =
    let all : (file_lines r.budget bytes).texts ≡ unmarked (given.lines ++ (to_come r left).texts) = ap (λ (f : FileLines). unmarked f.texts) given.rest in
    let same : unmarked given.lines ≡ texts = given.texts_are in
    let before : take (length (unmarked given.lines)) (unmarked (given.lines ++ (to_come r left).texts)) ≡ unmarked given.lines = texts_before given.lines (to_come r left).texts in
    ap (λ t. take (length texts) t) all ∙ rw same at before

pub cut_off : (r : LineReader) (bytes left after pending : List ℕ) (texts : List (List ℕ)) → HasRead r bytes left texts → r.ended ≡ false → has_line_feed pending ≡ false → r.pending ++ left ≡ pending ++ after → length pending ≤ r.room → IsCutOff r.budget bytes after texts
cut_off r bytes left after pending texts given open_ plain at room = record {
  taken = given.passed ++ pending;
  whole = given.whole ∙ ap (λ l. given.passed ++ l) at ∙ sym (append_assoc given.passed pending after);
  within = (let before : length given.passed + r.room ≡ r.budget = given.measured in omega (arith, length-append given.passed pending, before, room));
  lines = ap unmarked (given.passed_lines open_ pending ∙ ap (λ l. given.lines ++ l) (ended_none pending plain) ∙ append-nil given.lines) ∙ given.texts_are;
  first = given_first r bytes left texts given;
}

-- what was taken: the lines that were given, and what is at hand
pub taken_so_far : (r : LineReader) (bytes left after pending : List ℕ) (texts : List (List ℕ)) → HasRead r bytes left texts → r.pending ++ left ≡ pending ++ after → length pending ≤ r.room → HasTaken bytes after 0 r.budget
taken_so_far r bytes left after pending texts given at room = record {
  taken = given.passed ++ pending;
  whole = given.whole ∙ ap (λ l. given.passed ++ l) at ∙ sym (append_assoc given.passed pending after);
  at_least = omega arith;
  at_most = (let before : length given.passed + r.room ≡ r.budget = given.measured in omega (arith, length-append given.passed pending, before, room));
}

-- the whole budget was taken where what is at hand fills the room
pub taken_in_full : (r : LineReader) (bytes left after pending : List ℕ) (texts : List (List ℕ)) → HasRead r bytes left texts → r.pending ++ left ≡ pending ++ after → length pending ≡ r.room → HasTaken bytes after r.budget r.budget
taken_in_full r bytes left after pending texts given at full = record {
  taken = given.passed ++ pending;
  whole = given.whole ∙ ap (λ l. given.passed ++ l) at ∙ sym (append_assoc given.passed pending after);
  at_least = (let before : length given.passed + r.room ≡ r.budget = given.measured in omega (arith, length-append given.passed pending, before, full));
  at_most = (let before : length given.passed + r.room ≡ r.budget = given.measured in omega (arith, length-append given.passed pending, before, full));
}
