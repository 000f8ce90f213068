-- Lines one after another, and what they tell.
use Rattle.std.proofs.Common.{◌≡◌, ℕ, ◌+◌, List, [], ◌∷◌, ◌++◌, length, drop, Option, Some, None, Result, Ok, Err, refl, sym, ap, subst, ◌∙◌, arith, length-append, append_assoc}
use Rattle.std.proofs.lemmas.List.{take-append-drop}
use Rattle.stream_schema.specs.Types.{Declared}
use Rattle.cel_terms.specs.declared.Query.{Query}
use Rattle.event_reader.specs.Events.{and_then}
use Rattle.event_reader.specs.Lines.{file_lines, unmarked}
use Rattle.cer_base.specs.declared.OrMemory.{OrMemory}
use Rattle.cer_base.specs.declared.OrMemory.TheVariants.{Fault, Memory}
use Rattle.event_reader.specs.declared.LineFault.{LineFault}
use Rattle.event_reader.specs.declared.LineFault.TheVariants as line
use Rattle.event_reader.specs.declared.reader.Next.TheVariants as next
use Rattle.event_reader.specs.LineReaders.{LineReader, HasGiven, IsCutAt, Follows}
use Rattle.event_reader.proofs.NextLines.{first_given}
use Rattle.checkpoint_text.specs.declared.CheckpointFault.{CheckpointFault}
use Rattle.checkpoint_text.specs.declared.CheckpointFault.TheVariants as fault
use Rattle.checkpoint_text.specs.declared.HistoryFault.{HistoryFault}
use Rattle.checkpoint_text.specs.declared.HistoryFault.TheVariants.{Bad, ReadFault}
use Rattle.checkpoint_text.specs.declared.history.EventAt.{EventAt}
use Rattle.checkpoint_text.specs.Checkpoints.{ParseState, nothing, Refusal, after_line, at_line, told_on, told_by, at_stop, history_in, checkpoint_of}
use Rattle.checkpoint_text.specs.ReaderAnswers.{HasTold, AreGoodRead, IsEnd, EndsAs, fault_of}

next_number : (n : ℕ) (text : List ℕ) (texts : List (List ℕ)) → n + 1 + length texts ≡ n + length (text ∷ texts)
next_number n text texts = omega arith

one_ok : {T F : Type 0} (x y : T) → (let r : Result T F = Ok x in r) ≡ Ok y → x ≡ y
one_ok x y e = cc

-- a line before others
along : (schema : Declared) (queries : List Query) (n : ℕ) (told : ParseState) (text : List ℕ) (texts more : List (List ℕ)) (r : Result ParseState CheckpointFault) →
    ((next : ParseState) → told_on schema queries (n + 1) next texts ≡ Ok told → told_on schema queries (n + 1) next (texts ++ more) ≡ told_on schema queries (n + 1 + length texts) told more) →
    and_then (at_line n r) (λ next. told_on schema queries (n + 1) next texts) ≡ Ok told →
    and_then (at_line n r) (λ next. told_on schema queries (n + 1) next (texts ++ more)) ≡ told_on schema queries (n + length (text ∷ texts)) told more
along schema queries n told text texts more (Ok next) onward e = onward next e ∙ ap (λ k. told_on schema queries k told more) (next_number n text texts)
along schema queries n told text texts more (Err fault) onward e = absurd cc

-- lines before others
told_along : (schema : Declared) (queries : List Query) (n : ℕ) (begun told : ParseState) (texts more : List (List ℕ)) → told_on schema queries n begun texts ≡ Ok told →
    told_on schema queries n begun (texts ++ more) ≡ told_on schema queries (n + length texts) told more
told_along schema queries n begun told [] more e =
    let now : n ≡ n + 0 = omega arith in
    ap (λ t. told_on schema queries n t more) (one_ok begun told e) ∙ ap (λ k. told_on schema queries k told more) now
told_along schema queries n begun told (text ∷ texts) more e =
    along schema queries n told text texts more (after_line schema queries begun text) (λ next f. told_along schema queries (n + 1) next told texts more f) e

-- one line more
pub told_more : (schema : Declared) (queries : List Query) (told next : ParseState) (texts : List (List ℕ)) (text : List ℕ) → told_by schema queries texts ≡ Ok told → after_line schema queries told text ≡ Ok next →
    told_by schema queries (texts ++ text ∷ []) ≡ Ok next
told_more schema queries told next texts text e step =
    told_along schema queries 1 nothing told texts (text ∷ []) e ∙ ap (λ r. and_then (at_line (1 + length texts) r) (λ t. told_on schema queries (1 + length texts + 1) t [])) step

-- a line that is refused, whatever follows
pub told_refused : (schema : Declared) (queries : List Query) (told : ParseState) (texts : List (List ℕ)) (text : List ℕ) (later : List (List ℕ)) (fault : CheckpointFault) →
    told_by schema queries texts ≡ Ok told → after_line schema queries told text ≡ Err fault →
    told_by schema queries (texts ++ text ∷ later) ≡ Err (record { line = 1 + length texts; fault = fault })
told_refused schema queries told texts text later fault e step =
    told_along schema queries 1 nothing told texts (text ∷ later) e ∙ ap (λ r. and_then (at_line (1 + length texts) r) (λ t. told_on schema queries (1 + length texts + 1) t later)) step

unmarked_length : (lines : List (List ℕ)) → length (unmarked lines) ≡ length lines
unmarked_length [] = refl
unmarked_length (first ∷ lines) = refl

-- the last line that was given has as its number how many were
numbered : (reader : LineReader) (bytes : List ℕ) (left : Option (List ℕ)) (texts : List (List ℕ)) → HasGiven reader bytes left texts → reader.number ≡ length texts
numbered reader bytes None texts given = absurd given
numbered reader bytes (Some left) texts given = sym given.counted ∙ sym (unmarked_length given.lines) ∙ ap length given.texts_are

-- nothing was read yet
pub none_told : (schema : Declared) (queries : List Query) (reader : LineReader) (bytes : List ℕ) (left : Option (List ℕ)) → HasGiven reader bytes left [] → HasTold schema queries reader bytes left nothing
none_told schema queries reader bytes left given = record { texts = []; given = given; told_is = refl }

-- the line that was given last is told
pub line_told : (schema : Declared) (queries : List Query) (old new : LineReader) (bytes : List ℕ) (before left : Option (List ℕ)) (told next : ParseState) (text : List ℕ) → text ≡ new.text →
    ((texts : List (List ℕ)) → HasGiven old bytes before texts → HasGiven new bytes left (texts ++ new.text ∷ [])) → after_line schema queries told text ≡ Ok next →
    HasTold schema queries old bytes before told → HasTold schema queries new bytes left next
line_told schema queries old new bytes before left told next text same gives step had = record {
  texts = had.texts ++ new.text ∷ [];
  given = gives had.texts had.given;
  told_is = told_more schema queries told next had.texts new.text had.told_is (ap (after_line schema queries told) (sym same) ∙ step);
}

-- a text, from its first lines
from_lines : (schema : Declared) (queries : List Query) (bytes : List ℕ) (texts later : List (List ℕ)) (refusal : Refusal) → (file_lines 1099511627776 bytes).texts ≡ texts ++ later → told_by schema queries (texts ++ later) ≡ Err refusal →
    checkpoint_of schema queries bytes ≡ Err refusal
from_lines schema queries bytes texts later refusal whole told =
    ap (λ r. and_then r (λ t. at_stop (length (file_lines 1099511627776 bytes).texts) t (file_lines 1099511627776 bytes).fault)) (ap (told_by schema queries) whole ∙ told)

-- the line that was given last is refused
pub line_refused : (schema : Declared) (queries : List Query) (old new : LineReader) (bytes : List ℕ) (before left : Option (List ℕ)) (told : ParseState) (number : ℕ) (fault : CheckpointFault) (text : List ℕ) → text ≡ new.text → new.budget ≡ 1099511627776 → number ≡ new.number →
    ((texts : List (List ℕ)) → HasGiven old bytes before texts → HasGiven new bytes left (texts ++ new.text ∷ [])) → after_line schema queries told text ≡ Err fault →
    HasTold schema queries old bytes before told → checkpoint_of schema queries bytes ≡ Err (record { line = number; fault = fault })
line_refused schema queries old new bytes before left told number fault text same budget is gives step had =
    let texts = had.texts ++ new.text ∷ [] in
    let given : HasGiven new bytes left texts = gives had.texts had.given in
    let all = (file_lines new.budget bytes).texts in
    let later = drop (length texts) all in
    let whole : all ≡ had.texts ++ new.text ∷ later = sym (take-append-drop (length texts) all) ∙ ap (λ t. t ++ later) (first_given new bytes left texts given) ∙ append_assoc had.texts (new.text ∷ []) later in
    let longer : length texts ≡ length had.texts + 1 = length-append had.texts (new.text ∷ []) in
    let at : number ≡ 1 + length had.texts = is ∙ numbered new bytes left texts given ∙ omega (arith, longer) in
    let now : (file_lines 1099511627776 bytes).texts ≡ had.texts ++ new.text ∷ later = ap (λ n. (file_lines n bytes).texts) (sym budget) ∙ whole in
    from_lines schema queries bytes had.texts (new.text ∷ later) (record { line = number; fault = fault }) now
    (told_refused schema queries told had.texts new.text later fault had.told_is (ap (after_line schema queries told) (sym same) ∙ step) ∙ ap (λ n. Err (record { line = n; fault = fault })) (sym at))

-- a text of which all lines were told
all_told : (schema : Declared) (queries : List Query) (bytes : List ℕ) (texts : List (List ℕ)) (why : Option LineFault) (told : ParseState) → file_lines 1099511627776 bytes ≡ record { texts = texts; fault = why } → told_by schema queries texts ≡ Ok told →
    checkpoint_of schema queries bytes ≡ at_stop (length texts) told why
all_told schema queries bytes texts why told is e = ap (history_in schema queries) is ∙ ap (λ r. and_then r (λ t. at_stop (length texts) t why)) e

-- the text ends
pub text_ends : (schema : Declared) (queries : List Query) (old new : LineReader) (bytes : List ℕ) (before left : Option (List ℕ)) (told : ParseState) (number : ℕ) (events : List EventAt) (result : Result ℕ (OrMemory HistoryFault)) → new.budget ≡ 1099511627776 → number ≡ old.number →
    ((texts : List (List ℕ)) → HasGiven old bytes before texts → Follows new bytes left texts (Ok next.End)) → HasTold schema queries old bytes before told →
    EndsAs (at_stop number told None) events result → IsEnd schema queries bytes left events result
text_ends schema queries old new bytes before left told number events result budget is follows had ends =
    let at : number ≡ length had.texts = is ∙ numbered old bytes before had.texts had.given in
    let lines : file_lines 1099511627776 bytes ≡ record { texts = had.texts; fault = None } = ap (λ n. file_lines n bytes) (sym budget) ∙ follows had.texts had.given in
    let same : checkpoint_of schema queries bytes ≡ at_stop number told None = all_told schema queries bytes had.texts None told lines had.told_is ∙ ap (λ n. at_stop n told None) (sym at) in
    by_result result ends same
  where
    by_result : (r : Result ℕ (OrMemory HistoryFault)) → EndsAs (at_stop number told None) events r → checkpoint_of schema queries bytes ≡ at_stop number told None → IsEnd schema queries bytes left events r
    by_result (Ok positions) e same = same ∙ e
    by_result (Err (Fault (Bad line fault))) e same = same ∙ e
    by_result (Err (Fault ReadFault)) e same = absurd e
    by_result (Err Memory) e same = absurd e

-- there is no further line, by a fault
pub no_further : (schema : Declared) (queries : List Query) (old new : LineReader) (bytes : List ℕ) (before left : Option (List ℕ)) (told : ParseState) (number : ℕ) (events : List EventAt) (why : LineFault) → new.budget ≡ 1099511627776 → number ≡ old.number →
    ((texts : List (List ℕ)) → HasGiven old bytes before texts → Follows new bytes left texts (Err why)) → HasTold schema queries old bytes before told →
    IsEnd schema queries bytes left events (Err (Fault (fault_of number why)))
no_further schema queries old new bytes before left told number events line.ReadFault budget is follows had =
    read_fault left (subst (λ n. IsCutAt n bytes left had.texts) budget (follows had.texts had.given))
  where
    read_fault : (left : Option (List ℕ)) → IsCutAt 1099511627776 bytes left had.texts → AreGoodRead schema queries bytes left
    read_fault None cut = cut
    read_fault (Some rest) cut = record { texts = had.texts; cut = cut; told = told; good = had.told_is }
no_further schema queries old new bytes before left told number events (line.LineTooLong at) budget is follows had =
    all_told schema queries bytes had.texts (Some (line.LineTooLong at)) told (ap (λ n. file_lines n bytes) (sym budget) ∙ follows had.texts had.given) had.told_is
no_further schema queries old new bytes before left told number events (line.InputTooLong taken) budget is follows had =
    all_told schema queries bytes had.texts (Some (line.InputTooLong taken)) told (ap (λ n. file_lines n bytes) (sym budget) ∙ follows had.texts had.given) had.told_is
    ∙ ap (λ n. Err (record { line = n + 1; fault = fault.TooLong })) (sym (is ∙ numbered old bytes before had.texts had.given))
