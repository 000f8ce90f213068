-- The line of an answer tells its numbers. For callers of the crate too.
use Rattle.std.proofs.Common.{◌≡◌, refl, sym, ap, ap₂, subst, ◌∙◌, ℕ, ◌<◌, ◌≤◌, ◌^◌, List, [], ◌∷◌, ◌++◌, length, append_assoc, arith}
use Rattle.std.specs.Prelude.{codes, decimal}
use Rattle.std.specs.Char.{digit_value}
use Rattle.std.specs.Str.Parse.{AllDigits}
use Rattle.std.proofs.lemmas.Str.Parse.{digit_from_value}
use Rattle.std.proofs.lemmas.Fmt.{decimal_injective, decimal_is_IsNumeral, decimal_nonempty}
use Rattle.std.specs.Prelude.{Contains}
use Rattle.std.proofs.lemmas.List.Elements.{Contains-append_right}
use Rattle.std.proofs.lemmas.Option.{slice_get_within}
use Rattle.stream_schema.specs.Types.{Declared}
use Rattle.stream_schema.specs.declared.Event.{Event}
use Rattle.cel_terms.specs.declared.Query.{Query}
use Rattle.cel_terms.specs.Answers.{Answer}
use Rattle.cel_terms.proofs.Marked.{marks_within}
use Rattle.output_laws.specs.RowLaws.{Row, IsRow, row_line}
use Rattle.output_laws.proofs.EarlierAnswers.{starts_before}
use Rattle.answer_text.specs.Output.{line, positions_text}

-- no decimal digit
abbrev IsNoDigit : ℕ → Type 0
IsNoDigit c = digit_value c < 10 → ⊥

first_of : (x y : ℕ) (xs ys : List ℕ) → x ∷ xs ≡ y ∷ ys → x ≡ y
first_of x y xs ys same = cc

rest_of : (x y : ℕ) (xs ys : List ℕ) → x ∷ xs ≡ y ∷ ys → xs ≡ ys
rest_of x y xs ys same = cc

-- digits end where something else follows
digits_end : (xs ys : List ℕ) (c d : ℕ) (r t : List ℕ) → AllDigits 10 xs → AllDigits 10 ys → IsNoDigit c → IsNoDigit d → xs ++ c ∷ r ≡ ys ++ d ∷ t → (xs ≡ ys) × (c ∷ r ≡ d ∷ t)
digits_end [] [] c d r t h k p q same = (refl, same)
digits_end [] (y ∷ ys) c d r t h k p q same = absurd (p (subst (λ (z : ℕ). digit_value z < 10) (sym (first_of c y r (ys ++ d ∷ t) same)) k.0))
digits_end (x ∷ xs) [] c d r t h k p q same = absurd (q (subst (λ (z : ℕ). digit_value z < 10) (first_of x d (xs ++ c ∷ r) t same) h.0))
digits_end (x ∷ xs) (y ∷ ys) c d r t h k p q same =
    let rest = digits_end xs ys c d r t h.1 k.1 p q (rest_of x y (xs ++ c ∷ r) (ys ++ d ∷ t) same) in
    (ap₂ (λ (z : ℕ) (zs : List ℕ). z ∷ zs) (first_of x y (xs ++ c ∷ r) (ys ++ d ∷ t) same) rest.0, rest.1)

-- and so does a number
number_ends : (m n c d : ℕ) (r t : List ℕ) → m < 2 ^ 64 → n < 2 ^ 64 → IsNoDigit c → IsNoDigit d → decimal m ++ c ∷ r ≡ decimal n ++ d ∷ t → (m ≡ n) × (c ∷ r ≡ d ∷ t)
number_ends m n c d r t h k p q same =
    let parts = digits_end (decimal m) (decimal n) c d r t (decimal_is_IsNumeral m h).0.1 (decimal_is_IsNumeral n k).0.1 p q same in
    (decimal_injective m n h k parts.0, parts.1)

-- a number begins with a digit
no_number : (n c d : ℕ) (r t : List ℕ) → n < 2 ^ 64 → IsNoDigit c → IsNoDigit d → c ∷ r ≡ decimal n ++ d ∷ t → ⊥
no_number n c d r t k p q same =
    let parts = digits_end [] (decimal n) c d r t tt (decimal_is_IsNumeral n k).0.1 p q same in
    let some = decimal_nonempty n k in
    let none = ap (λ (l : List ℕ). length l) parts.0 in
    omega arith

space : IsNoDigit 32
space h = let range = digit_from_value 32 h in omega arith

comma : IsNoDigit 44
comma h = let range = digit_from_value 44 h in omega arith

bracket : IsNoDigit 93
bracket h = let range = digit_from_value 93 h in omega arith

brace : IsNoDigit 125
brace h = let range = digit_from_value 125 h in omega arith

-- each number is of 64 bits
abbrev pub AllFit : List ℕ → Type 0
AllFit [] = Unit {0}
AllFit (p ∷ ps) = (p < 2 ^ 64) × AllFit ps

-- The positions are told by their text and the brace after it.
positions_end : (ps qs r t : List ℕ) → AllFit ps → AllFit qs → positions_text ps ++ 125 ∷ r ≡ positions_text qs ++ 125 ∷ t → ps ≡ qs
positions_end [] [] r t h k same = refl
positions_end [] (q ∷ []) r t h k same = absurd (no_number q 125 125 r t k.0 brace brace same)
positions_end [] (q ∷ q' ∷ qs) r t h k same =
    absurd (no_number q 125 44 r (positions_text (q' ∷ qs) ++ 125 ∷ t) k.0 brace comma (same ∙ append_assoc (decimal q) (44 ∷ positions_text (q' ∷ qs)) (125 ∷ t)))
positions_end (p ∷ []) [] r t h k same = absurd (no_number p 125 125 t r h.0 brace brace (sym same))
positions_end (p ∷ p' ∷ ps) [] r t h k same =
    absurd (no_number p 125 44 t (positions_text (p' ∷ ps) ++ 125 ∷ r) h.0 brace comma (sym same ∙ append_assoc (decimal p) (44 ∷ positions_text (p' ∷ ps)) (125 ∷ r)))
positions_end (p ∷ []) (q ∷ []) r t h k same = ap (λ (z : ℕ). z ∷ []) (number_ends p q 125 125 r t h.0 k.0 brace brace same).0
positions_end (p ∷ []) (q ∷ q' ∷ qs) r t h k same =
    let rest = positions_text (q' ∷ qs) ++ 125 ∷ t in
    let parts = number_ends p q 125 44 r rest h.0 k.0 brace comma (same ∙ append_assoc (decimal q) (44 ∷ positions_text (q' ∷ qs)) (125 ∷ t)) in
    let clash = first_of 125 44 r rest parts.1 in
    absurd (omega arith)
positions_end (p ∷ p' ∷ ps) (q ∷ []) r t h k same =
    let rest = positions_text (p' ∷ ps) ++ 125 ∷ r in
    let parts = number_ends p q 44 125 rest t h.0 k.0 comma brace (sym (append_assoc (decimal p) (44 ∷ positions_text (p' ∷ ps)) (125 ∷ r)) ∙ same) in
    let clash = first_of 44 125 rest t parts.1 in
    absurd (omega arith)
positions_end (p ∷ p' ∷ ps) (q ∷ q' ∷ qs) r t h k same =
    let mine = positions_text (p' ∷ ps) ++ 125 ∷ r in
    let other = positions_text (q' ∷ qs) ++ 125 ∷ t in
    let parts = number_ends p q 44 44 mine other h.0 k.0 comma comma
    (sym (append_assoc (decimal p) (44 ∷ positions_text (p' ∷ ps)) (125 ∷ r)) ∙ same ∙ append_assoc (decimal q) (44 ∷ positions_text (q' ∷ qs)) (125 ∷ t)) in
    ap₂ (λ (z : ℕ) (zs : List ℕ). z ∷ zs) parts.0 (positions_end (p' ∷ ps) (q' ∷ qs) r t h.1 k.1 (rest_of 44 44 mine other parts.1))

bracketed : (n a s e b p c f : List ℕ) → ((((((n ++ a) ++ s) ++ e) ++ b) ++ p) ++ c) ++ f ≡ n ++ (a ++ (s ++ (e ++ (b ++ (p ++ (c ++ f))))))
bracketed n a s e b p c f = simp append_assoc

-- the line from the left
from_left : (number end : ℕ) (a : Answer) → line number end a ≡ decimal number ++ 32 ∷ 91 ∷ (decimal a.start ++ 44 ∷ (decimal end ++ 93 ∷ 32 ∷ 123 ∷ (positions_text a.marks ++ 125 ∷ 10 ∷ [])))
from_left number end a = bracketed (decimal number) (codes " [") (decimal a.start) (44 ∷ decimal end) (codes "] {") (positions_text a.marks) (codes "}") (10 ∷ [])

abbrev answer_from : ℕ → List ℕ → Answer
answer_from start marks = record { start = start; marks = marks }

pub line_tells : (number other end last : ℕ) (a b : Answer) → number < 2 ^ 64 → other < 2 ^ 64 → end < 2 ^ 64 → last < 2 ^ 64 → a.start < 2 ^ 64 → b.start < 2 ^ 64 → AllFit a.marks → AllFit b.marks → line number end a ≡ line other last b → (number ≡ other) × (end ≡ last) × (a ≡ b)
line_tells number other end last a b n n' e e' s s' m m' same =
    let marks = positions_text a.marks ++ 125 ∷ 10 ∷ [] in
    let marks' = positions_text b.marks ++ 125 ∷ 10 ∷ [] in
    let ends = decimal end ++ 93 ∷ 32 ∷ 123 ∷ marks in
    let ends' = decimal last ++ 93 ∷ 32 ∷ 123 ∷ marks' in
    let starts = decimal a.start ++ 44 ∷ ends in
    let starts' = decimal b.start ++ 44 ∷ ends' in
    let numbers = number_ends number other 32 32 (91 ∷ starts) (91 ∷ starts') n n' space space (sym (from_left number end a) ∙ same ∙ from_left other last b) in
    let from_start = rest_of 91 91 starts starts' (rest_of 32 32 (91 ∷ starts) (91 ∷ starts') numbers.1) in
    let start = number_ends a.start b.start 44 44 ends ends' s s' comma comma from_start in
    let last_one = number_ends end last 93 93 (32 ∷ 123 ∷ marks) (32 ∷ 123 ∷ marks') e e' bracket bracket (rest_of 44 44 ends ends' start.1) in
    let from_marks = rest_of 123 123 marks marks' (rest_of 32 32 (123 ∷ marks) (123 ∷ marks') (rest_of 93 93 (32 ∷ 123 ∷ marks) (32 ∷ 123 ∷ marks') last_one.1)) in
    let positions = positions_end a.marks b.marks (10 ∷ []) (10 ∷ []) m m' from_marks in (
      numbers.0,
      last_one.0,
      ap₂ answer_from start.0 positions,
    )

-- ROWS

abbrev row_from : ℕ → ℕ → Answer → Row
row_from number end a = record { number = number; end = end; answer = a }

marks_fit : (top : ℕ) → top < 2 ^ 64 → (marks : List ℕ) → ((p : ℕ) → Contains marks p → p ≤ top) → AllFit marks
marks_fit top less [] h = tt
marks_fit top less (p ∷ ps) h = (
  let first = h p (0, omega arith, refl) in omega arith,
  marks_fit top less ps (λ q has. h q (Contains-append_right (p ∷ []) ps q has)),
)

pub row_tells : (schema : Declared) (queries : List Query) (events : List Event) (row other : Row) → length queries < 2 ^ 64 → length events ≤ 2 ^ 64 → IsRow schema queries events row → IsRow schema queries events other → row_line row ≡ row_line other → row ≡ other
row_tells schema queries events row other few short h k same =
    let mine = slice_get_within queries h.place h.query h.asked in
    let yours = slice_get_within queries k.place k.query k.asked in
    let is = h.numbered in
    let is' = k.numbered in
    let end = slice_get_within events row.end h.answers.window.last h.answers.window.last_is in
    let end' = slice_get_within events other.end k.answers.window.last k.answers.window.last_is in
    let start = starts_before schema h.query events row.end row.answer h.answers in
    let start' = starts_before schema k.query events other.end other.answer k.answers in
    let end_fits : row.end < 2 ^ 64 = omega arith in
    let end_fits' : other.end < 2 ^ 64 = omega arith in
    let told = line_tells row.number other.number row.end other.end row.answer other.answer
    (omega arith) (omega arith) end_fits end_fits' (omega arith) (omega arith)
    (marks_fit row.end end_fits row.answer.marks (λ p has. (marks_within schema h.query events row.end row.answer h.answers p has).to))
    (marks_fit other.end end_fits' other.answer.marks (λ p has. (marks_within schema k.query events other.end other.answer k.answers p has).to))
    same in
    ap₂ (λ (n : ℕ) (rest : Row). row_from n rest.end rest.answer) told.0 (ap₂ (λ (e : ℕ) (a : Answer). row_from other.number e a) told.1 told.2)
