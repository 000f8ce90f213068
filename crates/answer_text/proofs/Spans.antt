-- The positions of spans as more positions come after them.
use Rattle.std.proofs.Common.{◌≡◌, ◌-◌, ◌∷◌, ◌++◌, ◌∙◌, ap, refl, arith, All, List, [], length, map, take, drop, suc, ℕ}
use Rattle.std.proofs.lemmas.List.{map-append, length-drop, length-append}
use Rattle.std.proofs.Math.Seq.{take-append-le, drop-append-le, drop-append_seam}
use Rattle.cel_terms.specs.Answers.{Answer}
use Rattle.answer_text.specs.declared.answers.Span.{Span}
use Rattle.answer_text.specs.AnswerSpans.{answer_of, answer_in, IsWithin}

-- those of a span stay,
kept_one : (ps more : List ℕ) (s : Span) → IsWithin ps s → answer_in (ps ++ more) s ≡ answer_in ps s
kept_one ps more s w =
    let order = w.order in
    let inside = w.inside in
    let long = length-drop s.from ps in
    ap (answer_of s.start) (ap (take (s.to - s.from)) (drop-append-le s.from ps more (omega arith)) ∙ take-append-le (s.to - s.from) (drop s.from ps) more (omega arith))

-- and of all of them.
kept : (ps more : List ℕ) (ss : List Span) → All (IsWithin ps) ss → map (answer_in (ps ++ more)) ss ≡ map (answer_in ps) ss
kept ps more [] h = refl
kept ps more (s ∷ ss) h =
    ap (λ a. a ∷ map (answer_in (ps ++ more)) ss) (kept_one ps more s (h 0 s (omega arith)))
    ∙ ap (λ rest. answer_in ps s ∷ rest) (kept ps more ss (λ k d less. h (suc k) d (omega arith)))

whole : (xs : List ℕ) → take (length xs) xs ≡ xs
whole [] = refl
whole (x ∷ xs) = ap (λ rest. x ∷ rest) (whole xs)

-- a span of the positions that came last
last_one : (ps f : List ℕ) (start from to : ℕ) → from ≡ length ps → to ≡ length (ps ++ f) → answer_in (ps ++ f) (record { start = start; from = from; to = to }) ≡ answer_of start f
last_one ps f start from to e g =
    let seam : drop from (ps ++ f) ≡ f = ap (λ n. drop n (ps ++ f)) e ∙ drop-append_seam ps f in
    let long = length-append ps f in
    let all : to - from ≡ length f = omega arith in
    ap (answer_of start) (ap (take (to - from)) seam ∙ (ap (λ n. take n f) all ∙ whole f))

-- One answer more stands after the others.
pub pushed : (ps f new : List ℕ) (ss all : List Span) (held : List Answer) (start from to : ℕ) → new ≡ ps ++ f → all ≡ ss ++ record { start = start; from = from; to = to } ∷ [] →
    from ≡ length ps → to ≡ length new → All (IsWithin ps) ss → map (answer_in ps) ss ≡ held → map (answer_in new) all ≡ held ++ answer_of start f ∷ []
pushed ps f new ss all held start from to e g first last h same =
    ap (λ (xs : List ℕ). map (answer_in xs) all) e ∙ (ap (map (answer_in (ps ++ f))) g
    ∙ (map-append (answer_in (ps ++ f)) ss (record { start = start; from = from; to = to } ∷ [])
    ∙ (ap (λ front. front ++ answer_in (ps ++ f) (record { start = start; from = from; to = to }) ∷ []) (kept ps f ss h ∙ same)
    ∙ ap (λ a. held ++ a ∷ []) (last_one ps f start from to first (last ∙ ap length e)))))
