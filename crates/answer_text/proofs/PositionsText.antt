-- One position more in the text of positions.
use Rattle.std.proofs.Common.{◌≡◌, ℕ, suc, ◌+◌, ◌-◌, ◌<◌, ◌≤◌, inl, inr, true, false, List, [], ◌∷◌, ◌++◌, length, reverse, take, drop, get_or, refl, sym, ◌∙◌, ap, append_assoc, arith}
use Rattle.std.specs.Prelude.{decimal, ◌==◌}
use Rattle.std.proofs.lemmas.List.{append-nil, length-drop, length-reverse, take-append-drop}
use Rattle.std.proofs.lemmas.Grind.{reverse_onto}
use Rattle.std.proofs.lemmas.Bool.{eq-eqb, ne_eqb, cases_eq}
use Rattle.std.proofs.Math.Seq.{drop-cons, take-append_seam}
use Rattle.answer_text.specs.Output.{positions_text}
use Rattle.answer_text.specs.Texts.{StartsWith}

text_of_push : (ps : List ℕ) (p : ℕ) → 0 < length ps → positions_text (ps ++ p ∷ []) ≡ positions_text ps ++ 44 ∷ decimal p
text_of_push [] p some = absurd (omega arith)
text_of_push (q ∷ []) p some = refl
text_of_push (q ∷ r ∷ ps) p some =
    ap (λ (rest : List ℕ). decimal q ++ 44 ∷ rest) (text_of_push (r ∷ ps) p (omega arith)) ∙ sym (append_assoc (decimal q) (44 ∷ positions_text (r ∷ ps)) (44 ∷ decimal p))

-- The first stands alone,
first_listed : (start text now done : List ℕ) (p : ℕ) → length done ≤ 0 →
    text ≡ start ++ positions_text done → now ≡ text ++ decimal p → now ≡ start ++ positions_text (done ++ p ∷ [])
first_listed start text now [] p none before is = let empty = append-nil start in cc
first_listed start text now (q ∷ done) p none before is = absurd (omega arith)

-- and each later one after a comma.
later_listed : (start text now done : List ℕ) (p : ℕ) → 0 < length done →
    text ≡ start ++ positions_text done → now ≡ text ++ 44 ∷ decimal p → now ≡ start ++ positions_text (done ++ p ∷ [])
later_listed start text now done p some before is =
    let pushed = text_of_push done p some in
    let one = append_assoc start (positions_text done) (44 ∷ decimal p) in
    cc

-- From the end of the list to its front.
pub listed_from_the_end : (start text now falling : List ℕ) (k : ℕ) → 0 < k → k ≤ length falling →
    text ≡ start ++ positions_text (reverse (drop k falling)) →
    (((k - 1) + 1 == length falling) ≡ true → now ≡ text ++ decimal (get_or falling (k - 1) 0)) →
    (((k - 1) + 1 == length falling) ≡ false → now ≡ text ++ 44 ∷ decimal (get_or falling (k - 1) 0)) →
    now ≡ start ++ positions_text (reverse (drop (k - 1) falling))
listed_from_the_end start text now falling k some within before first later =
    let p = get_or falling (k - 1) 0 in
    let done = reverse (drop k falling) in
    let long : length done ≡ length falling - k = length-reverse (drop k falling) ∙ length-drop k falling in
    let next : suc (k - 1) ≡ k = omega arith in
    let split : drop (k - 1) falling ≡ p ∷ drop k falling = drop-cons falling (k - 1) 0 (omega arith) ∙ ap (λ (n : ℕ). p ∷ drop n falling) next in
    let turned : reverse (drop (k - 1) falling) ≡ done ++ p ∷ [] = ap reverse split ∙ reverse_onto (drop k falling) p [] in
    let now_is : now ≡ start ++ positions_text (done ++ p ∷ []) =
    first_or_later ((k - 1) + 1) (length falling) start text now done p (λ e. omega arith) (λ e. omega arith) before first later in
    now_is ∙ ap (λ (ps : List ℕ). start ++ positions_text ps) (sym turned)
  where
    first_or_later : (m n : ℕ) (start text now done : List ℕ) (p : ℕ) → (m ≡ n → length done ≤ 0) → ((m ≡ n → ⊥) → 0 < length done) →
        text ≡ start ++ positions_text done → ((m == n) ≡ true → now ≡ text ++ decimal p) → ((m == n) ≡ false → now ≡ text ++ 44 ∷ decimal p) →
        now ≡ start ++ positions_text (done ++ p ∷ [])
    first_or_later m n start text now done p none some before first later =
        elim (cases_eq m n) [
          | inl e ↦ first_listed start text now done p (none e) before (first (eq-eqb m n e))
          | inr e ↦ later_listed start text now done p (some e) before (later (ne_eqb m n e))
        ]

-- A text still starts with what it started with.
pub still_starts : (start text now piece : List ℕ) → text ≡ start ++ piece → StartsWith text now → StartsWith start now
still_starts start text now piece is begins =
    let rest = drop (length text) now in
    let whole : now ≡ start ++ (piece ++ rest) =
    sym (take-append-drop (length text) now) ∙ ap (λ (l : List ℕ). l ++ rest) (begins ∙ is) ∙ append_assoc start piece rest in
    ap (take (length start)) whole ∙ take-append_seam start (piece ++ rest)
