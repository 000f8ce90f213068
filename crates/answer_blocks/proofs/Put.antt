-- The lines of answers that were put after a text.
use Rattle.std.proofs.Common.{◌≡◌, ℕ, List, [], ◌∷◌, ◌++◌, sym, ◌∙◌, ap, subst, Result, Ok, Err, flat_map, IsPermutation}
use Rattle.std.specs.Prelude.{OnOk}
use Rattle.std.proofs.lemmas.List.{append-nil}
use Rattle.std.proofs.lemmas.List.Sorted.{IsPermutation-refl}
use Rattle.cel_terms.specs.Answers.{Answer}
use Rattle.cer_base.specs.Repeats.{HasNoRepeats}
use Rattle.answer_text.specs.Output.{line}
use Rattle.answer_blocks.specs.Blocks.{HasPut}
use Rattle.answer_blocks.proofs.Sorting.{in_order, in_order_moves, in_order_is}

pub on_ok : {T E : Type 0} (P Q : Type 0) (r : Result T E) → (P → Q) → OnOk r P → OnOk r Q
on_ok P Q (Ok v) f h = f h
on_ok P Q (Err e) f h = tt

-- where memory ran out
pub none_put : {E : Type 0} (number end : ℕ) (given : List Answer) (old new : List ℕ) (result : Result (Unit {0}) E) (e : E) → result ≡ Err e → HasPut number end given old new result
none_put number end given old new result e is = record {
  answers = in_order given;
  moved = in_order_moves given;
  ordered = in_order_is given;
  lines = subst (λ r. OnOk r (new ≡ old ++ flat_map (line number end) (in_order given))) (sym is) tt;
}

-- the line of the only one
pub one_put : {E : Type 0} (number end : ℕ) (given left : List Answer) (a : Answer) (old new : List ℕ) (result : Result (Unit {0}) E) → given ≡ a ∷ left → left ≡ [] →
    OnOk result (new ≡ old ++ line number end a) → HasPut number end given old new result
one_put number end given left a old new result is none put =
    let one : given ≡ a ∷ [] = is ∙ ap (λ (l : List Answer). a ∷ l) none in
    record {
      answers = a ∷ [];
      moved = subst (λ (l : List Answer). IsPermutation l (a ∷ [])) (sym one) (IsPermutation-refl (a ∷ []));
      ordered = λ once. in_order_is (a ∷ []) (subst HasNoRepeats one once);
      lines = on_ok _ _ result (λ h. h ∙ ap (λ (l : List ℕ). old ++ l) (sym (append-nil (line number end a)))) put;
    }
