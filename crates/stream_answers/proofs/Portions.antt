-- Bytes that a sink took in turn. For callers too.
use Rattle.std.proofs.Common.{◌≡◌, ℕ, suc, ◌+◌, List, [], ◌∷◌, ◌++◌, zero-add, length, take, Option, Some, None, refl, sym, ◌∙◌, ap, subst, append_assoc, length-append, arith}
use Rattle.std.proofs.lemmas.List.{append-nil, take-append-le, take_all}
use Rattle.cer_outside.specs.Bytes.{TookAll, TookPart}
use Rattle.answer_blocks.specs.SinkBytes.{TookPrefix}

-- nothing was taken
pub took_none : (before : Option (List ℕ)) → TookAll before before []
took_none None = refl
took_none (Some bytes) = ap Some (sym (append-nil bytes))

-- all of the first, and all of the second
pub took_both : (before middle after : Option (List ℕ)) (x y : List ℕ) → TookAll before middle x → TookAll middle after y → TookAll before after (x ++ y)
took_both None None after x y first second = second
took_both None (Some m) after x y first second = absurd cc
took_both (Some b) None after x y first second = absurd cc
took_both (Some b) (Some m) after x y first second =
    let is : m ≡ b ++ x = cc in
    second ∙ ap Some (ap (λ w. w ++ y) is ∙ append_assoc b x y)

-- a first part of bytes after others
part_of_two : (n : ℕ) (x y : List ℕ) → x ++ take n y ≡ take (length x + n) (x ++ y)
part_of_two n [] y = ap (λ k. take k y) (sym (zero-add n))
part_of_two n (b ∷ x) y =
    let at : length (b ∷ x) + n ≡ suc (length x + n) = omega arith in
    let P : ℕ → Type 0 = λ k. b ∷ x ++ take n y ≡ take k (b ∷ x ++ y) in
    subst P (sym at) (ap (λ w. b ∷ w) (part_of_two n x y))

-- all of the first, and a proper part of the second
pub took_then_part : (before middle after : Option (List ℕ)) (x y : List ℕ) → TookAll before middle x → TookPart middle after y → TookPart before after (x ++ y)
took_then_part None None after x y first second = second
took_then_part None (Some m) after x y first second = absurd cc
took_then_part (Some b) None after x y first second = absurd cc
took_then_part (Some b) (Some m) None x y first second = second
took_then_part (Some b) (Some m) (Some a) x y first second =
    let is : m ≡ b ++ x = cc in
    record {
      count = length x + second.count;
      within = let l = length-append x y in let w = second.within in omega arith;
      took = second.took ∙ ap (λ w. w ++ take second.count y) is ∙ append_assoc b x (take second.count y) ∙ ap (λ w. b ++ w) (part_of_two second.count x y);
    }

-- a part of more
pub part_of_more : (before after : Option (List ℕ)) (x rest : List ℕ) → TookPart before after x → TookPart before after (x ++ rest)
part_of_more None after x rest part = part
part_of_more (Some b) None x rest part = part
part_of_more (Some b) (Some a) x rest part = record {
  count = part.count;
  within = let l = length-append x rest in let w = part.within in omega arith;
  took = part.took ∙ ap (λ w. b ++ w) (sym (take-append-le part.count x rest (let w = part.within in omega arith)));
}

pub prefix_of_more : (before after : Option (List ℕ)) (x rest : List ℕ) → TookPrefix before after x → TookPrefix before after (x ++ rest)
prefix_of_more None after x rest part = part
prefix_of_more (Some b) None x rest part = part
prefix_of_more (Some b) (Some a) x rest part = record {
  count = part.count;
  within = let l = length-append x rest in let w = part.within in omega arith;
  took = part.took ∙ ap (λ w. b ++ w) (sym (take-append-le part.count x rest part.within));
}

-- all of the bytes are a first part of them
pub prefix_of_all : (before after : Option (List ℕ)) (x : List ℕ) → TookAll before after x → TookPrefix before after x
prefix_of_all None after x all = all
prefix_of_all (Some b) None x all = absurd cc
prefix_of_all (Some b) (Some a) x all =
    let is : a ≡ b ++ x = cc in
    record { count = length x; within = omega arith; took = is ∙ ap (λ w. b ++ w) (sym (take_all (length x) x (omega arith))) }
