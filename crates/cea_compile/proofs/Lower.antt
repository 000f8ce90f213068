-- The parts of a shape are lower than the shape.
use Rattle.std.proofs.Common.{◌≡◌, refl, sym, ap, subst, ◌∙◌, ℕ, zero, suc, ◌+◌, ◌<◌, ◌≤◌, max, List, [], ◌∷◌, length, get_or, arith}
use Rattle.std.specs.Prelude.{Vec}
use Rattle.std.specs.declared.alloc.Global.{Global}
use Rattle.query_leaves.specs.declared.Shape.{Shape, Chain, Either, Row_of-Shape, end_of-Shape, more_of-Shape, items-the_row-Shape, items_hidden-the_row-Shape-1, Row_of-ShapePart, end_of-ShapePart, more_of-ShapePart, items-the_row-ShapePart, items_hidden-the_row-ShapePart-0}
use Rattle.query_leaves.specs.declared.ShapePart.{ShapePart, out-ShapePart}
use Rattle.query_leaves.proofs.Shaped.{parts_in, choices_in}
use Rattle.cea_compile.specs.Heights.{height, height_of_parts, height_of_choices, highest_part, highest_choice}

parts_listed : (n : _) (row : Row_of-ShapePart n) → height_of_parts row ≡ highest_part (items-the_row-ShapePart n row)
parts_listed n end_of-ShapePart = refl
parts_listed n (more_of-ShapePart tight part rest) = ap (max (height part)) (parts_listed _ rest)

choices_listed : (n : _) (row : Row_of-Shape n) → height_of_choices row ≡ highest_choice (items-the_row-Shape n row)
choices_listed n end_of-Shape = refl
choices_listed n (more_of-Shape choice rest) = ap (max (height choice)) (choices_listed _ rest)

chain_height : (parts : Vec ShapePart Global) → height (Chain parts) ≡ highest_part parts.items + 2
chain_height parts =
    let row = parts_in (Chain parts) in
    ap (λ n. n + 2) (parts_listed row.0 row.1 ∙ ap highest_part (items_hidden-the_row-ShapePart-0 parts))

choice_height : (choices : Vec Shape Global) → height (Either choices) ≡ highest_choice choices.items + 2
choice_height choices =
    let row = choices_in (Either choices) in
    ap (λ n. n + 2) (choices_listed row.0 row.1 ∙ ap highest_choice (items_hidden-the_row-Shape-1 choices))

pub chain_falls : (s : Shape) (parts : Vec ShapePart Global) (ps : List ShapePart) (t : ℕ) → height s ≡ t → s ≡ Chain parts → ps ≡ parts.items → highest_part ps + 1 < t
chain_falls s parts ps t tall is same =
    let e : height s ≡ highest_part ps + 2 = ap height is ∙ chain_height parts ∙ ap (λ qs. highest_part qs + 2) (sym same) in
    omega arith

pub choices_fall : (s : Shape) (choices : Vec Shape Global) (ss : List Shape) (t : ℕ) → height s ≡ t → s ≡ Either choices → ss ≡ choices.items → highest_choice ss + 1 < t
choices_fall s choices ss t tall is same =
    let e : height s ≡ highest_choice ss + 2 = ap height is ∙ choice_height choices ∙ ap (λ qs. highest_choice qs + 2) (sym same) in
    omega arith

part_low : (xs : List ShapePart) (k : ℕ) (d : ShapePart) → k < length xs → height (out-ShapePart (get_or xs k d)).part ≤ highest_part xs
part_low [] k d less = absurd (omega arith)
part_low (x ∷ xs) zero d less = omega arith
part_low (x ∷ xs) (suc k) d less =
    let low : height (out-ShapePart (get_or xs k d)).part ≤ highest_part xs = part_low xs k d (omega arith) in
    omega arith

choice_low : (xs : List Shape) (i : ℕ) (d : Shape) → i < length xs → height (get_or xs i d) ≤ highest_choice xs
choice_low [] i d less = absurd (omega arith)
choice_low (x ∷ xs) zero d less = omega arith
choice_low (x ∷ xs) (suc i) d less =
    let low : height (get_or xs i d) ≤ highest_choice xs = choice_low xs i d (omega arith) in
    omega arith

pub part_falls : (xs : List ShapePart) (k : ℕ) (p : ShapePart) (t : ℕ) → highest_part xs + 1 ≡ t → p ≡ get_or xs k p → k < length xs → height (out-ShapePart p).part < t
part_falls xs k p t tall is less =
    let low : height (out-ShapePart p).part ≤ highest_part xs = subst (λ (q : ShapePart). height (out-ShapePart q).part ≤ highest_part xs) (sym is) (part_low xs k p less) in
    omega arith

pub choice_falls : (xs : List Shape) (i : ℕ) (s : Shape) (t : ℕ) → highest_choice xs + 1 ≡ t → s ≡ get_or xs i s → i < length xs → height s < t
choice_falls xs i s t tall is less =
    let low : height s ≤ highest_choice xs = subst (λ q. height q ≤ highest_choice xs) (sym is) (choice_low xs i s less) in
    omega arith

pub repeated_falls : (s u part : Shape) (t : ℕ) → height s ≡ t → height s ≡ height part + 1 → u ≡ part → height u < t
repeated_falls s u part t tall is same = let e : height u ≡ height part = ap height same in omega arith
