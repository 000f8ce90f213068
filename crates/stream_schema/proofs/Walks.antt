-- One step of a walk over a list.
use Rattle.std.proofs.Common.{◌≡◌, ◌∙◌, refl, sym, ap, ℕ, ◌+◌, ◌<◌, List, [], ◌∷◌, ◌++◌, length, drop, get_or, Some, option_and_then, nat_eq, if◌then◌else◌, add-one}
use Rattle.std.proofs.Math.Seq.{drop-cons}
use Rattle.std.specs.List.{list_any}
use Rattle.stream_schema.specs.Types.{DeclaredType}
use Rattle.stream_schema.specs.Names.{type_number}
use Rattle.stream_schema.specs.Declaring.{numbers_from, added}
use Rattle.stream_schema.proofs.WellDeclared.{number_added}

-- the names from place i on
pub numbers_step : (found : List ℕ) (types : List DeclaredType) (names : List (List ℕ)) (i : ℕ) (d : List ℕ) → i < length names → numbers_from found types (drop i names) ≡ option_and_then (λ n. numbers_from (added found n) types (drop (i + 1) names)) (type_number types (get_or names i d))
numbers_step found types names i d h = rw (add-one, drop-cons names i d) refl

-- one name more, of a type of this number
pub number_found : (found : List ℕ) (types : List DeclaredType) (names : List (List ℕ)) (i : ℕ) (name : List ℕ) (n : ℕ) → i < length names → name ≡ get_or names i name → Some n ≡ type_number types name → numbers_from found types (drop i names) ≡ numbers_from (if list_any (λ k. nat_eq n k) found then found else found ++ n ∷ []) types (drop (i + 1) names)
number_found found types names i name n within at is =
    numbers_step found types names i name within
    ∙ ap (option_and_then (λ m. numbers_from (added found m) types (drop (i + 1) names))) (sym (is ∙ ap (type_number types) at))
    ∙ ap (λ ns. numbers_from ns types (drop (i + 1) names)) (sym (number_added found n))
