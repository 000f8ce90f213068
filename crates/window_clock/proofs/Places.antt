-- Equal tables of places.
use Rattle.std.proofs.Common.{◌≡◌, ℕ, Bool, true, List, refl, ap, Decides, Option, Some, None}
use Rattle.std.specs.Prelude.{nat_eq}
use Rattle.std.specs.Option.{option_eq}
use Rattle.std.specs.Cmp.Lexicographic.{pointwise}
use Rattle.std.proofs.lemmas.Bool.Decides.{Decides-eqb}
use Rattle.std.proofs.lemmas.Slice.Eq.{slice_eq-Decides}

same_place : (a b : Option ℕ) → Decides (option_eq nat_eq a b) (a ≡ b)
same_place None None = (λ e. refl, λ e. refl)
same_place None (Some y) = (λ e. absurd cc, λ e. absurd cc)
same_place (Some x) None = (λ e. absurd cc, λ e. absurd cc)
same_place (Some x) (Some y) = (λ e. ap (λ z. Some z) ((Decides-eqb x y).0 e), λ e. (Decides-eqb x y).1 cc)

-- tables that compare as equal are
pub same_tables : (one other : List (Option ℕ)) (r : Bool) → r ≡ pointwise (option_eq nat_eq) one other → r ≡ true → one ≡ other
same_tables one other r is told = (slice_eq-Decides same_place one other r is).0 told
