-- The types of a stream are those at its name's place among the streams.
use Rattle.std.proofs.Common.{◌≡◌, refl, sym, ap, ◌∙◌, ℕ, ◌+◌, add-one, cond, Bool, true, false, List, [], ◌∷◌, Option, Some, None}
use Rattle.std.specs.Prelude.{bytes_eq, slice_get, option_map, option_and_then}
use Rattle.std.specs.List.{position_from}
use Rattle.stream_schema.specs.Types.{DeclaredStream}
use Rattle.stream_schema.specs.Names.{stream_types}

abbrev types_at : List DeclaredStream → Option ℕ → Option (List ℕ)
types_at streams o = option_and_then (λ i. option_map (λ s. s.types) (slice_get streams i)) o

shifted : (t : DeclaredStream → Bool) (i : ℕ) (ss : List DeclaredStream) → position_from t (i + 1) ss ≡ option_map (λ k. k + 1) (position_from t i ss)
shifted t i [] = refl
shifted t i (s ∷ ss) = ap (cond (t s) (Some (i + 1))) (shifted t (i + 1) ss) ∙ under (t s) i (position_from t (i + 1) ss)
  where
    under : (b : Bool) (i : ℕ) (o : Option ℕ) → cond b (Some (i + 1)) (option_map (λ k. k + 1) o) ≡ option_map (λ k. k + 1) (cond b (Some i) o)
    under true i o = refl
    under false i o = refl

later_types : (s : DeclaredStream) (ss : List DeclaredStream) (o : Option ℕ) → option_and_then (λ i. option_map (λ s. s.types) (slice_get (s ∷ ss) i)) (option_map (λ k. k + 1) o) ≡ option_and_then (λ i. option_map (λ s. s.types) (slice_get ss i)) o
later_types s ss None = refl
later_types s ss (Some i) = rw add-one refl

apart : (b : Bool) (g : ℕ → Option (List ℕ)) (o : Option ℕ) → option_and_then g (cond b (Some 0) o) ≡ cond b (g 0) (option_and_then g o)
apart true g o = refl
apart false g o = refl

-- the types at the place where the name is found
pub types_at_place : (streams : List DeclaredStream) (name : List ℕ) → types_at streams (position_from (λ s. bytes_eq s.name name) 0 streams) ≡ stream_types streams name
types_at_place [] name = refl
types_at_place (s ∷ ss) name =
    let t : DeclaredStream → Bool = λ x. bytes_eq x.name name in
    apart (bytes_eq s.name name) (λ i. option_map (λ s. s.types) (slice_get (s ∷ ss) i)) (position_from t 1 ss)
    ∙ ap (cond (bytes_eq s.name name) (Some s.types))
    (ap (option_and_then (λ i. option_map (λ s. s.types) (slice_get (s ∷ ss) i))) (shifted t 0 ss) ∙ later_types s ss (position_from t 0 ss) ∙ types_at_place ss name)
