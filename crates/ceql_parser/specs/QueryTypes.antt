-- What a set of types has. Only private clauses cite these.
use Rattle.std.specs.Prelude.{◌≡◌, ℕ, Bool, true, false, List, ◌++◌}
use Rattle.std.specs.List.{list_any}
use Rattle.stream_schema.specs.Types.{Declared, DeclaredType}
use Rattle.cel_terms.specs.Answers.{types_of_stream}
use Rattle.cel_terms.specs.Meaning.{lists_name}

-- a test finds a number among the ones exactly where it finds one among the others
pub record HaveSameNumbers (numbers others : List ℕ) : Type 0 where
  pub at : (test : ℕ → Bool) → list_any test numbers ≡ list_any test others

-- two lists of types have the same ones, by any test
pub record HaveSameTypes (types others : List DeclaredType) : Type 0 where
  pub at : (test : DeclaredType → Bool) → list_any test types ≡ list_any test others

-- a stream that was not seen adds its types, and one that was adds nothing
pub record AddsStream (schema : Declared) (seen : List (List ℕ)) (old new : List ℕ) (name : List ℕ) : Type 0 where
  pub first : lists_name seen name ≡ false → HaveSameNumbers new (old ++ types_of_stream schema.streams name)
  pub again : lists_name seen name ≡ true → new ≡ old
