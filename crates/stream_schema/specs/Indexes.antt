-- What a schema keeps beside its declarations.
-- Nobody needs to believe this; the public contracts speak of the declarations alone.
use Rattle.std.specs.Prelude.{◌≡◌, ℕ, List, [], ◌∷◌, Vec, map}
use Rattle.std.specs.declared.alloc.Global.{Global}
use Rattle.indexmap.specs.IndexSet.{IndexSet}
use Rattle.stream_schema.specs.Types.{Declared, IsWellDeclared}

-- The indexes have the names of the types and of the streams, in order.
pub record IsIndexed (schema : Declared) (type_names stream_names : List (List ℕ)) : Type 0 where
  pub declared : IsWellDeclared schema
  pub types : type_names ≡ map (λ t. t.name) schema.types
  pub streams : stream_names ≡ map (λ s. s.name) schema.streams

-- the names of the first set, in the order in which they were added
abbrev pub names_in : {S : Type 0} → List (IndexSet (Vec ℕ Global) S) → List (List ℕ)
names_in [] = []
names_in (s ∷ ss) = map (λ n. n.items) s.keys
