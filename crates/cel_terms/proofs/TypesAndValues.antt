-- Which types a query reads, and the value of an attribute. For callers of the crate too.
use Rattle.std.proofs.Common.{◌≡◌, refl, ap, ◌∙◌, ℕ, false, ◌||◌, List, [], ◌∷◌, Option, Some, None}
use Rattle.std.specs.Prelude.{◌==◌, bytes_eq, slice_get, option_map, option_and_then}
use Rattle.std.specs.List.{list_any, position_from}
use Rattle.std.specs.Option.{option_map_or}
use Rattle.std.proofs.lemmas.List.Folds.{list_any-append}
use Rattle.stream_schema.specs.Types.{Declared, DeclaredType, DeclaredStream}
use Rattle.stream_schema.specs.Names.{stream_types, attr_index}
use Rattle.stream_schema.specs.declared.Attr.{Attr}
use Rattle.stream_schema.specs.declared.Value.{Value}
use Rattle.cel_terms.specs.declared.Name.{Name}
use Rattle.cel_terms.specs.Answers.{types_of_stream, query_types}

pub reads_is : (schema : Declared) (ty : ℕ) (names : List Name) → list_any (λ t. t == ty) (query_types schema names) ≡ list_any (λ n. list_any (λ t. t == ty) (types_of_stream schema.streams n.text)) names
reads_is schema ty [] = refl
reads_is schema ty (n ∷ ns) =
    list_any-append (λ t. t == ty) (types_of_stream schema.streams n.text) (query_types schema ns) ∙ ap (λ b. list_any (λ t. t == ty) (types_of_stream schema.streams n.text) || b) (reads_is schema ty ns)

is_among : (ty : ℕ) (o : Option (List ℕ)) → list_any (λ t. t == ty) (option_map_or (λ types. types) o []) ≡ option_map_or (list_any (λ t. t == ty)) o false
is_among ty None = refl
is_among ty (Some types) = refl

pub types_are : (streams : List DeclaredStream) (name : List ℕ) (ty : ℕ) → list_any (λ t. t == ty) (types_of_stream streams name) ≡ option_map_or (list_any (λ t. t == ty)) (stream_types streams name) false
types_are streams name ty = is_among ty (stream_types streams name)

-- The value at the place of the first attribute of the name.
pub value_there : (name : List ℕ) (type : Option DeclaredType) (values : List Value) (attrs : List Attr) (i : ℕ) (v : Option Value) → Some attrs ≡ option_map (λ t. t.attrs) type → Some i ≡ position_from (λ a. bytes_eq a.name name) 0 attrs → v ≡ slice_get values i → v ≡ option_and_then (λ t. option_and_then (λ k. slice_get values k) (attr_index name t.attrs)) type
value_there name None values attrs i v has at is = absurd cc
value_there name (Some t) values attrs i v has at is =
    let same : attrs ≡ t.attrs = cc in
    let place : Some i ≡ attr_index name t.attrs = at ∙ ap (attr_index name) same in
    is ∙ ap (option_and_then (λ k. slice_get values k)) place
