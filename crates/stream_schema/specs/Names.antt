-- What a name means in a schema.
use Rattle.std.specs.Prelude.{ℕ, Bool, ◌||◌, if◌then◌else◌, List, [], ◌∷◌, Option, Some, None, slice_get, bytes_eq, option_and_then, option_map}
use Rattle.std.specs.List.{position_from, list_any}
use Rattle.stream_schema.specs.Types.{Declared, DeclaredType, DeclaredStream}
use Rattle.stream_schema.specs.declared.Attr.{Attr}
use Rattle.stream_schema.specs.declared.AttrAt.{AttrAt}

-- the number of the type of this name: its place among the declared ones, from 0
abbrev pub type_number : List DeclaredType → List ℕ → Option ℕ
type_number types name = position_from (λ t. bytes_eq t.name name) 0 types

-- where the attribute stands among the type's, from 0
abbrev pub attr_index : List ℕ → List Attr → Option ℕ
attr_index name attrs = position_from (λ a. bytes_eq a.name name) 0 attrs

-- the attribute that stands there among those of the type
abbrev pub attr_of : List DeclaredType → ℕ → ℕ → Option Attr
attr_of types ty i = option_and_then (λ t. slice_get t.attrs i) (slice_get types ty)

-- the place and the kind of the attribute among these, where one has the name
abbrev pub attr_among : List Attr → List ℕ → Option AttrAt
attr_among attrs name =
    option_and_then (λ i. option_map (λ a. record { index = i; kind = a.kind }) (slice_get attrs i)) (attr_index name attrs)

-- the same among those of the type, where there is such a type
abbrev pub attr_at : Declared → ℕ → List ℕ → Option AttrAt
attr_at schema ty name = option_and_then (λ t. attr_among t.attrs name) (slice_get schema.types ty)

-- the types of the stream of this name, where there is one
abbrev pub stream_types : List DeclaredStream → List ℕ → Option (List ℕ)
stream_types [] name = None
stream_types (s ∷ ss) name = if bytes_eq s.name name then Some s.types else stream_types ss name

-- a type or a stream has the name
abbrev pub is_taken : Declared → List ℕ → Bool
is_taken schema name =
    list_any (λ t. bytes_eq t.name name) schema.types || list_any (λ s. bytes_eq s.name name) schema.streams
