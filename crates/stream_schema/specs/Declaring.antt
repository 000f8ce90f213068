-- What a declaration adds to a schema, and why it is refused.
use Rattle.std.specs.Prelude.{ℕ, ◌==◌, Bool, false, ◌||◌, if◌then◌else◌, List, [], ◌∷◌, ◌++◌, Option, Some, None, option_and_then, is_none, bytes_eq, Result, Ok, Err}
use Rattle.std.specs.List.{list_any}
use Rattle.stream_schema.specs.Types.{Declared, DeclaredType}
use Rattle.stream_schema.specs.Names.{is_taken, type_number}
use Rattle.stream_schema.specs.declared.Attr.{Attr}
use Rattle.stream_schema.specs.declared.SchemaFault.{SchemaFault}
use Rattle.stream_schema.specs.declared.SchemaFault.TheVariants.{NameTaken, UnknownType, AttrTwice}

-- some attribute has the name of a later one
abbrev pub repeats_name : List Attr → Bool
repeats_name [] = false
repeats_name (a ∷ later) = list_any (λ b. bytes_eq b.name a.name) later || repeats_name later

-- why a type is not declared
abbrev pub event_refusal : Declared → List ℕ → List Attr → Option SchemaFault
event_refusal schema name attrs =
    if is_taken schema name then Some NameTaken else if repeats_name attrs then Some AttrTwice else None

-- the schema with the type as its last
abbrev pub with_type : Declared → List ℕ → List Attr → Declared
with_type schema name attrs = record schema { types = schema.types ++ record { name = name; attrs = attrs } ∷ [] }

-- the number as the last, where it is not among them yet
abbrev pub added : List ℕ → ℕ → List ℕ
added numbers number = if list_any (λ n. n == number) numbers then numbers else numbers ++ number ∷ []

-- the numbers found before and those of the types of these names, each once, in order; none where one of the names is no type's
abbrev pub numbers_from : List ℕ → List DeclaredType → List (List ℕ) → Option (List ℕ)
numbers_from found types [] = Some found
numbers_from found types (name ∷ names) = option_and_then (λ n. numbers_from (added found n) types names) (type_number types name)

-- why a stream is not declared
abbrev pub stream_refusal : Declared → List ℕ → List (List ℕ) → Option SchemaFault
stream_refusal schema name names =
    if is_taken schema name then Some NameTaken else if is_none (numbers_from [] schema.types names) then Some UnknownType else None

-- the schema with the stream as its last
abbrev pub with_stream : Declared → List ℕ → List ℕ → Declared
with_stream schema name numbers = record schema { streams = schema.streams ++ record { name = name; types = numbers } ∷ [] }
