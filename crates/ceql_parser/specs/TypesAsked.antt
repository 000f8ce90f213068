-- What is asked of the types that a query reads.
use Rattle.std.specs.Prelude.{ℕ, Bool, true, false, ◌&&◌, List, bytes_eq, slice_get}
use Rattle.std.specs.List.{list_any, list_all, filter_map}
use Rattle.stream_schema.specs.Types.{Declared, DeclaredType}
use Rattle.stream_schema.specs.declared.Kind.{Kind}
use Rattle.stream_schema.specs.declared.Kind.TheVariants as kind
use Rattle.stream_schema.specs.declared.Value.{Value}
use Rattle.stream_schema.specs.declared.Value.TheVariants as value
use Rattle.stream_schema.specs.declared.Op.{Op}
use Rattle.stream_schema.specs.declared.Op.TheVariants.{Eq, Ne, Lt, Le, Gt, Ge}

-- the declared types of these numbers
abbrev pub types_at : Declared → List ℕ → List DeclaredType
types_at schema numbers = filter_map (slice_get schema.types) numbers

-- some type has the name
abbrev pub is_type_name : List DeclaredType → List ℕ → Bool
is_type_name types name = list_any (λ t. bytes_eq t.name name) types

-- the type has an attribute of the name, with a kind that passes
abbrev pub has_attr : List ℕ → (Kind → Bool) → DeclaredType → Bool
has_attr name passes t = list_any (λ a. bytes_eq a.name name && passes a.kind) t.attrs

-- some type has it
abbrev pub some_has_attr : List DeclaredType → List ℕ → (Kind → Bool) → Bool
some_has_attr types name passes = list_any (has_attr name passes) types

-- each type has it
abbrev pub each_has_attr : List DeclaredType → List ℕ → (Kind → Bool) → Bool
each_has_attr types name passes = list_all (has_attr name passes) types

abbrev pub any_kind : Kind → Bool
any_kind k = true

abbrev pub is_whole : Kind → Bool
is_whole kind.Int = true
is_whole kind.Text = false
is_whole kind.Flag = false
is_whole (kind.Dec places) = false

abbrev pub is_flag : Value → Bool
is_flag (value.Flag b) = true
is_flag (value.Int n) = false
is_flag (value.Text t) = false
is_flag (value.Dec n places) = false

-- the operator asks for an order
abbrev pub is_order : Op → Bool
is_order Eq = false
is_order Ne = false
is_order Lt = true
is_order Le = true
is_order Gt = true
is_order Ge = true
