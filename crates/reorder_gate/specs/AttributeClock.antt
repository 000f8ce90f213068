-- The clock of an event: the value of one attribute, which every declared type has as a whole number.
use Rattle.std.specs.Prelude.{◌≡◌, ℕ, ℤ, pos, Bool, true, false, List, Option, Some, None, slice_get, option_and_then}
use Rattle.std.specs.List.{list_all}
use Rattle.stream_schema.specs.Types.{Declared, DeclaredType}
use Rattle.stream_schema.specs.Names.{attr_index, attr_among}
use Rattle.stream_schema.specs.Events.{value_in}
use Rattle.stream_schema.specs.declared.AttrAt.{AttrAt}
use Rattle.stream_schema.specs.declared.Event.{Event}
use Rattle.stream_schema.specs.declared.Kind.{Kind}
use Rattle.stream_schema.specs.declared.Kind.TheVariants as kind
use Rattle.stream_schema.specs.declared.Value.{Value}
use Rattle.stream_schema.specs.declared.Value.TheVariants as value

abbrev pub is_int : Kind → Bool
is_int kind.Int = true
is_int _ = false

abbrev pub is_some_int : Option AttrAt → Bool
is_some_int None = false
is_some_int (Some a) = is_int a.kind

-- the type has the attribute, and it is a whole number
abbrev pub has_clock : List ℕ → DeclaredType → Bool
has_clock name t = is_some_int (attr_among t.attrs name)

-- every declared type has it so
abbrev pub clock_fits : Declared → List ℕ → Bool
clock_fits schema name = list_all (has_clock name) schema.types

-- the event's value of the attribute, where its type has it
abbrev pub clock_value : Declared → List ℕ → Event → Option Value
clock_value schema name event =
    option_and_then (λ t. option_and_then (λ i. slice_get event.values i) (attr_index name t.attrs)) (slice_get schema.types event.ty)

-- the whole number; 0 where the value is none
abbrev pub whole : Option Value → ℤ
whole (Some (value.Int n)) = n
whole _ = pos 0

-- The event's clock. An event of a schema that the attribute fits has it.
abbrev pub attribute_clock : Declared → List ℕ → Event → ℤ
attribute_clock schema name event = whole (clock_value schema name event)

-- the same by a table: where the attribute stands among those of each type
abbrev pub clock_in : List (Option ℕ) → Event → ℤ
clock_in places event = whole (value_in places event)

-- The table tells the clock of every event.
pub record IsClock (schema : Declared) (name : List ℕ) (places : List (Option ℕ)) : Type 0 where
  pub clock : clock_in places ≡ attribute_clock schema name
