-- When an event is of a schema.
use Rattle.std.specs.Prelude.{◌≡◌, ℕ, List, [], ◌∷◌, Option, None, option_and_then, slice_get, slice_index_or, IsSomeAnd}
use Rattle.stream_schema.specs.Types.{Declared}
use Rattle.stream_schema.specs.declared.Attr.{Attr}
use Rattle.stream_schema.specs.declared.Event.{Event}
use Rattle.stream_schema.specs.declared.Kind.{Kind}
use Rattle.stream_schema.specs.declared.Kind.TheVariants as kind
use Rattle.stream_schema.specs.declared.Value.{Value}
use Rattle.stream_schema.specs.declared.Value.TheVariants as value

-- the value is of the kind, a decimal with its places
abbrev pub IsOfKind : Kind → Value → Type 0
IsOfKind kind.Int (value.Int n) = Unit {0}
IsOfKind kind.Text (value.Text t) = Unit {0}
IsOfKind kind.Flag (value.Flag b) = Unit {0}
IsOfKind (kind.Dec k) (value.Dec scaled places) = places ≡ k
IsOfKind _ _ = ⊥

-- a value for each attribute, one by one of its kind
abbrev pub AreOfAttrs : List Attr → List Value → Type 0
AreOfAttrs [] [] = Unit {0}
AreOfAttrs (a ∷ attrs) (v ∷ values) = IsOfKind a.kind v × AreOfAttrs attrs values
AreOfAttrs _ _ = ⊥

-- the event's type is declared, and its values are those of the type's attributes
abbrev pub IsOfSchema : Declared → Event → Type 0
IsOfSchema schema event = IsSomeAnd (slice_get schema.types event.ty) (λ t. AreOfAttrs t.attrs event.values)

-- the event's value at the place that its type has in the table
abbrev pub value_in : List (Option ℕ) → Event → Option Value
value_in places event = option_and_then (λ i. slice_get event.values i) (slice_index_or places event.ty None)
