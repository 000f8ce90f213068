-- An event of a schema that the attribute fits has its clock as a whole number.
use Rattle.std.proofs.Common.{◌≡◌, ℕ, zero, suc, true, List, [], ◌∷◌, refl, Option, Some, None, slice_get, rules}
use Rattle.std.specs.Prelude.{option_and_then, option_map, IsSomeAnd}
use Rattle.std.specs.List.{list_all}
use Rattle.std.proofs.lemmas.Bool.{and_parts}
use Rattle.stream_schema.specs.Types.{Declared, DeclaredType}
use Rattle.stream_schema.specs.Names.{attr_index}
use Rattle.stream_schema.specs.Events.{IsOfSchema, IsOfKind, AreOfAttrs}
use Rattle.stream_schema.specs.declared.Attr.{Attr}
use Rattle.stream_schema.specs.declared.Event.{Event}
use Rattle.stream_schema.specs.declared.Kind.{Kind}
use Rattle.stream_schema.specs.declared.Kind.TheVariants as kind
use Rattle.stream_schema.specs.declared.Value.{Value}
use Rattle.stream_schema.specs.declared.Value.TheVariants as value
use Rattle.reorder_gate.specs.AttributeClock.{is_int, is_some_int, has_clock, clock_fits, clock_value, whole, attribute_clock}

-- a value of a whole number's kind is one
whole_of_kind : (k : Kind) (v : Value) → is_int k ≡ true → IsOfKind k v → Some v ≡ Some (value.Int (whole (Some v)))
whole_of_kind kind.Int (value.Int n) e fits = refl
whole_of_kind kind.Int (value.Text t) e fits = absurd fits
whole_of_kind kind.Int (value.Flag b) e fits = absurd fits
whole_of_kind kind.Int (value.Dec n p) e fits = absurd fits
whole_of_kind kind.Text v e fits = absurd (search (rules, e))
whole_of_kind kind.Flag v e fits = absurd (search (rules, e))
whole_of_kind (kind.Dec k) v e fits = absurd (search (rules, e))

-- the value at the place of an attribute that is a whole number
at_place : (attrs : List Attr) (values : List Value) (i n : ℕ) → AreOfAttrs attrs values → is_some_int (option_map (λ (a : Attr). record { index = n; kind = a.kind }) (slice_get attrs i)) ≡ true → slice_get values i ≡ Some (value.Int (whole (slice_get values i)))
at_place [] values i n fits e = absurd (search (rules, e))
at_place (a ∷ attrs) [] i n fits e = absurd fits
at_place (a ∷ attrs) (v ∷ values) zero n fits e = whole_of_kind a.kind v e fits.0
at_place (a ∷ attrs) (v ∷ values) (suc i) n fits e = at_place attrs values i n fits.1 e

at_some_place : (attrs : List Attr) (values : List Value) (place : Option ℕ) → AreOfAttrs attrs values
    → is_some_int (option_and_then (λ i. option_map (λ (a : Attr). record { index = i; kind = a.kind }) (slice_get attrs i)) place) ≡ true
    → option_and_then (λ i. slice_get values i) place ≡ Some (value.Int (whole (option_and_then (λ i. slice_get values i) place)))
at_some_place attrs values None fits e = absurd (search (rules, e))
at_some_place attrs values (Some i) fits e = at_place attrs values i i fits e

of_types : (name : List ℕ) (types : List DeclaredType) (ty : ℕ) (values : List Value) → list_all (has_clock name) types ≡ true → IsSomeAnd (slice_get types ty) (λ t. AreOfAttrs t.attrs values)
    → option_and_then (λ t. option_and_then (λ i. slice_get values i) (attr_index name t.attrs)) (slice_get types ty)
    ≡ Some (value.Int (whole (option_and_then (λ t. option_and_then (λ i. slice_get values i) (attr_index name t.attrs)) (slice_get types ty))))
of_types name [] ty values all of = absurd of
of_types name (t ∷ types) zero values all of = at_some_place t.attrs values (attr_index name t.attrs) of (and_parts (has_clock name t) (list_all (has_clock name) types) all).0
of_types name (t ∷ types) (suc ty) values all of = of_types name types ty values (and_parts (has_clock name t) (list_all (has_clock name) types) all).1 of

pub told : (schema : Declared) (name : List ℕ) (event : Event) → clock_fits schema name ≡ true → IsOfSchema schema event → clock_value schema name event ≡ Some (value.Int (attribute_clock schema name event))
told schema name event fits of = of_types name schema.types event.ty event.values fits of
