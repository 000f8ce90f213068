-- The table of an attribute's places, type by type. For callers of the crate too.
use Rattle.std.proofs.Common.{◌≡◌, ℕ, zero, suc, ◌+◌, ◌<◌, List, [], ◌∷◌, ◌++◌, map, take, length, refl, sym, ap, ◌∙◌, Option, None, slice_get, slice_index_or, arith, add-one}
use Rattle.std.specs.Prelude.{option_and_then}
use Rattle.stream_schema.specs.Types.{Declared, DeclaredType}
use Rattle.stream_schema.specs.Names.{attr_index}
use Rattle.stream_schema.specs.Events.{value_in}
use Rattle.stream_schema.specs.declared.Event.{Event}

abbrev place_in : List ℕ → DeclaredType → Option ℕ
place_in name t = attr_index name t.attrs

step : (name : List ℕ) (types : List DeclaredType) (i : ℕ) → i < length types → map (place_in name) (take (suc i) types) ≡ map (place_in name) (take i types) ++ option_and_then (place_in name) (slice_get types i) ∷ []
step name [] i l = absurd (omega arith)
step name (t ∷ ts) zero l = refl
step name (t ∷ ts) (suc i) l = ap (λ ps. place_in name t ∷ ps) (step name ts i (omega arith))

-- one type more
pub next_place : (name : List ℕ) (types : List DeclaredType) (i : ℕ) (items new : List (Option ℕ)) (place : Option ℕ) → i < length types → items ≡ map (place_in name) (take i types) → place ≡ option_and_then (place_in name) (slice_get types i) → new ≡ items ++ place ∷ [] → new ≡ map (place_in name) (take (i + 1) types)
next_place name types i items new place l e f g = rw (add-one i) (g ∙ (ap (λ ps. ps ++ place ∷ []) e ∙ (ap (λ p. map (place_in name) (take i types) ++ p ∷ []) f ∙ sym (step name types i l))))

looked_up : {X : Type 0} (name : List ℕ) (get : ℕ → Option X) (types : List DeclaredType) (ty : ℕ) → option_and_then get (slice_index_or (map (place_in name) types) ty None) ≡ option_and_then (λ t. option_and_then get (place_in name t)) (slice_get types ty)
looked_up name get [] ty = refl
looked_up name get (t ∷ ts) zero = refl
looked_up name get (t ∷ ts) (suc ty) = looked_up name get ts ty

-- the value by the table is that of the attribute of the event's type
pub value_there : (schema : Declared) (name : List ℕ) (places : List (Option ℕ)) (event : Event) → places ≡ map (λ (t : DeclaredType). attr_index name t.attrs) schema.types → value_in places event ≡ option_and_then (λ (t : DeclaredType). option_and_then (λ i. slice_get event.values i) (attr_index name t.attrs)) (slice_get schema.types event.ty)
value_there schema name places event e = ap (λ ps. value_in ps event) e ∙ looked_up name (λ i. slice_get event.values i) schema.types event.ty
