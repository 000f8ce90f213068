-- Where a key's attributes stand in the events of each type.
use Rattle.std.specs.Prelude.{◌≡◌, ℕ, ◌<◌, List, [], ◌∷◌, length, Option, Some, None, option_map, option_and_then, slice_get, slice_index_or}
use Rattle.stream_schema.specs.Types.{Declared}
use Rattle.stream_schema.specs.Names.{attr_at}
use Rattle.stream_schema.specs.declared.AttrAt.{AttrAt}
use Rattle.stream_schema.specs.declared.Event.{Event}
use Rattle.stream_schema.specs.declared.Value.{Value}
use Rattle.cel_terms.specs.declared.Name.{Name}
use Rattle.cel_terms.specs.declared.Query.{Query}

-- the places of the attributes among those of the type, where it has all
abbrev pub places_in : Declared → List Name → ℕ → Option (List ℕ)
places_in schema [] ty = Some []
places_in schema (n ∷ ns) ty = option_and_then (λ (at : AttrAt). option_map (λ ps. at.index ∷ ps) (places_in schema ns ty)) (attr_at schema ty n.text)

-- the values at the places, where all are there
abbrev pub values_there : List ℕ → List Value → Option (List Value)
values_there [] values = Some []
values_there (p ∷ ps) values = option_and_then (λ v. option_map (λ vs. v ∷ vs) (values_there ps values)) (slice_get values p)

-- the event's values at the places that its type has in the table
abbrev pub key_there : List (Option (List ℕ)) → Event → Option (List Value)
key_there table event = option_and_then (λ ps. values_there ps event.values) (slice_index_or table event.ty None)

-- the table tells for each type the places of the query's partition attributes
abbrev pub AreKeyPlaces : Declared → Query → List (Option (List ℕ)) → Type 0
AreKeyPlaces schema q table = (ty : ℕ) → ty < length schema.types → slice_index_or table ty None ≡ places_in schema q.partition ty
