use Rattle.std.proofs.Common.{◌≡◌, ◌++◌, drop}
use Rattle.std.specs.Prelude.{option_map}
use Rattle.query_state.specs.KeyPlaces.{places_in}
use Rattle.query_state.proofs.reading.places_in.Given as goal

abbrev pub invariant-loop-name : goal.invariant-loop-name
invariant-loop-name l = option_map (λ ps. l.places.items ++ ps) (places_in l.schema (drop l.name-index l.names) l.ty) ≡ places_in l.schema l.names l.ty
