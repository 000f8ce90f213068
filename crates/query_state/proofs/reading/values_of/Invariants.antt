use Rattle.std.proofs.Common.{◌≡◌, ◌++◌, drop}
use Rattle.std.specs.Prelude.{option_map}
use Rattle.query_state.specs.KeyPlaces.{values_there}
use Rattle.query_state.proofs.reading.values_of.Given as goal

abbrev pub invariant-loop-place : goal.invariant-loop-place
invariant-loop-place l = option_map (λ vs. l.values.items ++ vs) (values_there (drop l.place-index l.places) l.event.values) ≡ values_there l.places l.event.values
