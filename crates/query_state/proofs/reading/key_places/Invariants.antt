use Rattle.std.proofs.Common.{◌≡◌, ℕ, ◌<◌, None, length, slice_index_or}
use Rattle.query_state.specs.KeyPlaces.{places_in}
use Rattle.query_state.proofs.reading.key_places.Given as goal

abbrev pub invariant-loop-ty : goal.invariant-loop-ty
invariant-loop-ty l = record {
  count : length l.table.items ≡ l.ty;
  told : (ty : ℕ) → ty < l.ty → slice_index_or l.table.items ty None ≡ places_in l.schema l.query.partition ty;
}
