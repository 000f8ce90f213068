-- What a range settles, test by test and leaf by leaf.
use Rattle.std.proofs.Common.{◌≡◌, refl, ℤ, Bool, true, false, Some, slice_get}
use Rattle.stream_schema.specs.declared.Event.{Event}
use Rattle.stream_schema.specs.declared.Value.TheVariants as value
use Rattle.predicate_bits.specs.declared.ranges.Range.{Range}
use Rattle.predicate_bits.specs.Ranges.{IsWide, IsIn, AsksFor}

not_true : (b : Bool) → (b ≡ true → ⊥) → b ≡ false
not_true false h = refl
not_true true h = absurd (h refl)

-- a number that is not in the range
pub outside : (r : Range) (event : Event) (holds : Event → Bool) (v : ℤ) → IsWide v → slice_get event.values r.place ≡ Some (value.Int v) → (IsIn r v → ⊥) → AsksFor r holds → holds event ≡ false
outside r event holds v wide at out asks = not_true (holds event) (λ h. out (asks event v wide h at))
