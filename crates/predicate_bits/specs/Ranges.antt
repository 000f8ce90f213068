-- The whole number that the tests of a leaf ask for, as a range.
use Rattle.std.specs.Prelude.{◌≡◌, ◌^◌, ℤ, pos, neg_ℤ, ◌≤ℤ◌, ◌<ℤ◌, Bool, true, Some, slice_get}
use Rattle.stream_schema.specs.declared.Event.{Event}
use Rattle.stream_schema.specs.declared.Value.TheVariants as value
use Rattle.predicate_bits.specs.declared.ranges.Range.{Range}

-- a number that an attribute may have
abbrev pub IsWide : ℤ → Type 0
IsWide v = (neg_ℤ (pos (2 ^ 63)) ≤ℤ v) × (v <ℤ pos (2 ^ 63))

abbrev pub IsIn : Range → ℤ → Type 0
IsIn r v = (r.low ≤ℤ v) × (v ≤ℤ r.high)

-- The number at the range's place that is in the range is in the new one, if the test holds of the event.
pub record Narrows (old new : Range) (holds : Event → Bool) : Type 0 where
  pub place : new.place ≡ old.place
  pub narrow : (event : Event) (v : ℤ) → IsWide v → holds event ≡ true → slice_get event.values old.place ≡ Some (value.Int v) → IsIn old v → IsIn new v

-- where the test holds, the whole number at the range's place, if there is one, is in the range
abbrev pub AsksFor : Range → (Event → Bool) → Type 0
AsksFor r holds = (event : Event) (v : ℤ) → IsWide v → holds event ≡ true → slice_get event.values r.place ≡ Some (value.Int v) → IsIn r v

-- the test holds where the whole number at the range's place is in the range
abbrev pub Settles : Range → (Event → Bool) → Type 0
Settles r holds = (event : Event) (v : ℤ) → slice_get event.values r.place ≡ Some (value.Int v) → IsIn r v → holds event ≡ true
