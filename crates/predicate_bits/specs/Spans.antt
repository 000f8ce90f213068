-- The values of an attribute as numbers, and what a test may come to over some of them.
use Rattle.std.specs.Prelude.{◌≡◌, ℕ, ℤ, pos, ◌≤ℤ◌, Bool, true, false, List, Some, slice_get, ⊤}
use Rattle.stream_schema.specs.declared.Event.{Event}
use Rattle.stream_schema.specs.declared.Kind.{Kind}
use Rattle.stream_schema.specs.declared.Kind.TheVariants as kind
use Rattle.stream_schema.specs.declared.Value.{Value}
use Rattle.stream_schema.specs.declared.Value.TheVariants as value
use Rattle.predicate_bits.specs.declared.spans.Span.{Span}
use Rattle.predicate_bits.specs.declared.spans.Outcome.{Outcome}
use Rattle.query_leaves.specs.Digests.{digest}

abbrev pub flag_number : Bool → ℤ
flag_number true = pos 1
flag_number false = pos 0

-- the value is of the kind, and the number is its
abbrev pub IsNumbered : Kind → Value → ℤ → Type 0
IsNumbered kind.Int (value.Int n) number = n ≡ number
IsNumbered kind.Text (value.Text t) number = pos (digest t) ≡ number
IsNumbered kind.Flag (value.Flag b) number = flag_number b ≡ number
IsNumbered (kind.Dec places) (value.Dec n own) number = (n ≡ number) × (places ≡ own)
IsNumbered _ _ number = ⊥

-- the value is of the span's kind, and its number is one of the span's
abbrev pub IsOf : Span → Value → Type 0
IsOf span v = (number : ℤ) × IsNumbered span.kind v number × (span.low ≤ℤ number) × (number ≤ℤ span.high)

-- the event's value at the place is one of the span
abbrev pub IsAt : ℕ → Span → Event → Type 0
IsAt place span event = (v : Value) × (slice_get event.values place ≡ Some v) × IsOf span v

-- the test may come to this
abbrev pub allows : Outcome → Bool → Bool
allows outcome true = outcome.may_hold
allows outcome false = outcome.may_fail

abbrev pub IsNumber : Value → Type 0
IsNumber (value.Int n) = ⊤
IsNumber (value.Dec n places) = ⊤
IsNumber _ = ⊥

-- two numbers with as many places, of which the first is not above the second
abbrev pub IsAtMost : Value → Value → Type 0
IsAtMost (value.Int a) (value.Int b) = a ≤ℤ b
IsAtMost (value.Dec a p) (value.Dec b q) = (a ≤ℤ b) × (p ≡ q)
IsAtMost _ _ = ⊥

-- a number from the first to the last
abbrev pub IsBetween : Value → Value → Value → Type 0
IsBetween first v last = IsAtMost first v × IsAtMost v last
