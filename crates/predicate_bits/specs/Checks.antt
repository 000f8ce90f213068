-- What is left to test of a leaf where an event has a number of the leaf's range.
use Rattle.std.specs.Prelude.{◌≡◌, ℤ, Bool, not, ◌&&◌, if◌then◌else◌, ℕ, List, length, Some, IfSome, slice_get}
use Rattle.std.specs.List.{list_all}
use Rattle.stream_schema.specs.declared.Event.{Event}
use Rattle.stream_schema.specs.declared.Value.TheVariants as value
use Rattle.query_leaves.specs.declared.Leaf.{Leaf}
use Rattle.query_leaves.specs.declared.Test.{Test, Cmp}
use Rattle.query_leaves.specs.Shapes.{test_holds, each_holds}
use Rattle.predicate_bits.specs.declared.ranges.Range.{Range}
use Rattle.predicate_bits.specs.declared.checks.Check.{Check}
use Rattle.predicate_bits.specs.declared.checks.Sieve.{Sieve}
use Rattle.predicate_bits.specs.Ranges.{IsIn, AsksFor}

-- the comparison holds, or does not where it is negated
abbrev pub check_holds : Check → Event → Bool
check_holds c event = if c.negated then not (test_holds (Cmp c.place c.op c.literal) event) else test_holds (Cmp c.place c.op c.literal) event

-- all of them do
abbrev pub all_checks_hold : List Check → Event → Bool
all_checks_hold cs event = list_all (λ c. check_holds c event) cs

-- Where the whole number at the range's place is in the range, the test holds exactly where the other does.
pub record ComesTo (range : Range) (holds other : Event → Bool) : Type 0 where
  pub same : (event : Event) (v : ℤ) → slice_get event.values range.place ≡ Some (value.Int v) → IsIn range v → holds event ≡ other event

-- the test and the checks that there were come to those that there are
abbrev pub Adds : Range → (Event → Bool) → List Check → List Check → Type 0
Adds range holds old new = ComesTo range (λ event. all_checks_hold old event && holds event) (all_checks_hold new)

-- The range is one that the tests ask for, and what they come to there are the checks, where these are known.
pub record IsSieve (tests : List Test) (sieve : Sieve) : Type 0 where
  pub asks : AsksFor sieve.range (each_holds tests)
  pub checks : IfSome sieve.checks (λ cs. ComesTo sieve.range (each_holds tests) (all_checks_hold cs.items))

-- each leaf has its own
pub record AreSieves (list : List Leaf) (sieves : List Sieve) : Type 0 where
  pub count : length sieves ≡ length list
  pub each : (k : ℕ) (l : Leaf) (s : Sieve) → slice_get list k ≡ Some l → slice_get sieves k ≡ Some s → IsSieve l.tests s
