-- How a value compares with a literal, and which literals compare with which kinds.
use Rattle.std.specs.Prelude.{◌≡◌, ℕ, ◌^◌, ◌≤◌, Bool, true, false, not, ℤ, pos, ◌*ℤ◌, ⊤}
use Rattle.std.specs.declared.cmp.Ordering.{Ordering}
use Rattle.std.specs.Ordering.{nat_cmp, int_cmp, is_lt, is_gt, is_eq}
use Rattle.std.specs.Cmp.Lexicographic.{slice_cmp}
use Rattle.cer_base.specs.declared.limits.TheConstants.{MOST_PLACES}
use Rattle.stream_schema.specs.declared.Kind.{Kind}
use Rattle.stream_schema.specs.declared.Kind.TheVariants as kind
use Rattle.stream_schema.specs.declared.Op.{Op}
use Rattle.stream_schema.specs.declared.Op.TheVariants.{Eq, Ne, Lt, Le, Gt, Ge}
use Rattle.stream_schema.specs.declared.Value.{Value}
use Rattle.stream_schema.specs.declared.Value.TheVariants as value

-- two numbers by value, one of p places and one of q
abbrev pub number_cmp : ℤ → ℕ → ℤ → ℕ → Ordering
number_cmp a p b q = int_cmp (a *ℤ pos (10 ^ q)) (b *ℤ pos (10 ^ p))

abbrev pub meets : Op → Ordering → Bool
meets Eq o = is_eq o
meets Ne o = not (is_eq o)
meets Lt o = is_lt o
meets Le o = not (is_gt o)
meets Gt o = is_gt o
meets Ge o = not (is_lt o)

-- truth values have no order
abbrev pub flag_meets : Op → Bool → Bool → Bool
flag_meets Eq true b = b
flag_meets Eq false b = not b
flag_meets Ne true b = not b
flag_meets Ne false b = b
flag_meets _ a b = false

-- a value against a literal; of different kinds nothing holds, but numbers compare by value
abbrev pub value_meets : Op → Value → Value → Bool
value_meets op (value.Int a) (value.Int b) = meets op (number_cmp a 0 b 0)
value_meets op (value.Int a) (value.Dec b q) = meets op (number_cmp a 0 b q)
value_meets op (value.Dec a p) (value.Int b) = meets op (number_cmp a p b 0)
value_meets op (value.Dec a p) (value.Dec b q) = meets op (number_cmp a p b q)
value_meets op (value.Text a) (value.Text b) = meets op (slice_cmp nat_cmp a b)
value_meets op (value.Flag a) (value.Flag b) = flag_meets op a b
value_meets op _ _ = false

-- the kind of a literal
abbrev pub kind_of : Value → Kind
kind_of (value.Int n) = kind.Int
kind_of (value.Text t) = kind.Text
kind_of (value.Flag b) = kind.Flag
kind_of (value.Dec n places) = kind.Dec places

-- values of the two kinds may be compared: the kinds are one, or both are numbers
abbrev pub are_alike : Kind → Kind → Bool
are_alike kind.Int kind.Int = true
are_alike kind.Int (kind.Dec places) = true
are_alike (kind.Dec places) kind.Int = true
are_alike (kind.Dec places) (kind.Dec others) = true
are_alike kind.Text kind.Text = true
are_alike kind.Flag kind.Flag = true
are_alike _ _ = false

-- a literal and a kind that may be compared
abbrev pub AreComparable : Value → Kind → Type 0
AreComparable literal k = are_alike (kind_of literal) k ≡ true

-- truth values have no order
abbrev pub TakesLiteral : Op → Value → Type 0
TakesLiteral Eq _ = ⊤
TakesLiteral Ne _ = ⊤
TakesLiteral _ (value.Flag b) = ⊥
TakesLiteral _ _ = ⊤

-- no more decimal places than a decimal may have
abbrev pub HasFewPlaces : Value → Type 0
HasFewPlaces (value.Dec n places) = places ≤ MOST_PLACES
HasFewPlaces _ = ⊤

abbrev pub KindHasFewPlaces : Kind → Type 0
KindHasFewPlaces (kind.Dec places) = places ≤ MOST_PLACES
KindHasFewPlaces _ = ⊤
