-- When two values are one: of one kind, and equal. The contracts speak of equality alone.
use Rattle.std.specs.Prelude.{◌≡◌, refl, ℕ, Bool, true, false, ◌&&◌, ◌==◌, bytes_eq}
use Rattle.std.proofs.Common.{ap, ap₂, subst}
use Rattle.std.specs.Bool.{Decides}
use Rattle.std.specs.Ordering.{int_eq}
use Rattle.std.proofs.lemmas.Bool.{and_parts}
use Rattle.std.proofs.lemmas.Bool.Decides.{Decides-eqb, Decides-int_eq}
use Rattle.std.proofs.lemmas.Slice.Eq.{bytes_eq-Decides}
use Rattle.stream_schema.specs.declared.Value.{Value}
use Rattle.stream_schema.specs.declared.Value.TheVariants as value

abbrev pub same_flag : Bool → Bool → Bool
same_flag true b = b
same_flag false true = false
same_flag false false = true

-- two values of one kind, and equal
abbrev pub same_value : Value → Value → Bool
same_value (value.Int a) (value.Int b) = int_eq a b
same_value (value.Text a) (value.Text b) = bytes_eq a b
same_value (value.Flag a) (value.Flag b) = same_flag a b
same_value (value.Dec a p) (value.Dec b q) = int_eq a b && (p == q)
same_value _ _ = false

flag_from : (a b : Bool) → same_flag a b ≡ true → a ≡ b
flag_from true true e = refl
flag_from true false e = absurd cc
flag_from false true e = absurd cc
flag_from false false e = refl

flag_to : (a : Bool) → same_flag a a ≡ true
flag_to true = refl
flag_to false = refl

value_from : (a b : Value) → same_value a b ≡ true → a ≡ b
value_from (value.Int a) (value.Int b) e = ap value.Int ((Decides-int_eq a b).0 e)
value_from (value.Int a) (value.Text b) e = absurd cc
value_from (value.Int a) (value.Flag b) e = absurd cc
value_from (value.Int a) (value.Dec b q) e = absurd cc
value_from (value.Text a) (value.Int b) e = absurd cc
value_from (value.Text a) (value.Text b) e = ap value.Text ((bytes_eq-Decides a b).0 e)
value_from (value.Text a) (value.Flag b) e = absurd cc
value_from (value.Text a) (value.Dec b q) e = absurd cc
value_from (value.Flag a) (value.Int b) e = absurd cc
value_from (value.Flag a) (value.Text b) e = absurd cc
value_from (value.Flag a) (value.Flag b) e = ap value.Flag (flag_from a b e)
value_from (value.Flag a) (value.Dec b q) e = absurd cc
value_from (value.Dec a p) (value.Int b) e = absurd cc
value_from (value.Dec a p) (value.Text b) e = absurd cc
value_from (value.Dec a p) (value.Flag b) e = absurd cc
value_from (value.Dec a p) (value.Dec b q) e = let s = and_parts (int_eq a b) (p == q) e in ap₂ value.Dec ((Decides-int_eq a b).0 s.0) ((Decides-eqb p q).0 s.1)

both : (a b : Bool) → a ≡ true → b ≡ true → a && b ≡ true
both true b e f = f
both false b e f = e

value_to : (a : Value) → same_value a a ≡ true
value_to (value.Int a) = (Decides-int_eq a a).1 refl
value_to (value.Text a) = (bytes_eq-Decides a a).1 refl
value_to (value.Flag a) = flag_to a
value_to (value.Dec a p) = both (int_eq a a) (p == p) ((Decides-int_eq a a).1 refl) ((Decides-eqb p p).1 refl)

pub Decides-value : (a b : Value) → Decides (same_value a b) (a ≡ b)
Decides-value a b = (value_from a b, λ e. subst (λ z. same_value a z ≡ true) e (value_to a))
