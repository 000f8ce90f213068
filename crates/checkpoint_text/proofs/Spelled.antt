-- The numbers that digits write.
use Rattle.std.proofs.Common.{◌≡◌, ℕ, ◌<◌, ◌≤◌, ◌&&◌, Bool, true, false, cond, List, refl, sym, ap, ◌∙◌, Option, Some, None, arith}
use Rattle.std.specs.Prelude.{nat_le, MatchOption}
use Rattle.std.proofs.lemmas.Bool.{le-leb, leb-true}
use Rattle.cer_base.specs.Digits.{read_on}
use Rattle.checkpoint_text.specs.Numbers.{is_canonical_numeral, number}

chosen : (most n : ℕ) (r : Option ℕ) → MatchOption r (most < n) (λ x. (x ≡ n) × (x ≤ most)) → r ≡ cond (nat_le n most) (Some n) None
chosen most n None told = by_test (nat_le n most) refl
  where
    by_test : (t : Bool) → nat_le n most ≡ t → None ≡ cond t (Some n) None
    by_test true e = absurd (omega (arith, told, leb-true n most e))
    by_test false e = refl
chosen most n (Some x) told =
    let few : n ≤ most = omega (arith, told.0, told.1) in
    rw (le-leb n most few) (ap (λ m. Some m) told.0)

pub numbered : (most : ℕ) (digits : List ℕ) (r : Option ℕ) → is_canonical_numeral digits ≡ true → MatchOption r (most < read_on 0 digits) (λ x. (x ≡ read_on 0 digits) × (x ≤ most)) → r ≡ number most digits
numbered most digits r e told = chosen most (read_on 0 digits) r told ∙ sym (ap (λ t. cond (t && nat_le (read_on 0 digits) most) (Some (read_on 0 digits)) None) e)
