-- A whole number of 128 bits as two halves of 64.
use Rattle.std.specs.Prelude.{ℕ, ◌+◌, ◌*◌, ◌/◌, ◌%◌, ◌^◌, ◌<◌, ℤ, ◌≡◌}
use Rattle.std.specs.Int.{w128, cast_signed, cast_unsigned}
use Rattle.std.proofs.lemmas.Int.{of_z-to_z}
use Rattle.std.proofs.lemmas.Nat.{mul-add-lt, shr_high, mod_low}
use Rattle.std.proofs.Math.Path.{ap, ap₂, ◌∙◌}
use Rattle.cer_base.specs.declared.time.LowTime.TheInside.{Inside}

-- the number whose bits are those of the halves, the high ones first
abbrev pub from_halves : Inside → ℤ
from_halves t = cast_signed w128 (t.high * 2 ^ 64 + t.low)

abbrev pub AreHalves : Inside → Type 0
AreHalves t = (t.high < 2 ^ 64) × (t.low < 2 ^ 64)

abbrev two : ℕ → ℕ → Inside
two high low = record { high = high; low = low }

abbrev pub halves : ℤ → Inside
halves z = two (cast_unsigned w128 z / 2 ^ 64) (cast_unsigned w128 z % 2 ^ 64)

pub halves-from_halves : (t : Inside) → AreHalves t → halves (from_halves t) ≡ t
halves-from_halves t h =
    let same = of_z-to_z w128 (t.high * 2 ^ 64 + t.low) (mul-add-lt t.high (2 ^ 64) t.low (2 ^ 64) h.0 h.1) in
    ap₂ two (ap (λ n. n / 2 ^ 64) same ∙ shr_high t.high 64 t.low h.1) (ap (λ n. n % 2 ^ 64) same ∙ mod_low t.high 64 t.low h.1)
