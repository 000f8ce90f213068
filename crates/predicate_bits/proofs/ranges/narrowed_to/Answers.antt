use Rattle.std.proofs.Common.{◌≡◌, ℤ, ◌≤ℤ◌, true, refl, subst, rules}
use Rattle.std.specs.Int.{w64}
use mir.Val.{SFits, to_z, of_z}
use Rattle.std.proofs.lemmas.Int.{to_z-of_z}
use Rattle.stream_schema.specs.declared.Value.TheVariants as value
use Rattle.stream_schema.specs.Comparing.{value_meets}
use Rattle.query_leaves.specs.declared.Test.{Cmp}
use Rattle.predicate_bits.specs.Ranges.{IsWide}
use Rattle.predicate_bits.proofs.Ranged.{ends_moved}
use Rattle.predicate_bits.proofs.ranges.narrowed_to.Goals as goal

pub returns-else-place-range : goal.returns-else-place-range
returns-else-place-range c =
    let n = c.in-Int.number in
    let same : c.args.place ≡ c.args.range.now.place = search rules in
    let fits : SFits w64 n = search rules in
    let back : to_z w64 (of_z w64 n) ≡ n = to_z-of_z w64 n fits in
    let low : SFits w64 c.greater.result = search rules in
    let high : SFits w64 c.lesser.result = search rules in
    let least = subst (λ z. (v : ℤ) → IsWide v → value_meets c.args.op (value.Int v) (value.Int z) ≡ true → c.low_of.result ≤ℤ v) back c.low_of.ensures in
    let most = subst (λ z. (v : ℤ) → IsWide v → value_meets c.args.op (value.Int v) (value.Int z) ≡ true → v ≤ℤ c.high_of.result) back c.high_of.ensures in
    let was_low : SFits w64 c.args.range.now.low = search rules in
    let was_high : SFits w64 c.args.range.now.high = search rules in
    let from : SFits w64 c.low_of.result = search rules in
    let upto : SFits w64 c.high_of.result = search rules in
    let above =
    subst (λ z. (v : ℤ) → z ≤ℤ v → c.low_of.result ≤ℤ v → c.greater.result ≤ℤ v) (to_z-of_z w64 c.args.range.now.low was_low)
    (subst (λ z. (v : ℤ) → to_z w64 (of_z w64 c.args.range.now.low) ≤ℤ v → z ≤ℤ v → c.greater.result ≤ℤ v) (to_z-of_z w64 c.low_of.result from) c.greater.ensures) in
    let below =
    subst (λ z. (v : ℤ) → v ≤ℤ z → v ≤ℤ c.high_of.result → v ≤ℤ c.lesser.result) (to_z-of_z w64 c.args.range.now.high was_high)
    (subst (λ z. (v : ℤ) → v ≤ℤ to_z w64 (of_z w64 c.args.range.now.high) → v ≤ℤ z → v ≤ℤ c.lesser.result) (to_z-of_z w64 c.high_of.result upto) c.lesser.ensures) in
    simp to_z-of_z (ends_moved c.args.range.now (Cmp c.args.place c.args.op c.args.literal.now) c.args.place c.args.op c.args.literal.now n c.low_of.result c.high_of.result c.greater.result c.lesser.result refl c.in-Int.is same least most above below)
