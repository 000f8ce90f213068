use Rattle.std.proofs.Common.{◌≡◌, ◌≤ℤ◌, true, Some, slice_get, subst, rules}
use Rattle.std.specs.Int.{w64}
use mir.Val.{SFits}
use Rattle.std.proofs.lemmas.Int.{to_z-of_z}
use Rattle.predicate_bits.specs.Spans.{IsNumbered}
use Rattle.query_index.proofs.Indexed.{suffice_in}
use Rattle.query_index.proofs.index.rows_at.Goals as goal

pub returns : goal.returns
returns c = λ leaves is.
    let n = c.in_ok-number.number in
    let fits : SFits w64 n = search rules in
    let yes : c.has_number.result ≡ true = search rules in
    let both = c.has_number.ensures yes in
    let there : slice_get c.args.event.now.values c.args.index.now.place ≡ Some c.in_ok-value.value.now = search rules in
    let at : slice_get c.as_slice-buckets.result.now c.span_of.result ≡ Some c.in_ok-bucket.bucket.now = search rules in
    let numbered : IsNumbered c.args.index.now.kind c.in_ok-value.value.now n = search rules in
    suffice_in leaves c.args.index.now c.as_slice-buckets.result.now c.span_of.result c.in_ok-bucket.bucket.now c.args.event.now c.in_ok-value.value.now n c.as_slice-2.result.now is c.as_slice-buckets.ensures.value at there numbered
    (subst (λ z. c.in_ok-bucket.bucket.now.low ≤ℤ z) (to_z-of_z w64 n fits) both.0) (subst (λ z. z ≤ℤ c.in_ok-bucket.bucket.now.high) (to_z-of_z w64 n fits) both.1) c.as_slice-2.ensures.value
