use Rattle.std.proofs.Common.{◌≡◌, [], length, All}
use Rattle.predicate_bits.proofs.groups.blank.Given as goal

abbrev pub invariant-loop-ty : goal.invariant-loop-ty
invariant-loop-ty l = record {
  count : length l.groups.items ≡ l._ty;
  empty : All (λ v. v.items ≡ []) l.groups.items;
}
