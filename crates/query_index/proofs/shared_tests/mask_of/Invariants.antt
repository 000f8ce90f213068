use Rattle.std.proofs.Common.{take}
use Rattle.query_index.specs.SharedTests.{HaveGrown, IsMask}
use Rattle.query_index.proofs.shared_tests.mask_of.Given as goal

abbrev pub invariant-loop-place : goal.invariant-loop-place
invariant-loop-place l = record {
  grown : HaveGrown l.fn.shared.items l.shared.items;
  mask : IsMask l.shared.items l.mask (take l.place l.tests);
}
