use Rattle.std.proofs.Common.{arith, length-take}
use Rattle.predicate_bits.proofs.Listed.{fewer_hold}
use Rattle.predicate_bits.proofs.outcomes.first_few.Goals as goal

pub slice_bounds-result-end : goal.slice_bounds-result-end
slice_bounds-result-end c = omega (arith, length-take 1024 c.args.tests.now, c.if-tests-le-MOST_TESTS.false)

pub returns : goal.returns
returns c = λ event fails. fewer_hold event 1024 c.args.tests.now fails
