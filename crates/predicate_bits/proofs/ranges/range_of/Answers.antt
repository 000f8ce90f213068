use Rattle.std.proofs.Common.{sym}
use Rattle.query_leaves.specs.Shapes.{test_holds, each_holds}
use Rattle.predicate_bits.proofs.Ranged.{asks_more, first_holds}
use Rattle.predicate_bits.proofs.ranges.range_of.Goals as goal

pub returns-in-Some : goal.returns-in-Some
returns-in-Some c =
    let t = c.in-Some.test.now in
    asks_more c.range_of_test.result (test_holds t) (each_holds c.args.tests.now) (first_holds c.args.tests.now t (sym c.in-Some.ensures.value)) c.range_of_test.ensures
