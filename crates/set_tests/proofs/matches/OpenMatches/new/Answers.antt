use Rattle.std.proofs.Common.{ap, length}
use Rattle.set_tests.proofs.Ready.{ready_first}
use Rattle.set_tests.proofs.matches.OpenMatches.new.Goals as goal

pub invariant_of-result : goal.invariant_of-result
invariant_of-result c = ready_first c.args.low c.new.result c.new-2.result.nodes c.new-3.result.entries c.new-2.ensures.nodes (ap length c.new-3.ensures)
