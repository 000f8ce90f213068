use Rattle.std.proofs.Common.{arith}
use Rattle.query_index.proofs.TestWords.{none_met, one_met}
use Rattle.query_index.proofs.shared_tests.is_met.Goals as goal

pub returns-clause-met : goal.returns-clause-met
returns-clause-met c = none_met c.args.row.now.mask c.args.failing

pub returns-clause-not : goal.returns-clause-not
returns-clause-not c = one_met c.args.row.now.mask c.args.failing (omega (arith, c.ranges.failing))
