use Rattle.std.proofs.Common.{arith}
use Rattle.match_explain.proofs.Ascending.{ascending_from}
use Rattle.match_explain.proofs.spans.ascends.Goals as goal

pub returns-clause-yes : goal.returns-clause-yes
returns-clause-yes c = λ t. ascending_from c.args.positions.now (λ k less. c.loop-i.invariant k (omega arith))
