use Rattle.query_index.proofs.TestWords.{past_told}
use Rattle.query_index.proofs.shared_tests.put_row.Goals as goal

pub returns-in-Some-clause-past : goal.returns-in-Some-clause-past
returns-in-Some-clause-past c = past_told c.put_sharing.result c.args.leaves.now c.args.shared.now c.put_sharing.new.shared c.put_sharing.ensures.past
