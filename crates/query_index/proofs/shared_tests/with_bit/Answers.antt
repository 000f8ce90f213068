use Rattle.query_index.proofs.TestWords.{bit_more}
use Rattle.query_index.proofs.shared_tests.with_bit.Goals as goal

pub returns : goal.returns
returns c = bit_more c.args.word c.args.number c.requires
