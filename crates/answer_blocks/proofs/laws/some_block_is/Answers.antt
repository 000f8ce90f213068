-- The blocks of the answers that the definitions compute.
use Rattle.answer_blocks.proofs.Blocks.{some_block_is, some_blocks_are}
use Rattle.answer_blocks.proofs.laws.some_block_is.Goals as goal

pub returns-clause-query : goal.returns-clause-query
returns-clause-query c = some_block_is

pub returns-clause-position : goal.returns-clause-position
returns-clause-position c = some_blocks_are
