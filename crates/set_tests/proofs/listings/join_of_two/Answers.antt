use Rattle.std.proofs.Common.{arith}
use Rattle.set_tests.proofs.Made.{tree_there}
use Rattle.set_tests.proofs.listings.join_of_two.Goals as goal

pub returns-clause-tree : goal.returns-clause-tree
returns-clause-tree g c = tree_there _ _ _ 5 _ _ c.in_ok-ids.ensures.trees (omega arith) c.index.ensures c.root_of.ensures.id
