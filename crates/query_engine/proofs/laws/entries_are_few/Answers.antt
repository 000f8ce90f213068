use Rattle.query_engine.proofs.FewEntries.{entries_few}
use Rattle.query_engine.proofs.FewKeys.{keys_few}
use Rattle.query_engine.proofs.laws.entries_are_few.Goals as goal

pub returns-clause-entries : goal.returns-clause-entries
returns-clause-entries c = entries_few

pub returns-clause-keys : goal.returns-clause-keys
returns-clause-keys c schema q events query_state low stands recent have = keys_few schema q events query_state low stands recent have
