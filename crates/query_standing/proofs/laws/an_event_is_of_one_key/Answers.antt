use Rattle.query_standing.proofs.Growing.{seen_same, seen_more}
use Rattle.query_standing.proofs.laws.an_event_is_of_one_key.Goals as goal

pub returns-clause-others : goal.returns-clause-others
returns-clause-others c = seen_same

pub returns-clause-own : goal.returns-clause-own
returns-clause-own c = seen_more
