use Rattle.query_standing.proofs.Giving.{query_state_removes}
use Rattle.query_standing.proofs.GivingOne.{given_none, given_more, given_one}
use Rattle.query_standing.proofs.laws.kept_removes.Goals as goal

pub returns-clause-stands : goal.returns-clause-stands
returns-clause-stands c = query_state_removes

pub returns-clause-none : goal.returns-clause-none
returns-clause-none c = given_none

pub returns-clause-more : goal.returns-clause-more
returns-clause-more c = given_more

pub returns-clause-one : goal.returns-clause-one
returns-clause-one c = given_one
