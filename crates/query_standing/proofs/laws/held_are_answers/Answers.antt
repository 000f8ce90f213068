use Rattle.query_standing.proofs.Link.{are_answers}
use Rattle.query_standing.proofs.Roots.{roots_give_answers}
use Rattle.query_standing.proofs.laws.held_are_answers.Goals as goal

pub returns-clause-plain : goal.returns-clause-plain
returns-clause-plain c schema q events end key now xs standing low rows given low_is holds = are_answers schema q events end key now xs given standing low low_is rows holds

pub returns-clause-nodes : goal.returns-clause-nodes
returns-clause-nodes c schema q events end key now xs table low nodes rows given low_is automaton strict stands = roots_give_answers schema q events end key now xs given table low nodes rows low_is automaton strict stands
