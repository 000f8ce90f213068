use Rattle.query_standing.proofs.QueryStates.{query_state_gives, kept_gives, query_state_unread, query_state_skips}
use Rattle.query_standing.proofs.QueryStateSteps.{query_state_no_key, query_state_dormant, query_state_keyed, query_state_with_key}
use Rattle.query_standing.proofs.FoundStates.{states_are_met}
use Rattle.query_standing.proofs.laws.kept_stands.Goals as goal

pub returns-clause-answers : goal.returns-clause-answers
returns-clause-answers c = query_state_gives

pub returns-clause-unread : goal.returns-clause-unread
returns-clause-unread c = query_state_unread

pub returns-clause-no_key : goal.returns-clause-no_key
returns-clause-no_key c = query_state_no_key

pub returns-clause-dormant : goal.returns-clause-dormant
returns-clause-dormant c = query_state_dormant

pub returns-clause-keyed : goal.returns-clause-keyed
returns-clause-keyed c = query_state_keyed

pub returns-clause-new_key : goal.returns-clause-new_key
returns-clause-new_key c = query_state_with_key

pub returns-clause-states : goal.returns-clause-states
returns-clause-states c = states_are_met

pub returns-clause-skips : goal.returns-clause-skips
returns-clause-skips c = query_state_skips

pub returns-clause-engine : goal.returns-clause-engine
returns-clause-engine c = kept_gives
