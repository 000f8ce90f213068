use Rattle.query_engine.proofs.FewNodes.{first_has_no_node, event_adds_few}
use Rattle.query_engine.proofs.laws.nodes_are_bounded.Goals as goal

pub returns-clause-first : goal.returns-clause-first
returns-clause-first c = first_has_no_node

pub returns-clause-event : goal.returns-clause-event
returns-clause-event c = event_adds_few
