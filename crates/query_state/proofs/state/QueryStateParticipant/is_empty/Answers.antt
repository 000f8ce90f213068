use Rattle.query_state.proofs.AfterNoOps.{query_state_is_empty}
use Rattle.query_state.proofs.state.QueryStateParticipant.is_empty.Goals as goal

pub returns : goal.returns
returns c known =
    query_state_is_empty c.self.inside.schema.value c.self.inside.query c.self.inside.clock.source c.self.inside.step c.self.inside.ready c.self.inside.sizes c.self.inside.matches c.self.inside.here c.self.inside.upto c.args.self.now c.self.view_is c.self.invariant.0.clocks c.self.invariant.0.clock (c.is_empty.ensures known)
