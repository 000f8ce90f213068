use Rattle.query_state.proofs.AfterNoOps.{query_state_is_dormant, told_pass}
use Rattle.query_state.proofs.state.QueryStateParticipant.is_dormant.Goals as goal

pub returns : goal.returns
returns c known =
    query_state_is_dormant c.self.inside.schema.value c.self.inside.query c.self.inside.clock.source c.self.inside.step c.self.inside.ready c.self.inside.sizes c.self.inside.matches c.self.inside.here c.self.inside.upto c.args.self.now c.self.view_is c.self.invariant.0.clocks c.self.invariant.0.clock (told_pass c.self.inside.query c.self.inside.matches c.self.inside.skip_insensitive c.self.invariant.3 (c.lets_pass.ensures known))
