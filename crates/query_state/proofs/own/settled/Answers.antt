use Rattle.std.proofs.Common.{subst}
use Rattle.query_state.specs.declared.own.Own.{Own}
use Rattle.query_state.specs.Own.{HasNumberThere, IsOwn}
use Rattle.query_state.proofs.own.settled.Goals as goal

pub are_recent-requires : goal.are_recent-requires
are_recent-requires c = subst (λ (o : Own). HasNumberThere o c.args.matches.now) c.in-Passes.is c.requires

pub returns-then-are_recent : goal.returns-then-are_recent
returns-then-are_recent c table event first bits skip_insensitive is = (subst (λ (o : Own). IsOwn o c.args.matches.now table event first bits skip_insensitive) c.in-Passes.is is).0

pub returns-else-are_recent : goal.returns-else-are_recent
returns-else-are_recent c table event first bits skip_insensitive is = (subst (λ (o : Own). IsOwn o c.args.matches.now table event first bits skip_insensitive) c.in-Passes.is is).1
