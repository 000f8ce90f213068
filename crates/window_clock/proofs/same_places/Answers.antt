use Rattle.window_clock.proofs.Places.{same_tables}
use Rattle.window_clock.proofs.same_places.Goals as goal

pub returns : goal.returns
returns c = same_tables c.args.one.now c.args.other.now c.eq.result c.eq.ensures
