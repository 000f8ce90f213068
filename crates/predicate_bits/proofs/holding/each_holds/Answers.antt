use Rattle.std.proofs.Common.{◌∙◌}
use Rattle.predicate_bits.proofs.Listed.{each_listed}
use Rattle.predicate_bits.proofs.holding.each_holds.Goals as goal

pub returns : goal.returns
returns c = c.all_hold_joined.ensures ∙ each_listed c.args.event.now c.args.tests.now
