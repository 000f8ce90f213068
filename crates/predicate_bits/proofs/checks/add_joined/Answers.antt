use Rattle.predicate_bits.proofs.Checked.{adds_joined, taken_on}
use Rattle.predicate_bits.proofs.checks.add_joined.Goals as goal

pub returns-in-All : goal.returns-in-All
returns-in-All c = taken_on c.add_all.result (adds_joined c.args.range.now c.args.test.now c.in-All.joined c.as_slice.result.now c.args.checks.now.items c.add_all.new.checks.items c.in-All.is c.as_slice.ensures.value) c.add_all.ensures
