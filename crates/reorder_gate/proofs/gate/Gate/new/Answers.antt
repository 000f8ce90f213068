use Rattle.reorder_gate.proofs.Tables.{table_tells}
use Rattle.reorder_gate.proofs.gate.Gate.new.Goals as goal

pub returns-clause-clock : goal.returns-clause-clock
returns-clause-clock c = table_tells c.args.schema.now c.args.clock.now c.in_ok-places_of.field-0.items c.in_ok-places_of.ensures
