use Rattle.std.proofs.Common.{arith}
use Rattle.command_reorder.proofs.FedLines.{event_put, event_late, held_with, held_length}
use Rattle.command_reorder.proofs.feeding.put_event.Goals as goal

pub returns-in-Ok-clause-put : goal.returns-in-Ok-clause-put
returns-in-Ok-clause-put c = λ f text put gone sits is stands.
    event_put f c.args.gate.now c.put.new.self c.args.line c.args.event text put gone _ sits stands is c.in-Ok.ensures.late (c.in-Ok.ensures.history put gone stands)

pub returns-in-Ok-clause-of_schema : goal.returns-in-Ok-clause-of_schema
returns-in-Ok-clause-of_schema c = held_with c.args.schema.now c.args.gate.now c.put.new.self (c.args.line, c.args.event) c.in-Ok.ensures.put c.requires.one_of_schema c.requires.of_schema

pub returns-in-Ok-clause-buffer : goal.returns-in-Ok-clause-buffer
returns-in-Ok-clause-buffer c =
    let buffer = held_length c.args.gate.now c.put.new.self (c.args.line, c.args.event) c.in-Ok.ensures.put in omega (arith, buffer)

pub returns-in-Err-Fault-clause-put : goal.returns-in-Err-Fault-clause-put
returns-in-Err-Fault-clause-put c = λ f text put gone sits is stands.
    rw c.late_fault.ensures (
    event_late (Unit {0}) f c.args.gate.now c.put.new.self c.args.line c.args.event text put gone c.in-Err-Fault.late sits stands is (rw c.in-Err-Fault.field-0-is at c.in-Err-Fault.ensures.refused))
