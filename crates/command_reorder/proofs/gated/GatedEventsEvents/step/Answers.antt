use Rattle.std.proofs.Common.{◌≡◌, ◌≤◌, ◌+◌, true, false, length, refl, sym, ◌∙◌, ap, subst, arith}
use Rattle.stream_schema.specs.Types.{Declared}
use Rattle.reorder_gate.specs.Gates as gates
use Rattle.reorder_gate.specs.Gates.{GateState}
use Rattle.command_reorder.specs.Gated.{feed_at, IsGateOf, AreOfSchema}
use Rattle.command_reorder.proofs.Gating.{feeds_same, takes_same, reads_same, feed_stays, goes_to, goes_falling, goes_wanting, ends_here, reads_line, reads_end, stops_at_line, finished_of, room_after_event, room_for_event, turns_after_event, goes_on_after_event, room_after_line, turns_after_line, room_after_end, turns_after_end}
use Rattle.command_reorder.proofs.gated.GatedEventsEvents.step.Goals as goal

-- AN EVENT GOES

pub give_event-requires-clause-of_schema : goal.give_event-requires-clause-of_schema
give_event-requires-clause-of_schema g c = (subst (AreOfSchema c.args.engine.now.schema) c.in-Some.ensures.taken c.requires.goes_on.of_schema).0

pub give_event-requires-clause-room : goal.give_event-requires-clause-room
give_event-requires-clause-room g c = room_for_event c.args.self.now (record c.args.self.now { gate = c.take.new.self }) (c.in-Some.line, c.in-Some.event) refl c.in-Some.ensures.taken _ c.requires.room

pub returns-in-Ok-clause-took : goal.returns-in-Ok-clause-took
returns-in-Ok-clause-took g c = λ earlier events stands.
    goes_to c.args.engine.now.schema c.args.engine.now.queries earlier c.args.self.now (record c.args.self.now { gate = c.take.new.self }) (c.in-Some.line, c.in-Some.event) refl c.in-Some.ensures.taken c.in-Some.ensures.history _ _ c.args.engine.now c.give_event.new.engine events refl (c.in-Ok.ensures.took events stands) c.in-Ok.ensures.added c.in-Ok.ensures.keys

pub returns-in-Ok-clause-lasts : goal.returns-in-Ok-clause-lasts
returns-in-Ok-clause-lasts g c = λ earlier. takes_same c.args.engine.now.schema c.args.engine.now.queries earlier c.args.self.now (record c.args.self.now { gate = c.take.new.self }) (feed_stays c.args.engine.now.schema c.args.engine.now.queries earlier c.args.self.now (record c.args.self.now { gate = c.take.new.self }) (c.in-Some.line, c.in-Some.event) refl c.in-Some.ensures.taken c.in-Some.ensures.history)

pub returns-in-Ok-clause-reads_on : goal.returns-in-Ok-clause-reads_on
returns-in-Ok-clause-reads_on g c = λ earlier left. reads_same c.args.engine.now.schema c.args.engine.now.queries earlier c.args.self.now (record c.args.self.now { gate = c.take.new.self }) (feed_stays c.args.engine.now.schema c.args.engine.now.queries earlier c.args.self.now (record c.args.self.now { gate = c.take.new.self }) (c.in-Some.line, c.in-Some.event) refl c.in-Some.ensures.taken c.in-Some.ensures.history) left

pub returns-in-Ok-clause-goes_on : goal.returns-in-Ok-clause-goes_on
returns-in-Ok-clause-goes_on g c = goes_on_after_event c.args.self.now (record c.args.self.now { gate = c.take.new.self }) (c.in-Some.line, c.in-Some.event) refl c.in-Some.ensures.taken _ _ c.give_event.ensures.same.0 c.requires.goes_on

pub returns-in-Ok-clause-room : goal.returns-in-Ok-clause-room
returns-in-Ok-clause-room g c = room_after_event c.args.self.now (record c.args.self.now { gate = c.take.new.self }) (c.in-Some.line, c.in-Some.event) refl c.in-Some.ensures.taken _ _ c.requires.room c.in-Ok.ensures.counted

pub returns-in-Ok-clause-turns : goal.returns-in-Ok-clause-turns
returns-in-Ok-clause-turns g c = turns_after_event c.args.self.now (record c.args.self.now { gate = c.take.new.self }) (c.in-Some.line, c.in-Some.event) refl c.in-Some.ensures.taken

pub returns-in-Ok-clause-some : goal.returns-in-Ok-clause-some
returns-in-Ok-clause-some g c = λ is. let more = c.in-Ok.ensures.counted in omega (arith, more)

pub returns-in-Some-clause-took : goal.returns-in-Some-clause-took
returns-in-Some-clause-took g c = λ earlier events stands.
    goes_falling c.args.engine.now.schema c.args.engine.now.queries earlier c.args.self.now (record c.args.self.now { gate = c.take.new.self }) (c.in-Some.line, c.in-Some.event) refl c.in-Some.ensures.taken c.in-Some.ensures.history _ c.give_event.new.engine events c.in-Err-Fault.fault ((rw c.in-Err-Fault.field-0-is at c.in-Err-Fault.ensures.took) events stands)

pub returns-in-Err-Memory-clause-wanting_steps : goal.returns-in-Err-Memory-clause-wanting_steps
returns-in-Err-Memory-clause-wanting_steps g c = λ earlier events stands.
    goes_wanting c.args.engine.now.schema c.args.engine.now.queries earlier c.args.self.now (record c.args.self.now { gate = c.take.new.self }) (c.in-Some.line, c.in-Some.event) refl c.in-Some.ensures.taken c.in-Some.ensures.history _ events _ _ ((rw c.in-Err-Memory.field-0-is at c.in-Err-Memory.ensures.wanting_steps) events stands)

-- THE END

pub returns-then-is_finished-clause-took : goal.returns-then-is_finished-clause-took
returns-then-is_finished-clause-took g c = λ earlier events stands. ends_here c.args.engine.now.schema c.args.engine.now.queries earlier c.args.self.now (record c.args.self.now { gate = c.take.new.self }) c.in-None.ensures.all (ap (λ (h : GateState). h.is_finished) (sym c.in-None.ensures.unchanged) ∙ (sym c.is_finished.ensures ∙ c.if-is_finished.true)) _ events

-- A LINE IS READ

-- a fact of the gate as it was, of the same gate once it let nothing go
of_gate : (P : GateState → Type 0) (old now : GateState) → now ≡ old → P old → P now
of_gate P old now is p = subst P (sym is) p

pub put_line-requires-clause-open : goal.put_line-requires-clause-open
put_line-requires-clause-open g c = c.requires.goes_on.is_open (ap (λ (h : GateState). h.is_finished) (sym c.in-None.ensures.unchanged) ∙ (sym c.is_finished.ensures ∙ c.if-is_finished.false))

pub put_line-requires-clause-going : goal.put_line-requires-clause-going
put_line-requires-clause-going g c = of_gate (λ h. h.is_finished ≡ false) c.args.self.now.gate c.take.new.self c.in-None.ensures.unchanged (ap (λ (h : GateState). h.is_finished) (sym c.in-None.ensures.unchanged) ∙ (sym c.is_finished.ensures ∙ c.if-is_finished.false))

pub put_line-requires-clause-of_schema : goal.put_line-requires-clause-of_schema
put_line-requires-clause-of_schema g c = of_gate (AreOfSchema c.schema.result.now) c.args.self.now.gate c.take.new.self c.in-None.ensures.unchanged (subst (λ (s : Declared). AreOfSchema s c.args.self.now.gate) (sym c.schema.ensures) c.requires.goes_on.of_schema)

pub returns-in-Ok-true-clause-took : goal.returns-in-Ok-true-clause-took
returns-in-Ok-true-clause-took g c = λ earlier events stands bytes.
    reads_line c.args.engine.now.schema c.args.engine.now.queries earlier c.args.self.now (record c.args.self.now { lines = c.put_line.new.lines; gate = c.put_line.new.gate }) c.in-None.ensures.all (ap (λ (h : GateState). h.is_finished) (sym c.in-None.ensures.unchanged) ∙ (sym c.is_finished.ensures ∙ c.if-is_finished.false)) c.put_line.ensures.going (feeds_same c.args.engine.now.schema c.args.engine.now.queries earlier c.args.self.now (record c.args.self.now { lines = c.put_line.new.lines; gate = c.put_line.new.gate }) (c.put_line.ensures.clock (feed_at c.args.self.now c.args.engine.now.schema) (of_gate (IsGateOf (feed_at c.args.self.now c.args.engine.now.schema)) c.args.self.now.gate c.take.new.self c.in-None.ensures.unchanged (record { clock = refl; late = refl }))) c.put_line.ensures.budget) _ _ events bytes
    (λ put gone at fed. (rw c.in-Ok-true.field-0-test at c.in-Ok-true.ensures.put) (feed_at c.args.self.now c.args.engine.now.schema) bytes put gone (of_gate (IsGateOf (feed_at c.args.self.now c.args.engine.now.schema)) c.args.self.now.gate c.take.new.self c.in-None.ensures.unchanged (record { clock = refl; late = refl })) (sym c.schema.ensures) refl (of_gate (λ h. gates.StandsFor h put gone) c.args.self.now.gate c.take.new.self c.in-None.ensures.unchanged at) fed)

pub returns-in-Ok-true-clause-lasts : goal.returns-in-Ok-true-clause-lasts
returns-in-Ok-true-clause-lasts g c = λ earlier. takes_same c.args.engine.now.schema c.args.engine.now.queries earlier c.args.self.now (record c.args.self.now { lines = c.put_line.new.lines; gate = c.put_line.new.gate }) (feeds_same c.args.engine.now.schema c.args.engine.now.queries earlier c.args.self.now (record c.args.self.now { lines = c.put_line.new.lines; gate = c.put_line.new.gate }) (c.put_line.ensures.clock (feed_at c.args.self.now c.args.engine.now.schema) (of_gate (IsGateOf (feed_at c.args.self.now c.args.engine.now.schema)) c.args.self.now.gate c.take.new.self c.in-None.ensures.unchanged (record { clock = refl; late = refl }))) c.put_line.ensures.budget)

pub returns-in-Ok-true-clause-reads_on : goal.returns-in-Ok-true-clause-reads_on
returns-in-Ok-true-clause-reads_on g c = λ earlier left. reads_same c.args.engine.now.schema c.args.engine.now.queries earlier c.args.self.now (record c.args.self.now { lines = c.put_line.new.lines; gate = c.put_line.new.gate }) (feeds_same c.args.engine.now.schema c.args.engine.now.queries earlier c.args.self.now (record c.args.self.now { lines = c.put_line.new.lines; gate = c.put_line.new.gate }) (c.put_line.ensures.clock (feed_at c.args.self.now c.args.engine.now.schema) (of_gate (IsGateOf (feed_at c.args.self.now c.args.engine.now.schema)) c.args.self.now.gate c.take.new.self c.in-None.ensures.unchanged (record { clock = refl; late = refl }))) c.put_line.ensures.budget) left

pub returns-in-Ok-true-clause-goes_on : goal.returns-in-Ok-true-clause-goes_on
returns-in-Ok-true-clause-goes_on g c = record {
  is_open = λ going. (rw c.in-Ok-true.field-0-test at c.in-Ok-true.ensures.room).1;
  of_schema = subst (λ (s : Declared). AreOfSchema s c.put_line.new.gate) c.schema.ensures c.put_line.ensures.of_schema;
}

pub returns-in-Ok-true-clause-room : goal.returns-in-Ok-true-clause-room
returns-in-Ok-true-clause-room g c = room_after_line c.args.self.now (record c.args.self.now { lines = c.put_line.new.lines; gate = c.put_line.new.gate }) _ c.requires.room (rw c.in-Ok-true.field-0-test at c.in-Ok-true.ensures.room).0 (subst (λ (h : GateState). length c.put_line.new.gate.events ≤ length h.events + 1) c.in-None.ensures.unchanged (rw c.in-Ok-true.field-0-test at c.in-Ok-true.ensures.room).2)

pub returns-in-Ok-true-clause-turns : goal.returns-in-Ok-true-clause-turns
returns-in-Ok-true-clause-turns g c = turns_after_line c.args.self.now (record c.args.self.now { lines = c.put_line.new.lines; gate = c.put_line.new.gate }) (rw c.in-Ok-true.field-0-test at c.in-Ok-true.ensures.room).0 (subst (λ (h : GateState). length c.put_line.new.gate.events ≤ length h.events + 1) c.in-None.ensures.unchanged (rw c.in-Ok-true.field-0-test at c.in-Ok-true.ensures.room).2) (ap (λ (h : GateState). h.is_finished) (sym c.in-None.ensures.unchanged) ∙ (sym c.is_finished.ensures ∙ c.if-is_finished.false)) c.put_line.ensures.going

pub returns-in-Ok-false-clause-took : goal.returns-in-Ok-false-clause-took
returns-in-Ok-false-clause-took g c = λ earlier events stands bytes.
    reads_end c.args.engine.now.schema c.args.engine.now.queries earlier c.args.self.now (record c.args.self.now { lines = c.put_line.new.lines; gate = c.finish.new.self }) c.in-None.ensures.all (ap (λ (h : GateState). h.is_finished) (sym c.in-None.ensures.unchanged) ∙ (sym c.is_finished.ensures ∙ c.if-is_finished.false)) (ap (λ (h : GateState). h.is_finished) c.finish.ensures.finished) (feeds_same c.args.engine.now.schema c.args.engine.now.queries earlier c.args.self.now (record c.args.self.now { lines = c.put_line.new.lines; gate = c.finish.new.self }) (finished_of (feed_at c.args.self.now c.args.engine.now.schema) c.put_line.new.gate c.finish.new.self c.finish.ensures.finished (c.put_line.ensures.clock (feed_at c.args.self.now c.args.engine.now.schema) (of_gate (IsGateOf (feed_at c.args.self.now c.args.engine.now.schema)) c.args.self.now.gate c.take.new.self c.in-None.ensures.unchanged (record { clock = refl; late = refl })))) c.put_line.ensures.budget) _ _ events bytes
    (λ put gone at fed. (rw c.in-Ok-false.field-0-test at c.in-Ok-false.ensures.put) (feed_at c.args.self.now c.args.engine.now.schema) bytes put gone (of_gate (IsGateOf (feed_at c.args.self.now c.args.engine.now.schema)) c.args.self.now.gate c.take.new.self c.in-None.ensures.unchanged (record { clock = refl; late = refl })) (sym c.schema.ensures) refl (of_gate (λ h. gates.StandsFor h put gone) c.args.self.now.gate c.take.new.self c.in-None.ensures.unchanged at) fed)
    (λ put gone at. c.finish.ensures.history put gone (subst (λ (h : GateState). gates.StandsFor h put gone) (sym c.in-None.ensures.unchanged ∙ sym (rw c.in-Ok-false.field-0-test at c.in-Ok-false.ensures.room).0) at))

pub returns-in-Ok-false-clause-lasts : goal.returns-in-Ok-false-clause-lasts
returns-in-Ok-false-clause-lasts g c = λ earlier. takes_same c.args.engine.now.schema c.args.engine.now.queries earlier c.args.self.now (record c.args.self.now { lines = c.put_line.new.lines; gate = c.finish.new.self }) (feeds_same c.args.engine.now.schema c.args.engine.now.queries earlier c.args.self.now (record c.args.self.now { lines = c.put_line.new.lines; gate = c.finish.new.self }) (finished_of (feed_at c.args.self.now c.args.engine.now.schema) c.put_line.new.gate c.finish.new.self c.finish.ensures.finished (c.put_line.ensures.clock (feed_at c.args.self.now c.args.engine.now.schema) (of_gate (IsGateOf (feed_at c.args.self.now c.args.engine.now.schema)) c.args.self.now.gate c.take.new.self c.in-None.ensures.unchanged (record { clock = refl; late = refl })))) c.put_line.ensures.budget)

pub returns-in-Ok-false-clause-reads_on : goal.returns-in-Ok-false-clause-reads_on
returns-in-Ok-false-clause-reads_on g c = λ earlier left. reads_same c.args.engine.now.schema c.args.engine.now.queries earlier c.args.self.now (record c.args.self.now { lines = c.put_line.new.lines; gate = c.finish.new.self }) (feeds_same c.args.engine.now.schema c.args.engine.now.queries earlier c.args.self.now (record c.args.self.now { lines = c.put_line.new.lines; gate = c.finish.new.self }) (finished_of (feed_at c.args.self.now c.args.engine.now.schema) c.put_line.new.gate c.finish.new.self c.finish.ensures.finished (c.put_line.ensures.clock (feed_at c.args.self.now c.args.engine.now.schema) (of_gate (IsGateOf (feed_at c.args.self.now c.args.engine.now.schema)) c.args.self.now.gate c.take.new.self c.in-None.ensures.unchanged (record { clock = refl; late = refl })))) c.put_line.ensures.budget) left

pub returns-in-Ok-false-clause-goes_on : goal.returns-in-Ok-false-clause-goes_on
returns-in-Ok-false-clause-goes_on g c = record {
  is_open = λ going. let finished = ap (λ (h : GateState). h.is_finished) c.finish.ensures.finished in absurd cc;
  of_schema = subst (λ (h : GateState). AreOfSchema c.args.engine.now.schema h) (sym c.finish.ensures.finished) (subst (λ (s : Declared). AreOfSchema s c.put_line.new.gate) c.schema.ensures c.put_line.ensures.of_schema);
}

pub returns-in-Ok-false-clause-room : goal.returns-in-Ok-false-clause-room
returns-in-Ok-false-clause-room g c = room_after_end c.args.self.now (record c.args.self.now { lines = c.put_line.new.lines; gate = c.finish.new.self }) _ c.requires.room (rw c.in-Ok-false.field-0-test at c.in-Ok-false.ensures.room).1 (subst (λ (h : GateState). c.finish.new.self ≡ record h { is_finished = true }) ((rw c.in-Ok-false.field-0-test at c.in-Ok-false.ensures.room).0 ∙ c.in-None.ensures.unchanged) c.finish.ensures.finished)

pub returns-in-Ok-false-clause-turns : goal.returns-in-Ok-false-clause-turns
returns-in-Ok-false-clause-turns g c = turns_after_end c.args.self.now (record c.args.self.now { lines = c.put_line.new.lines; gate = c.finish.new.self }) (rw c.in-Ok-false.field-0-test at c.in-Ok-false.ensures.room).1 (subst (λ (h : GateState). c.finish.new.self ≡ record h { is_finished = true }) ((rw c.in-Ok-false.field-0-test at c.in-Ok-false.ensures.room).0 ∙ c.in-None.ensures.unchanged) c.finish.ensures.finished) (ap (λ (h : GateState). h.is_finished) (sym c.in-None.ensures.unchanged) ∙ (sym c.is_finished.ensures ∙ c.if-is_finished.false))

pub returns-clause-took : goal.returns-clause-took
returns-clause-took g c = λ earlier events stands.
    stops_at_line c.args.engine.now.schema c.args.engine.now.queries earlier c.args.self.now (record c.args.self.now { lines = c.put_line.new.lines; gate = c.put_line.new.gate }) c.in-None.ensures.all (ap (λ (h : GateState). h.is_finished) (sym c.in-None.ensures.unchanged) ∙ (sym c.is_finished.ensures ∙ c.if-is_finished.false)) _ _ c.args.engine.now c.args.engine.now events c.in-Err.stop
    (λ bytes. λ put gone at fed. c.in-Err.ensures.put (feed_at c.args.self.now c.args.engine.now.schema) bytes put gone (of_gate (IsGateOf (feed_at c.args.self.now c.args.engine.now.schema)) c.args.self.now.gate c.take.new.self c.in-None.ensures.unchanged (record { clock = refl; late = refl })) (sym c.schema.ensures) refl (of_gate (λ h. gates.StandsFor h put gone) c.args.self.now.gate c.take.new.self c.in-None.ensures.unchanged at) fed)
