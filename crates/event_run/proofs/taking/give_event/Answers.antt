use Rattle.event_run.proofs.taking.give_event.Goals as goal

pub returns-in-Ok-clause-took : goal.returns-in-Ok-clause-took
returns-in-Ok-clause-took g c = λ events stands. (c.in-Ok.ensures.stands events stands, c.in-Ok.ensures.in_time events stands)

pub returns-in-Err-Memory-clause-wanting_steps : goal.returns-in-Err-Memory-clause-wanting_steps
returns-in-Err-Memory-clause-wanting_steps g c = λ events stands. (
  (rw c.in-Err-Memory.field-0-is at c.in-Err-Memory.ensures.wanting_in_time) events stands,
  λ most meet. (rw c.in-Err-Memory.field-0-is at c.in-Err-Memory.ensures.wanting_steps) events most stands meet,
)
