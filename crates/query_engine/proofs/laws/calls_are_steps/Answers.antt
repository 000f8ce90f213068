use Rattle.query_engine.proofs.EngineModel.{first_is_machine, event_is_step, refusal_is_step, want_is_step, cursor_is_step, pull_is_step, last_pull_is_step, drop_is_step, compaction_is_step}
use Rattle.query_engine.proofs.laws.calls_are_steps.Goals as goal

pub returns-clause-first : goal.returns-clause-first
returns-clause-first c = first_is_machine

pub returns-clause-event : goal.returns-clause-event
returns-clause-event c = event_is_step

pub returns-clause-refusal : goal.returns-clause-refusal
returns-clause-refusal c = refusal_is_step

pub returns-clause-want : goal.returns-clause-want
returns-clause-want c = want_is_step

pub returns-clause-cursor : goal.returns-clause-cursor
returns-clause-cursor c = cursor_is_step

pub returns-clause-pull : goal.returns-clause-pull
returns-clause-pull c = pull_is_step

pub returns-clause-last_pull : goal.returns-clause-last_pull
returns-clause-last_pull c = last_pull_is_step

pub returns-clause-drop : goal.returns-clause-drop
returns-clause-drop c = drop_is_step

pub returns-clause-compaction : goal.returns-clause-compaction
returns-clause-compaction c = compaction_is_step
