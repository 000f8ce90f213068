-- How many steps a job takes.
use Rattle.std.specs.Prelude.{ℕ, List}
use Rattle.cer_outside.specs.Content.{Content}
use Rattle.command_base.specs.StepCounts.{Counts, none_counted}
use Rattle.command_base.specs.Answering.{answering_steps}
use Rattle.command_run.specs.Runs as run
use Rattle.command_reorder.specs.Reordered as late
use Rattle.command_session.specs.StepCounts.{session_steps}
use Rattle.command_checkpoint.specs.StepCounts.{resume_steps}
use Rattle.core_top.specs.Jobs.{Job, running, reordering, explaining, playing, resuming, saving}

-- over its files; an explanation takes none, nor does saving events
abbrev pub steps_of : Job → (List ℕ → Content) → Counts
steps_of (running r) = answering_steps (run.answers_of r)
steps_of (reordering w) = answering_steps (late.answers_of w)
steps_of (explaining x) = λ content. none_counted
steps_of (playing s) = session_steps s
steps_of (resuming r) = resume_steps r
steps_of (saving s) = λ content. none_counted
