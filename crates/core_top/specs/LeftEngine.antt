-- The engine that a job leaves.
use Rattle.std.specs.Prelude.{◌≡◌, ℕ, List, Option, None}
use Rattle.cer_outside.specs.Content.{Content}
use Rattle.query_engine.specs.Engine.{EngineState}
use Rattle.command_base.specs.Answering.{answering_leaves}
use Rattle.command_run.specs.Runs as run
use Rattle.command_reorder.specs.Reordered as late
use Rattle.command_checkpoint.specs.LeftEngine.{resume_leaves}
use Rattle.core_top.specs.Jobs.{Job, running, reordering, explaining, playing, resuming, saving}

-- over its files; an explanation, a session and what saves events leave none
abbrev pub leaves_of : Job → (List ℕ → Content) → Option EngineState → Type 0
leaves_of (running r) = answering_leaves (run.answers_of r)
leaves_of (reordering w) = answering_leaves (late.answers_of w)
leaves_of (explaining x) = λ content left. left ≡ None
leaves_of (playing s) = λ content left. left ≡ None
leaves_of (resuming r) = resume_leaves r
leaves_of (saving s) = λ content left. left ≡ None
