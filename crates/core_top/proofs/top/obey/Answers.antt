use Rattle.std.proofs.Common.{refl, inl, inr, map, string_bytes}
use Rattle.command_base.specs.declared.Cause.TheVariants as cause
use Rattle.command_base.proofs.StepClauses.{early_steps}
use Rattle.command_words.proofs.ForCallers.{resume_has_bound}
use Rattle.core_top.specs.Jobs.{running, reordering, explaining, playing, resuming, saving}
use Rattle.core_top.specs.StepCounts.{steps_of}
use Rattle.core_top.specs.Calls.{ran, sampled, refused, unread}
use Rattle.core_top.proofs.Words.{no_job_and_sample}
use Rattle.core_top.proofs.TopClauses.{job_steps, never_counted, left_asked, early_left, never_left}
use Rattle.core_top.proofs.top.obey.Goals as goal

pub resume-requires : goal.resume-requires
resume-requires g c = resume_has_bound _ _ (rw c.in-Ok-Resume.field-0-is at c.in-Ok-Resume.ensures.asks)

pub returns-in-Ok-Run-clause-finished : goal.returns-in-Ok-Run-clause-finished
returns-in-Ok-Run-clause-finished g c = ran (running _) (rw c.in-Ok-Run.field-0-is at c.in-Ok-Run.ensures.asks) c.run.ensures.ended

pub returns-in-Ok-Run-clause-steps : goal.returns-in-Ok-Run-clause-steps
returns-in-Ok-Run-clause-steps g c = λ job asked.
    job_steps (map string_bytes c.args.words.now) (g.H.Host.content c.args.host.now) (running _) job c.run.result.cause (g.K.Sink.taken c.args.out.now) (g.K.Sink.taken c.run.new.out) c.args.steps.now c.run.new.steps (rw c.in-Ok-Run.field-0-is at c.in-Ok-Run.ensures.asks) asked c.run.ensures.steps

pub returns-in-Ok-Reorder-clause-finished : goal.returns-in-Ok-Reorder-clause-finished
returns-in-Ok-Reorder-clause-finished g c = ran (reordering _) (rw c.in-Ok-Reorder.field-0-is at c.in-Ok-Reorder.ensures.asks) c.reorder.ensures.ended

pub returns-in-Ok-Reorder-clause-steps : goal.returns-in-Ok-Reorder-clause-steps
returns-in-Ok-Reorder-clause-steps g c = λ job asked.
    job_steps (map string_bytes c.args.words.now) (g.H.Host.content c.args.host.now) (reordering _) job c.reorder.result.cause (g.K.Sink.taken c.args.out.now) (g.K.Sink.taken c.reorder.new.out) c.args.steps.now c.reorder.new.steps (rw c.in-Ok-Reorder.field-0-is at c.in-Ok-Reorder.ensures.asks) asked c.reorder.ensures.steps

pub returns-in-Ok-Explain-clause-finished : goal.returns-in-Ok-Explain-clause-finished
returns-in-Ok-Explain-clause-finished g c = ran (explaining _) (rw c.in-Ok-Explain.field-0-is at c.in-Ok-Explain.ensures.asks) c.explain.ensures.ended

pub returns-in-Ok-Explain-clause-steps : goal.returns-in-Ok-Explain-clause-steps
returns-in-Ok-Explain-clause-steps g c = λ job asked.
    job_steps (map string_bytes c.args.words.now) (g.H.Host.content c.args.host.now) (explaining _) job c.explain.result.cause (g.K.Sink.taken c.args.out.now) (g.K.Sink.taken c.explain.new.out) c.args.steps.now c.args.steps.now (rw c.in-Ok-Explain.field-0-is at c.in-Ok-Explain.ensures.asks) asked (never_counted _ _ _ _)

pub returns-in-Ok-Session-clause-finished : goal.returns-in-Ok-Session-clause-finished
returns-in-Ok-Session-clause-finished g c = ran (playing _) (rw c.in-Ok-Session.field-0-is at c.in-Ok-Session.ensures.asks) c.play.ensures.ended

pub returns-in-Ok-Session-clause-steps : goal.returns-in-Ok-Session-clause-steps
returns-in-Ok-Session-clause-steps g c = λ job asked.
    job_steps (map string_bytes c.args.words.now) (g.H.Host.content c.args.host.now) (playing _) job c.play.result.cause (g.K.Sink.taken c.args.out.now) (g.K.Sink.taken c.play.new.out) c.args.steps.now c.play.new.steps (rw c.in-Ok-Session.field-0-is at c.in-Ok-Session.ensures.asks) asked c.play.ensures.steps

pub returns-in-Ok-Resume-clause-finished : goal.returns-in-Ok-Resume-clause-finished
returns-in-Ok-Resume-clause-finished g c = ran (resuming _) (rw c.in-Ok-Resume.field-0-is at c.in-Ok-Resume.ensures.asks) c.resume.ensures.ended

pub returns-in-Ok-Resume-clause-steps : goal.returns-in-Ok-Resume-clause-steps
returns-in-Ok-Resume-clause-steps g c = λ job asked.
    job_steps (map string_bytes c.args.words.now) (g.H.Host.content c.args.host.now) (resuming _) job c.resume.result.cause (g.K.Sink.taken c.args.out.now) (g.K.Sink.taken c.resume.new.out) c.args.steps.now c.resume.new.steps (rw c.in-Ok-Resume.field-0-is at c.in-Ok-Resume.ensures.asks) asked c.resume.ensures.steps

pub returns-in-Ok-Save-clause-finished : goal.returns-in-Ok-Save-clause-finished
returns-in-Ok-Save-clause-finished g c = ran (saving _) (rw c.in-Ok-Save.field-0-is at c.in-Ok-Save.ensures.asks) c.save.ensures.ended

pub returns-in-Ok-Save-clause-steps : goal.returns-in-Ok-Save-clause-steps
returns-in-Ok-Save-clause-steps g c = λ job asked.
    job_steps (map string_bytes c.args.words.now) (g.H.Host.content c.args.host.now) (saving _) job c.save.result.cause (g.K.Sink.taken c.args.out.now) (g.K.Sink.taken c.save.new.out) c.args.steps.now c.args.steps.now (rw c.in-Ok-Save.field-0-is at c.in-Ok-Save.ensures.asks) asked (never_counted _ _ _ _)

pub returns-in-Ok-Sample-clause-finished : goal.returns-in-Ok-Sample-clause-finished
returns-in-Ok-Sample-clause-finished g c =
    sampled _ (rw c.in-Ok-Sample.field-0-is at c.in-Ok-Sample.ensures.asks) (record { stop = c.sample.ensures.ended; unopened = refl })

pub returns-in-Ok-Sample-clause-steps : goal.returns-in-Ok-Sample-clause-steps
returns-in-Ok-Sample-clause-steps g c = λ job asked. absurd (no_job_and_sample _ job _ asked (rw c.in-Ok-Sample.field-0-is at c.in-Ok-Sample.ensures.asks))

pub returns-in-Err-Memory-clause-finished : goal.returns-in-Err-Memory-clause-finished
returns-in-Err-Memory-clause-finished g c =
    unread c.of.ensures.cause (record { none = c.of.ensures.failed; wrote = refl; counts_writes = refl; unopened = refl })

pub returns-in-Err-Memory-clause-steps : goal.returns-in-Err-Memory-clause-steps
returns-in-Err-Memory-clause-steps g c = λ job asked. rw c.of.ensures.cause (early_steps (steps_of job (g.H.Host.content c.args.host.now)) cause.Memory (g.K.Sink.taken c.args.out.now) (g.K.Sink.taken c.args.out.now) c.args.steps.now tt)

pub returns-in-Err-Fault-clause-finished : goal.returns-in-Err-Fault-clause-finished
returns-in-Err-Fault-clause-finished g c =
    refused (rw c.in-Err-Fault.field-0-is at c.in-Err-Fault.ensures.nothing) c.of-in-Err-Fault.ensures.cause
    (record { none = c.of-in-Err-Fault.ensures.failed; wrote = refl; counts_writes = refl; unopened = refl })

pub returns-in-Err-Fault-clause-steps : goal.returns-in-Err-Fault-clause-steps
returns-in-Err-Fault-clause-steps g c = λ job asked. rw c.of-in-Err-Fault.ensures.cause (early_steps (steps_of job (g.H.Host.content c.args.host.now)) cause.Usage (g.K.Sink.taken c.args.out.now) (g.K.Sink.taken c.args.out.now) c.args.steps.now tt)

pub returns-in-Ok-Run-clause-left : goal.returns-in-Ok-Run-clause-left
returns-in-Ok-Run-clause-left g c = λ job asked. left_asked (map string_bytes c.args.words.now) (g.H.Host.content c.args.host.now) (running _) job c.run.result.cause c.run.result.left (rw c.in-Ok-Run.field-0-is at c.in-Ok-Run.ensures.asks) asked c.run.ensures.left

pub returns-in-Ok-Run-clause-none_left : goal.returns-in-Ok-Run-clause-none_left
returns-in-Ok-Run-clause-none_left g c = λ none. absurd (none (running _) (rw c.in-Ok-Run.field-0-is at c.in-Ok-Run.ensures.asks))

pub returns-in-Ok-Reorder-clause-left : goal.returns-in-Ok-Reorder-clause-left
returns-in-Ok-Reorder-clause-left g c = λ job asked. left_asked (map string_bytes c.args.words.now) (g.H.Host.content c.args.host.now) (reordering _) job c.reorder.result.cause c.reorder.result.left (rw c.in-Ok-Reorder.field-0-is at c.in-Ok-Reorder.ensures.asks) asked c.reorder.ensures.left

pub returns-in-Ok-Reorder-clause-none_left : goal.returns-in-Ok-Reorder-clause-none_left
returns-in-Ok-Reorder-clause-none_left g c = λ none. absurd (none (reordering _) (rw c.in-Ok-Reorder.field-0-is at c.in-Ok-Reorder.ensures.asks))

pub returns-in-Ok-Explain-clause-left : goal.returns-in-Ok-Explain-clause-left
returns-in-Ok-Explain-clause-left g c = λ job asked. left_asked (map string_bytes c.args.words.now) (g.H.Host.content c.args.host.now) (explaining _) job c.explain.result.cause c.explain.result.left (rw c.in-Ok-Explain.field-0-is at c.in-Ok-Explain.ensures.asks) asked (never_left _ _ c.explain.ensures.none_left)

pub returns-in-Ok-Session-clause-left : goal.returns-in-Ok-Session-clause-left
returns-in-Ok-Session-clause-left g c = λ job asked. left_asked (map string_bytes c.args.words.now) (g.H.Host.content c.args.host.now) (playing _) job c.play.result.cause c.play.result.left (rw c.in-Ok-Session.field-0-is at c.in-Ok-Session.ensures.asks) asked (never_left _ _ c.play.ensures.none_left)

pub returns-in-Ok-Resume-clause-left : goal.returns-in-Ok-Resume-clause-left
returns-in-Ok-Resume-clause-left g c = λ job asked. left_asked (map string_bytes c.args.words.now) (g.H.Host.content c.args.host.now) (resuming _) job c.resume.result.cause c.resume.result.left (rw c.in-Ok-Resume.field-0-is at c.in-Ok-Resume.ensures.asks) asked c.resume.ensures.left

pub returns-in-Ok-Resume-clause-none_left : goal.returns-in-Ok-Resume-clause-none_left
returns-in-Ok-Resume-clause-none_left g c = λ none. absurd (none (resuming _) (rw c.in-Ok-Resume.field-0-is at c.in-Ok-Resume.ensures.asks))

pub returns-in-Ok-Save-clause-left : goal.returns-in-Ok-Save-clause-left
returns-in-Ok-Save-clause-left g c = λ job asked. left_asked (map string_bytes c.args.words.now) (g.H.Host.content c.args.host.now) (saving _) job c.save.result.cause c.save.result.left (rw c.in-Ok-Save.field-0-is at c.in-Ok-Save.ensures.asks) asked (never_left _ _ c.save.ensures.none_left)

pub returns-in-Ok-Sample-clause-left : goal.returns-in-Ok-Sample-clause-left
returns-in-Ok-Sample-clause-left g c = λ job asked. absurd (no_job_and_sample _ job _ asked (rw c.in-Ok-Sample.field-0-is at c.in-Ok-Sample.ensures.asks))

pub returns-in-Err-Memory-clause-left : goal.returns-in-Err-Memory-clause-left
returns-in-Err-Memory-clause-left g c = λ job asked. early_left (g.H.Host.content c.args.host.now) job _ _ (inl c.of.ensures.cause) c.of.ensures.left

pub returns-in-Err-Fault-clause-left : goal.returns-in-Err-Fault-clause-left
returns-in-Err-Fault-clause-left g c = λ job asked. early_left (g.H.Host.content c.args.host.now) job _ _ (inr c.of-in-Err-Fault.ensures.cause) c.of-in-Err-Fault.ensures.left
