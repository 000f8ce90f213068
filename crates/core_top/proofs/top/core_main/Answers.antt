-- Each clause follows from how the call ended.
use Rattle.std.proofs.Common.{ap, sym, map, string_bytes}
use Rattle.core_top.proofs.TopClauses.{finished_as, noted_steps, silent_clause, counts_opens_clause, usage_clause, queries_clause, clock_clause, checkpoint_clause, event_clause, too_long_clause, open_clause, read_clause, write_clause, wrote_clause, sampled_clause, failed_clause, missing_clause, complete_clause, opens_clause, unopened_clause, counts_writes_clause, left_noted, none_noted}
use Rattle.core_top.proofs.Words.{job_as}
use Rattle.core_top.proofs.top.core_main.Goals as goal

pub returns-clause-usage : goal.returns-clause-usage
returns-clause-usage g c = usage_clause (finished_as _ _ _ _ _ _ _ _ _ _ _ _ _ (ap (map string_bytes) c.as_slice.ensures.value) c.done.ensures.cause c.done.ensures.failed c.noted.ensures.stop c.obey-stop.ensures.finished)

pub returns-clause-queries : goal.returns-clause-queries
returns-clause-queries g c = queries_clause (finished_as _ _ _ _ _ _ _ _ _ _ _ _ _ (ap (map string_bytes) c.as_slice.ensures.value) c.done.ensures.cause c.done.ensures.failed c.noted.ensures.stop c.obey-stop.ensures.finished)

pub returns-clause-clock : goal.returns-clause-clock
returns-clause-clock g c = clock_clause (finished_as _ _ _ _ _ _ _ _ _ _ _ _ _ (ap (map string_bytes) c.as_slice.ensures.value) c.done.ensures.cause c.done.ensures.failed c.noted.ensures.stop c.obey-stop.ensures.finished)

pub returns-clause-checkpoint : goal.returns-clause-checkpoint
returns-clause-checkpoint g c = checkpoint_clause (finished_as _ _ _ _ _ _ _ _ _ _ _ _ _ (ap (map string_bytes) c.as_slice.ensures.value) c.done.ensures.cause c.done.ensures.failed c.noted.ensures.stop c.obey-stop.ensures.finished)

pub returns-clause-event : goal.returns-clause-event
returns-clause-event g c = event_clause (finished_as _ _ _ _ _ _ _ _ _ _ _ _ _ (ap (map string_bytes) c.as_slice.ensures.value) c.done.ensures.cause c.done.ensures.failed c.noted.ensures.stop c.obey-stop.ensures.finished)

pub returns-clause-too_long : goal.returns-clause-too_long
returns-clause-too_long g c = too_long_clause (finished_as _ _ _ _ _ _ _ _ _ _ _ _ _ (ap (map string_bytes) c.as_slice.ensures.value) c.done.ensures.cause c.done.ensures.failed c.noted.ensures.stop c.obey-stop.ensures.finished)

pub returns-clause-open_fault : goal.returns-clause-open_fault
returns-clause-open_fault g c = open_clause (finished_as _ _ _ _ _ _ _ _ _ _ _ _ _ (ap (map string_bytes) c.as_slice.ensures.value) c.done.ensures.cause c.done.ensures.failed c.noted.ensures.stop c.obey-stop.ensures.finished)

pub returns-clause-read_fault : goal.returns-clause-read_fault
returns-clause-read_fault g c = read_clause (finished_as _ _ _ _ _ _ _ _ _ _ _ _ _ (ap (map string_bytes) c.as_slice.ensures.value) c.done.ensures.cause c.done.ensures.failed c.noted.ensures.stop c.obey-stop.ensures.finished)

pub returns-clause-write_fault : goal.returns-clause-write_fault
returns-clause-write_fault g c = write_clause (finished_as _ _ _ _ _ _ _ _ _ _ _ _ _ (ap (map string_bytes) c.as_slice.ensures.value) c.done.ensures.cause c.done.ensures.failed c.noted.ensures.stop c.obey-stop.ensures.finished)

pub returns-clause-wrote : goal.returns-clause-wrote
returns-clause-wrote g c = wrote_clause (finished_as _ _ _ _ _ _ _ _ _ _ _ _ _ (ap (map string_bytes) c.as_slice.ensures.value) c.done.ensures.cause c.done.ensures.failed c.noted.ensures.stop c.obey-stop.ensures.finished)

pub returns-clause-sampled : goal.returns-clause-sampled
returns-clause-sampled g c = sampled_clause (finished_as _ _ _ _ _ _ _ _ _ _ _ _ _ (ap (map string_bytes) c.as_slice.ensures.value) c.done.ensures.cause c.done.ensures.failed c.noted.ensures.stop c.obey-stop.ensures.finished)

pub returns-clause-failed : goal.returns-clause-failed
returns-clause-failed g c = failed_clause (finished_as _ _ _ _ _ _ _ _ _ _ _ _ _ (ap (map string_bytes) c.as_slice.ensures.value) c.done.ensures.cause c.done.ensures.failed c.noted.ensures.stop c.obey-stop.ensures.finished)

pub returns-clause-missing : goal.returns-clause-missing
returns-clause-missing g c = missing_clause (finished_as _ _ _ _ _ _ _ _ _ _ _ _ _ (ap (map string_bytes) c.as_slice.ensures.value) c.done.ensures.cause c.done.ensures.failed c.noted.ensures.stop c.obey-stop.ensures.finished)

pub returns-clause-complete : goal.returns-clause-complete
returns-clause-complete g c = complete_clause (finished_as _ _ _ _ _ _ _ _ _ _ _ _ _ (ap (map string_bytes) c.as_slice.ensures.value) c.done.ensures.cause c.done.ensures.failed c.noted.ensures.stop c.obey-stop.ensures.finished)

pub returns-clause-opens : goal.returns-clause-opens
returns-clause-opens g c = opens_clause (finished_as _ _ _ _ _ _ _ _ _ _ _ _ _ (ap (map string_bytes) c.as_slice.ensures.value) c.done.ensures.cause c.done.ensures.failed c.noted.ensures.stop c.obey-stop.ensures.finished)

pub returns-clause-unopened_sample : goal.returns-clause-unopened_sample
returns-clause-unopened_sample g c = unopened_clause (finished_as _ _ _ _ _ _ _ _ _ _ _ _ _ (ap (map string_bytes) c.as_slice.ensures.value) c.done.ensures.cause c.done.ensures.failed c.noted.ensures.stop c.obey-stop.ensures.finished)

pub returns-clause-counts_writes : goal.returns-clause-counts_writes
returns-clause-counts_writes g c = counts_writes_clause (finished_as _ _ _ _ _ _ _ _ _ _ _ _ _ (ap (map string_bytes) c.as_slice.ensures.value) c.done.ensures.cause c.done.ensures.failed c.noted.ensures.stop c.obey-stop.ensures.finished)

pub returns-clause-silent : goal.returns-clause-silent
returns-clause-silent g c = λ ask. (silent_clause (finished_as _ _ _ _ _ _ _ _ _ _ _ _ _ (ap (map string_bytes) c.as_slice.ensures.value) c.done.ensures.cause c.done.ensures.failed c.noted.ensures.stop c.obey-stop.ensures.finished) ask).0

pub returns-clause-unopened : goal.returns-clause-unopened
returns-clause-unopened g c = λ ask. (silent_clause (finished_as _ _ _ _ _ _ _ _ _ _ _ _ _ (ap (map string_bytes) c.as_slice.ensures.value) c.done.ensures.cause c.done.ensures.failed c.noted.ensures.stop c.obey-stop.ensures.finished) ask).1

pub returns-clause-counts_opens : goal.returns-clause-counts_opens
returns-clause-counts_opens g c = counts_opens_clause (finished_as _ _ _ _ _ _ _ _ _ _ _ _ _ (ap (map string_bytes) c.as_slice.ensures.value) c.done.ensures.cause c.done.ensures.failed c.noted.ensures.stop c.obey-stop.ensures.finished) (λ same name. ap (λ h. g.H.Host.faults h name) same)

pub returns-clause-steps : goal.returns-clause-steps
returns-clause-steps g c = λ job asked.
    noted_steps (g.H.Host.content c.args.host.now) job c.obey-stop.result.cause c.noted.result.cause c.done.result.cause c.obey-stop.result.failed c.noted.result.failed (g.K.Sink.taken c.args.out.now) (g.K.Sink.taken c.obey-stop.new.out) c.args.steps.now c.obey-stop.new.steps
    c.done.ensures.cause c.noted.ensures.stop (c.obey-stop.ensures.steps job (job_as _ _ job (ap (map string_bytes) c.as_slice.ensures.value) asked))

pub returns-clause-left : goal.returns-clause-left
returns-clause-left g c = λ job asked.
    left_noted (g.H.Host.content c.args.host.now) job c.obey-stop.result.cause c.noted.result.cause c.done.result.cause c.obey-stop.result.left c.noted.result.left c.done.result.left c.done.ensures.cause c.done.ensures.left c.noted.ensures.left
    (c.obey-stop.ensures.left job (job_as _ _ job (ap (map string_bytes) c.as_slice.ensures.value) asked))

pub returns-clause-none_left : goal.returns-clause-none_left
returns-clause-none_left g c = λ none.
    none_noted c.obey-stop.result.left c.noted.result.left c.done.result.left c.noted.result.cause c.obey-stop.result.cause c.done.ensures.left c.noted.ensures.left
    (c.obey-stop.ensures.none_left (λ job asked. none job (job_as _ _ job (sym (ap (map string_bytes) c.as_slice.ensures.value)) asked)))
