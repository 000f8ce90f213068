use Rattle.command_base.proofs.Texts.{answer_opened, first_as}
use Rattle.command_base.proofs.Ends.{queries_fault}
use Rattle.command_base.proofs.queries.read_accepted.Goals as goal

pub returns-in-Ok-accepted_of-clause-accepted : goal.returns-in-Ok-accepted_of-clause-accepted
returns-in-Ok-accepted_of-clause-accepted g c =
    answer_opened _ _ _ (first_as _ _ _ c.as_slice.ensures.value c.in-Ok.ensures.bytes) c.in-Ok-accepted_of.ensures.accepted

pub returns-clause-stop : goal.returns-clause-stop
returns-clause-stop g c =
    queries_fault _ _ _ _ _ _ _ _ _ _ c.of-in-Err-Fault.ensures.cause c.of-in-Err-Fault.ensures.failed c.of-in-Err-Fault.ensures.left c.in-Ok.ensures.counts
    (answer_opened _ _ _ (first_as _ _ _ c.as_slice.ensures.value c.in-Ok.ensures.bytes) (rw c.in-Err-Fault.field-0-is at c.in-Err-Fault.ensures.refused))
