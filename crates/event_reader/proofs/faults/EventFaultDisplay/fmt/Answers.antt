use Rattle.std.proofs.Common.{append_assoc}
use Rattle.std.proofs.Output.{has_written_of_eq}
use Rattle.event_reader.proofs.faults.EventFaultDisplay.fmt.Goals as goal

pub returns-in-FieldCount-clause-writes : goal.returns-in-FieldCount-clause-writes
returns-in-FieldCount-clause-writes g c =
    rw c.in-FieldCount.is (λ plain ok. has_written_of_eq _ _ _ _ _ (simp append_assoc) (c.write-in-FieldCount.ensures.writes plain ok))

pub returns-in-TooLate-clause-writes : goal.returns-in-TooLate-clause-writes
returns-in-TooLate-clause-writes g c =
    rw c.in-TooLate.is (λ plain ok. has_written_of_eq _ _ _ _ _ (simp append_assoc) (c.write-in-TooLate.ensures.writes plain ok))
