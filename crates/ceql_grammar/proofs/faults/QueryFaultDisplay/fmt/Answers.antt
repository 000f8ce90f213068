use Rattle.std.proofs.Common.{◌++◌, codes, ap}
use Rattle.std.proofs.Output.{has_written_of_eq}
use Rattle.ceql_grammar.proofs.faults.QueryFaultDisplay.fmt.Goals as goal

pub returns-in-WindowKind-clause-writes : goal.returns-in-WindowKind-clause-writes
returns-in-WindowKind-clause-writes g c =
    rw c.in-WindowKind.is (λ plain ok. has_written_of_eq _ _ _ _ _ (ap (λ t. codes "window attribute " ++ (t ++ codes " is not INT in every type")) c.as_str-in-WindowKind.ensures) (c.write-in-WindowKind.ensures.writes plain ok))
