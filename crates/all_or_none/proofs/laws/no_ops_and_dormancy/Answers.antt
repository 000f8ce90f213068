use Rattle.all_or_none.proofs.Dormancy.{passes_by, quiet_is_dormant, none_is_empty}
use Rattle.all_or_none.proofs.laws.no_ops_and_dormancy.Goals as goal

pub returns-clause-pass : goal.returns-clause-pass
returns-clause-pass c = passes_by

pub returns-clause-rest : goal.returns-clause-rest
returns-clause-rest c = quiet_is_dormant

pub returns-clause-empty : goal.returns-clause-empty
returns-clause-empty c = none_is_empty
