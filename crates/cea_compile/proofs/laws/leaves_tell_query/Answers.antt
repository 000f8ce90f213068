use Rattle.cea_compile.proofs.LeafAutomaton.{leaves_tell}
use Rattle.cea_compile.proofs.laws.leaves_tell_query.Goals as goal

pub returns : goal.returns
returns c = leaves_tell
