use Rattle.std.proofs.Common.{[], ◌∷◌}
use Rattle.query_engine.proofs.DenseNodes.{dense_has_few, peaks_on}
use Rattle.query_engine.proofs.laws.peaks_follow_events.Goals as goal

pub returns-clause-few : goal.returns-clause-few
returns-clause-few c = dense_has_few

pub returns-clause-peaks : goal.returns-clause-peaks
returns-clause-peaks c = λ before old new events event same added dense peaks. peaks_on before old new events (event ∷ []) same event added dense peaks
