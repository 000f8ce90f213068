use Rattle.query_engine.proofs.Windows.{first_follows_window, event_keeps_dense, event_keeps_window, compacted_follows_window}
use Rattle.query_engine.proofs.laws.nodes_follow_windows.Goals as goal

pub returns-clause-first : goal.returns-clause-first
returns-clause-first c = first_follows_window

pub returns-clause-dense : goal.returns-clause-dense
returns-clause-dense c = λ old new events event same stands added dense. event_keeps_dense old new events event same stands added dense

pub returns-clause-event : goal.returns-clause-event
returns-clause-event c = λ old new events event first inside same stands added window. event_keeps_window old new events event same stands added first inside window

pub returns-clause-compacted : goal.returns-clause-compacted
returns-clause-compacted c = compacted_follows_window
