use Rattle.query_engine.proofs.Skipped.{blank_unread, skipping_is_steps, skipping_keeps_dense, skipping_keeps_window}
use Rattle.query_engine.proofs.laws.blanks_change_nothing.Goals as goal

pub returns-clause-unread : goal.returns-clause-unread
returns-clause-unread c = blank_unread

pub returns-clause-steps : goal.returns-clause-steps
returns-clause-steps c = skipping_is_steps

pub returns-clause-dense : goal.returns-clause-dense
returns-clause-dense c = λ old new events more same keeps dense. skipping_keeps_dense old new events more same keeps dense

pub returns-clause-window : goal.returns-clause-window
returns-clause-window c = λ old new events more first inside same keeps window. skipping_keeps_window old new events more same keeps first inside window
