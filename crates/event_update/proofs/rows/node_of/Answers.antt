use Rattle.std.proofs.Common.{arith}
use Rattle.union_lists.proofs.Calls.{list_some}
use Rattle.event_update.proofs.Placing.{on_ok}
use Rattle.event_update.proofs.rows.node_of.Goals as goal

pub returns-in-None-clause-counted : goal.returns-in-None-clause-counted
returns-in-None-clause-counted g c =
    let some = list_some _ _ c.requires.is in
    on_ok c.merge.result _ _ (λ s. omega (arith, some, s)) c.merge.ensures.taken
