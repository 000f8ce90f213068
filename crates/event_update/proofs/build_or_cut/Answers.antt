use Rattle.event_update.proofs.Within.{cut_same, cut_within}
use Rattle.event_update.proofs.build_or_cut.Goals as goal

pub returns-in-Err-clause-works : goal.returns-in-Err-clause-works
returns-in-Err-clause-works g c =
    record { staged = tt; refused = cut_same c.args.arrival.stamp _ _ _ _ c.build.ensures.within.grows c.len-len.ensures.count c.cut_to.ensures; within = cut_within c.args.arrival.stamp c.args.active.now.entries _ _ _ c.len-len.result _ _ c.requires.lists.store.well_formed c.build.ensures.within c.len-len.ensures.count c.cut_to.ensures; counted = tt; recent = tt }
