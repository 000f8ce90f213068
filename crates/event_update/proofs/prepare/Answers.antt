use Rattle.std.proofs.Common.{arith, subst, sym, ◌∷◌}
use Rattle.event_update.specs.ActiveLists.{keys}
use Rattle.cea_determinise.specs.LazyDfa.{Table}
use Rattle.event_update.specs.Update.{Discovers}
use Rattle.event_update.proofs.GivenBack.{discovers_none, states_more, pairs_more, event_classes_more, stay_so, back_so}
use Rattle.event_update.proofs.prepare.Goals as goal

pub find_and_stage-requires : goal.find_and_stage-requires
find_and_stage-requires g c = record { bits = c.requires.bits; all = record { store = record { well_formed = c.requires.well_formed; in_step = c.requires.in_step }; lists = c.requires.can } }

pub back-requires-clause-states : goal.back-requires-clause-states
back-requires-clause-states g c = let more = states_more _ _ _ _ c.find_and_stage.ensures.within.lazy_dfa in let same = c.sizes-sizes.ensures.states in omega arith

pub back-requires-clause-pairs : goal.back-requires-clause-pairs
back-requires-clause-pairs g c = let more = pairs_more _ _ _ _ c.find_and_stage.ensures.within.lazy_dfa in let same = c.sizes-sizes.ensures.pairs in omega arith

pub back-requires-clause-event_classes : goal.back-requires-clause-event_classes
back-requires-clause-event_classes g c = let more = event_classes_more _ _ _ _ c.find_and_stage.ensures.within.lazy_dfa in let same = c.sizes-sizes.ensures.event_classes in omega arith

pub back-requires-clause-within : goal.back-requires-clause-within
back-requires-clause-within g c = stay_so _ _ _ _ c.find_and_stage.ensures.within.lazy_dfa _ _ _ c.sizes-sizes.ensures.states c.sizes-sizes.ensures.pairs c.sizes-sizes.ensures.event_classes c.sizes-sizes.ensures.sound

pub returns-in-Err-clause-refused : goal.returns-in-Err-clause-refused
returns-in-Err-clause-refused g c = (c.in-Err.ensures.prepares.refused, back_so _ _ _ _ c.find_and_stage.ensures.within.lazy_dfa _ _ _ c.sizes-sizes.ensures.states c.sizes-sizes.ensures.pairs c.sizes-sizes.ensures.event_classes _ c.back.ensures)

pub returns-in-Err-clause-lazy_dfa : goal.returns-in-Err-clause-lazy_dfa
returns-in-Err-clause-lazy_dfa g c =
    let t = c.args.lazy_dfa.now in
    let ns = 0 ∷ keys c.args.active.now in
    let same = back_so _ _ _ _ c.find_and_stage.ensures.within.lazy_dfa _ _ _ c.sizes-sizes.ensures.states c.sizes-sizes.ensures.pairs c.sizes-sizes.ensures.event_classes _ c.back.ensures in
    subst (λ (u : Table). Discovers t ns c.args.bits.now u) (sym same) (discovers_none t ns c.args.bits.now)

pub returns-in-Err-clause-refused_steps : goal.returns-in-Err-clause-refused_steps
returns-in-Err-clause-refused_steps g c = record { found = c.find_and_stage.new.lazy_dfa; discovers = c.find_and_stage.ensures.within.lazy_dfa; sound = c.sizes-reached-in-Err.ensures.sound; distinct = c.found-found-in-Err.ensures.once; bounded = c.find_and_stage.ensures.within.steps }

pub returns-in-Ok-clause-refused_steps : goal.returns-in-Ok-clause-refused_steps
returns-in-Ok-clause-refused_steps g c = record { found = c.find_and_stage.new.lazy_dfa; discovers = c.find_and_stage.ensures.within.lazy_dfa; sound = c.sizes-reached.ensures.sound; distinct = c.found-found.ensures.once; bounded = c.find_and_stage.ensures.within.steps }

pub returns-in-Ok-clause-advanced : goal.returns-in-Ok-clause-advanced
returns-in-Ok-clause-advanced g c = c.in-Ok.ensures.prepares.prepared.advanced

pub returns-in-Ok-clause-stands : goal.returns-in-Ok-clause-stands
returns-in-Ok-clause-stands g c = c.in-Ok.ensures.prepares.prepared.stands

pub returns-in-Ok-clause-no_op : goal.returns-in-Ok-clause-no_op
returns-in-Ok-clause-no_op g c = c.in-Ok.ensures.prepares.prepared.no_op
