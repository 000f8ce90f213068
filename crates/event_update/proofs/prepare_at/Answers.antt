use Rattle.std.proofs.Common.{arith, ◌∷◌}
use Rattle.event_update.specs.ActiveLists.{keys}
use Rattle.cea_determinise.specs.LazyDfa.{event_class_at}
use Rattle.event_update.proofs.GivenBack.{discovers_none}
use Rattle.event_update.proofs.Placing.{if_ok}
use Rattle.event_update.proofs.Prepares.{prepared_staged}
use Rattle.event_update.proofs.RowPlaced.{if_both}
use Rattle.event_update.proofs.Stays.{few_states}
use Rattle.event_update.proofs.Within.{built_within, since_within}
use Rattle.event_update.proofs.prepare_at.Goals as goal

pub returns-in-Some-clause-prepares : goal.returns-in-Some-clause-prepares
returns-in-Some-clause-prepares g c =
    let t = c.args.lazy_dfa.now in
    let few = few_states t c.args.active.now.entries c.len-len.ensures.unique c.requires.all.lists.states in
    let one = c.recall.ensures.steps in
    let each = c.tick_times.ensures in
    let long = c.len-len.ensures.len in
    let works = c.work_out.ensures.works in
    record {
      prepared = if_both c.work_out.result _ _ _ (λ s staged go. prepared_staged t t c.args.event_class c.requires.event_class c.args.arrival.stamp c.args.arrival.low _ _ c.requires.all.store.well_formed c.args.active.now.entries s c.in-Some.row.now.successors.items (discovers_none t (0 ∷ keys c.args.active.now) (event_class_at t.event_classes c.args.event_class)) c.in-Some.ensures.cached c.requires.all.lists few staged go) works.staged c.work_out.ensures.no_op;
      refused = works.refused;
      counted = if_ok c.work_out.result _ _ (λ s counted. omega (arith, one, each, long, counted)) works.counted;
      recent = works.recent;
    }

pub returns-in-Some-clause-within : goal.returns-in-Some-clause-within
returns-in-Some-clause-within g c =
    let t = c.args.lazy_dfa.now in
    let few = few_states t c.args.active.now.entries c.len-len.ensures.unique c.requires.all.lists.states in
    let one = c.recall.ensures.steps in
    let each = c.tick_times.ensures in
    let long = c.len-len.ensures.len in
    built_within t t (event_class_at t.event_classes c.args.event_class) c.args.arrival.stamp c.args.active.now.entries (discovers_none t (0 ∷ keys c.args.active.now) (event_class_at t.event_classes c.args.event_class)) _ _ _ _ _ _ c.work_out.ensures.works.within c.requires.all.lists.narrow few (omega arith)

pub returns-in-None-clause-prepares : goal.returns-in-None-clause-prepares
returns-in-None-clause-prepares g c =
    let one = c.recall.ensures.steps in
    let p = c.prepare_with.ensures.prepares in
    record { prepared = p.prepared; refused = p.refused; counted = if_ok c.prepare_with.result _ _ (λ s counted. omega (arith, one, counted)) p.counted; recent = p.recent }

pub returns-in-None-clause-within : goal.returns-in-None-clause-within
returns-in-None-clause-within g c =
    let one = c.recall.ensures.steps in
    since_within _ _ _ _ _ _ _ _ _ _ _ c.prepare_with.ensures.within (omega arith)
