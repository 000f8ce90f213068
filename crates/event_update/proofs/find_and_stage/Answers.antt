use Rattle.std.proofs.Common.{arith, ◌∷◌, List, Bool, subst}
use Rattle.event_update.specs.ActiveLists.{keys}
use Rattle.cea_determinise.proofs.EventClasses.{event_class_is, event_class_within}
use Rattle.event_update.specs.Prepared.{FindsWithin, IsPrepared}
use Rattle.event_update.proofs.EventClassAdded.{can_added, discovers_event_class}
use Rattle.event_update.proofs.Placing.{if_ok}
use Rattle.event_update.proofs.Prepares.{prepared_added, within_added}
use Rattle.event_update.proofs.Within.{found_within, since_within}
use Rattle.event_update.proofs.find_and_stage.Goals as goal

pub returns-in_err-event_class-clause-within : goal.returns-in_err-event_class-clause-within
returns-in_err-event_class-clause-within g c =
    let s = c.event_class.ensures.steps in
    found_within _ _ _ _ _ (discovers_event_class _ _ _ c.event_class.ensures.added (0 ∷ keys c.args.active.now) c.args.bits.now) _ c.requires.all.store.well_formed 0 _ _ (omega arith) (omega arith)

pub prepare_at-requires : goal.prepare_at-requires
prepare_at-requires g c = record {
  event_class = event_class_within c.event_class.new.self.event_classes c.in_ok-event_class.event_class c.args.bits.now c.in_ok-event_class.ensures.event_class;
  all = record { store = c.requires.all.store; lists = can_added _ _ _ c.event_class.ensures.added _ _ _ c.requires.all.lists };
}

pub returns-clause-prepares : goal.returns-clause-prepares
returns-clause-prepares g c =
    let t = c.event_class.new.self in
    let is = event_class_is t.event_classes c.in_ok-event_class.event_class c.args.bits.now c.in_ok-event_class.ensures.event_class in
    let one = c.event_class.ensures.steps in
    let p = c.prepare_at.ensures.prepares in
    record {
      prepared = if_ok c.prepare_at.result _ _ (λ s is_prepared. prepared_added _ _ _ c.event_class.ensures.added _ _ _ _ _ _ _ s (subst (λ (bs : List Bool). IsPrepared t c.prepare_at.new.lazy_dfa bs c.args.arrival.stamp c.args.arrival.low c.args.active.now.entries (g.S.NodeStore.nodes c.args.store.now) (g.S.NodeStore.nodes c.prepare_at.new.store) s) is is_prepared)) p.prepared;
      refused = p.refused;
      counted = if_ok c.prepare_at.result _ _ (λ s counted. omega (arith, one, counted)) p.counted;
      recent = p.recent;
    }

pub returns-clause-within : goal.returns-clause-within
returns-clause-within g c =
    let t = c.event_class.new.self in
    let is = event_class_is t.event_classes c.in_ok-event_class.event_class c.args.bits.now c.in_ok-event_class.ensures.event_class in
    let one = c.event_class.ensures.steps in
    within_added _ _ _ c.event_class.ensures.added _ _ _ _ _ _ _ _ (subst (λ (bs : List Bool). FindsWithin t c.prepare_at.new.lazy_dfa bs c.args.arrival.stamp c.args.active.now.entries (g.S.NodeStore.nodes c.args.store.now) (g.S.NodeStore.nodes c.prepare_at.new.store) c.args.steps.now c.prepare_at.new.steps) is (since_within _ _ _ _ _ _ _ _ _ _ _ c.prepare_at.ensures.within (omega arith)))
