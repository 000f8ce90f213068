use Rattle.std.proofs.Common.{◌∙◌, ◌-◌, ◌<◌, ℕ, List, length, sym, ap, subst, slice_index_or, rules}
use Rattle.std.proofs.lemmas.Bool.{false≢true}
use Rattle.std.proofs.lemmas.List.{take_all}
use Rattle.all_or_none.specs.Phases.{AreRising}
use Rattle.query_engine.specs.Times.{row_of, HaveClocksIn, IsFirstGroup, StayInTime}
use Rattle.query_engine.proofs.GroupLoops.{number_inside, clock_inside, stays_next, first_here}
use Rattle.query_engine.proofs.times.Times.first_fall.Goals as goal

pub loop-number-init : goal.loop-number-init
loop-number-init c = record {
  items = c.row_in-number-items.ensures ∙ ap (λ rows. row_of rows c.args.event.now.ty) c.as_slice.ensures.value;
  stay = λ n g among at. absurd (false≢true among);
}

pub overflow_sub-number : goal.overflow_sub-number
overflow_sub-number c =
    let inside = subst (HaveClocksIn c.args.event.now c.args.position c.args.self.now.groups.items) (sym c.loop-number.invariant.items) c.requires.inside in
    (number_inside c.args.event.now c.args.position c.args.self.now.groups.items c.row_in-number-items.result.now c.loop-number.number-index inside c.loop-number-test.true).0

pub index-requires : goal.index-requires
index-requires c =
    let inside = subst (HaveClocksIn c.args.event.now c.args.position c.args.self.now.groups.items) (sym c.loop-number.invariant.items) c.requires.inside in
    let there : slice_index_or c.row_in-number-items.result.now c.loop-number.number-index 0 - 1 < length c.args.self.now.groups.items = (number_inside c.args.event.now c.args.position c.args.self.now.groups.items c.row_in-number-items.result.now c.loop-number.number-index inside c.loop-number-test.true).1 in
    search rules

pub test-requires : goal.test-requires
test-requires c =
    let inside = subst (HaveClocksIn c.args.event.now c.args.position c.args.self.now.groups.items) (sym c.loop-number.invariant.items) c.requires.inside in
    record { there = clock_inside c.args.event.now c.args.position c.args.self.now.groups.items c.row_in-number-items.result.now c.loop-number.number-index c.index.result.now inside c.loop-number-test.true c.index.ensures }

pub returns-in-Some-clause-falls : goal.returns-in-Some-clause-falls
returns-in-Some-clause-falls c =
    let items = c.loop-number.invariant.items in
    let inside = subst (HaveClocksIn c.args.event.now c.args.position c.args.self.now.groups.items) (sym items) c.requires.inside in
    let there = (number_inside c.args.event.now c.args.position c.args.self.now.groups.items c.row_in-number-items.result.now c.loop-number.number-index inside c.loop-number-test.true).1 in
    subst (λ (ns : List ℕ). IsFirstGroup c.args.event.now c.args.position c.args.self.now.groups.items ns c.in-Some.fall) items
    (first_here c.args.event.now c.args.position c.args.self.now.groups.items c.row_in-number-items.result.now c.loop-number.number-index c.index.result.now c.in-Some.fall (subst AreRising (sym items) c.requires.rising) c.loop-number-test.true there c.index.ensures (record { query = c.in-Some.ensures.query; falls = c.in-Some.ensures.falls }) c.loop-number.invariant.stay)

pub loop-number-preserved : goal.loop-number-preserved
loop-number-preserved c =
    let inside = subst (HaveClocksIn c.args.event.now c.args.position c.args.self.now.groups.items) (sym c.loop-number.invariant.items) c.requires.inside in
    let there = (number_inside c.args.event.now c.args.position c.args.self.now.groups.items c.row_in-number-items.result.now c.loop-number.number-index inside c.loop-number-test.true).1 in
    record {
      items = c.loop-number.invariant.items;
      stay = stays_next c.args.event.now c.args.position c.args.self.now.groups.items c.row_in-number-items.result.now c.loop-number.number-index c.index.result.now c.loop-number-test.true there c.index.ensures c.in_default.ensures.in_time c.loop-number.invariant.stay;
    }

pub returns-clause-in_time : goal.returns-clause-in_time
returns-clause-in_time c =
    subst (StayInTime c.args.event.now c.args.position c.args.self.now.groups.items) (take_all c.loop-number.number-index c.row_in-number-items.result.now c.loop-number-test.false ∙ c.loop-number.invariant.items) c.loop-number.invariant.stay
