use Rattle.std.proofs.Common.{ℕ, ◌+◌, ◌-◌, ◌<◌, List, rules, length, take, sym, subst, slice_index_or, slice_set, arith}
use Rattle.std.proofs.lemmas.List.{take_all}
use Rattle.query_engine.specs.declared.times.Group.{Group}
use Rattle.query_engine.specs.Times.{AreMoved}
use Rattle.query_engine.proofs.GroupLoops.{number_inside, moved_none, moved_next}
use Rattle.query_engine.proofs.times.move_clocks.Goals as goal

pub loop-number-init : goal.loop-number-init
loop-number-init c = moved_none c.args.event.now c.args.position c.args.groups.now

pub overflow_sub-number : goal.overflow_sub-number
overflow_sub-number c = (number_inside c.args.event.now c.args.position c.args.groups.now c.args.numbers.now c.loop-number.number-index c.requires.inside c.loop-number-test.true).0

pub bounds-groups-number : goal.bounds-groups-number
bounds-groups-number c =
    let inside = (number_inside c.args.event.now c.args.position c.args.groups.now c.args.numbers.now c.loop-number.number-index c.requires.inside c.loop-number-test.true).1 in
    let same = c.loop-number.auto.groups in
    omega arith

pub offset_bounds-groups-number : goal.offset_bounds-groups-number
offset_bounds-groups-number c =
    let inside : slice_index_or c.args.numbers.now c.loop-number.number-index 0 - 1 < length c.loop-number.groups = (
    let inside = (number_inside c.args.event.now c.args.position c.args.groups.now c.args.numbers.now c.loop-number.number-index c.requires.inside c.loop-number-test.true).1 in
    let same = c.loop-number.auto.groups in
    omega arith
    ) in
    search rules

pub loop-number-preserved : goal.loop-number-preserved
loop-number-preserved c =
    let w = number_inside c.args.event.now c.args.position c.args.groups.now c.args.numbers.now c.loop-number.number-index c.requires.inside c.loop-number-test.true in
    let inside : slice_index_or c.args.numbers.now c.loop-number.number-index 0 - 1 < length c.loop-number.groups = (let inside = w.1 in let same = c.loop-number.auto.groups in omega arith) in
    subst (λ (g : Group). AreMoved c.args.event.now c.args.position (take (c.loop-number.number-index + 1) c.args.numbers.now) c.args.groups.now (slice_set c.loop-number.groups (slice_index_or c.args.numbers.now c.loop-number.number-index 0 - 1) g)) (sym c.take.ensures)
    (moved_next c.args.event.now c.args.position c.args.numbers.now c.loop-number.number-index c.args.groups.now c.loop-number.groups c.index-groups-number.result c.loop-number-test.true w.0 inside c.loop-number.invariant)

pub returns : goal.returns
returns c = subst (λ (ns : List ℕ). AreMoved c.args.event.now c.args.position ns c.args.groups.now c.loop-number.groups) (take_all c.loop-number.number-index c.args.numbers.now c.loop-number-test.false) c.loop-number.invariant
