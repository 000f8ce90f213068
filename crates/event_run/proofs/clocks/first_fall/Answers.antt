use Rattle.std.proofs.Common.{rules, refl, sym}
use Rattle.std.specs.Int.{w128}
use mir.Val.{SFits}
use Rattle.std.proofs.lemmas.Int.{to_z-of_z}
use Rattle.std.proofs.lemmas.Option.{slice_get_read}
use Rattle.std.proofs.lemmas.List.{drop_all}
use Rattle.event_run.proofs.Listed.{one_falls, all_passed}
use Rattle.event_run.proofs.clocks.first_fall.Goals as goal

pub returns-in-Some-clause-falls : goal.returns-in-Some-clause-falls
returns-in-Some-clause-falls c number =
    let before : SFits w128 c.in-Some.fall.before = search rules in
    let now : SFits w128 c.in-Some.fall.now = search rules in
    simp to_z-of_z (one_falls c.args.schema.now c.args.queries.now c.args.events.now c.args.event.now c.loop-k.k c.index-queries-k.result (record { before = c.in-Some.fall.before; now = c.in-Some.fall.now }) number
    (slice_get_read c.args.queries.now _ c.loop-k.k c.index-queries-k.result refl c.loop-k-test.true c.index-queries-k.is) (sym c.in-Some.ensures) c.loop-k.invariant)

pub returns-clause-none : goal.returns-clause-none
returns-clause-none c =
    all_passed c.args.schema.now c.args.queries.now c.args.events.now c.args.event.now c.loop-k.k (drop_all c.loop-k.k c.args.queries.now c.loop-k-test.false) c.loop-k.invariant
