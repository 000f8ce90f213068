use Rattle.std.proofs.Common.{get_or, arith}
use Rattle.std.proofs.lemmas.Option.{get_or_from_slice_get, slice_get-get_or}
use Rattle.arena_compact.specs.Roots.{Stays, Goes}
use Rattle.arena_compact.proofs.rows.move_row.Goals as goal

pub returns-then-not-move_list-clause-moved : goal.returns-then-not-move_list-clause-moved
returns-then-not-move_list-clause-moved g c = Goes (get_or c.args.rows.now c.args.k c.index-rows-k.result) _ (slice_get-get_or c.args.rows.now c.args.k c.index-rows-k.result c.requires.inside.1) ((c.move_list.ensures.old c.if-not-move_list.true))

pub returns-then-not-move_list-clause-steps : goal.returns-then-not-move_list-clause-steps
returns-then-not-move_list-clause-steps g c = λ r at.
    let same = get_or_from_slice_get c.args.rows.now c.args.k r c.index-rows-k.result at in
    let step = rw same at c.move_list.ensures.steps in omega arith

pub returns-clause-moved : goal.returns-clause-moved
returns-clause-moved g c = rw (c.swap.ensures.after) (Stays (get_or c.args.rows.now c.args.k c.index-rows-k.result) _ (slice_get-get_or c.args.rows.now c.args.k c.index-rows-k.result c.requires.inside.1) ((c.move_list.ensures.some c.if-not-move_list.false)) ((c.move_list.ensures.moved c.if-not-move_list.false)))

pub returns-clause-steps : goal.returns-clause-steps
returns-clause-steps g c = λ r at.
    let same = get_or_from_slice_get c.args.rows.now c.args.k r c.index-rows-k.result at in
    let step = rw same at c.move_list.ensures.steps in omega arith

pub returns-then-not-move_list-clause-counted : goal.returns-then-not-move_list-clause-counted
returns-then-not-move_list-clause-counted g c = λ r at.
    let same = get_or_from_slice_get c.args.rows.now c.args.k r c.index-rows-k.result at in
    (rw same at c.move_list.ensures.counted)

pub returns-clause-counted : goal.returns-clause-counted
returns-clause-counted g c = λ r at.
    let same = get_or_from_slice_get c.args.rows.now c.args.k r c.index-rows-k.result at in
    (rw same at c.move_list.ensures.counted)
