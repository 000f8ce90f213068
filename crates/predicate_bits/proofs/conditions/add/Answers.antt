use Rattle.std.proofs.Common.{sym, subst, ◌∙◌, ◌+◌, length, slice_index_or}
use Rattle.std.proofs.lemmas.List.{get_or_default}
use Rattle.predicate_bits.proofs.Filled.{IsFilledUpTo, within_list, within_room, bit_at, filled_more, filled_past, filled_all}
use Rattle.predicate_bits.proofs.conditions.add.Goals.{then-holds_at, else-holds_at}
use Rattle.predicate_bits.proofs.conditions.add.Goals as goal

pub holds_at-requires-clause-inside : goal.holds_at-requires-clause-inside
holds_at-requires-clause-inside c =
    within_list c.args.list.now c.args.event.now.ty c.args.numbers.now c.loop-number.number-index (slice_index_or c.args.numbers.now c.loop-number.number-index 0) c.requires.group c.loop-number-test.true
    (get_or_default c.args.numbers.now c.loop-number.number-index 0 (slice_index_or c.args.numbers.now c.loop-number.number-index 0) c.loop-number-test.true)

pub insert-requires : goal.insert-requires
insert-requires c =
    within_room (length c.args.list.now) (slice_index_or c.args.numbers.now c.loop-number.number-index 0) c.loop-number.into (within_list c.args.list.now c.args.event.now.ty c.args.numbers.now c.loop-number.number-index (slice_index_or c.args.numbers.now c.loop-number.number-index 0) c.requires.group c.loop-number-test.true
    (get_or_default c.args.numbers.now c.loop-number.number-index 0 (slice_index_or c.args.numbers.now c.loop-number.number-index 0) c.loop-number-test.true)) c.loop-number.invariant.room

pub loop-number-preserved : goal.loop-number-preserved
loop-number-preserved c =
    let n = slice_index_or c.args.numbers.now c.loop-number.number-index 0 in
    let read = get_or_default c.args.numbers.now c.loop-number.number-index 0 n c.loop-number-test.true in
    let bit = bit_at c.args.list.now c.args.event.now c.args.numbers.now c.loop-number.number-index n c.holds_at.result c.requires.group c.loop-number-test.true read c.holds_at.ensures in
    elim c.if-holds_at.branch [
      | then-holds_at w ↦ subst (λ s. IsFilledUpTo (c.loop-number.number-index + 1) c.args.list.now c.args.event.now c.args.numbers.now s) (sym w.into-is) (filled_more c.loop-number.number-index c.args.list.now c.args.event.now c.args.numbers.now c.loop-number.into w.insert.new.self n c.loop-number.invariant c.loop-number-test.true read (bit ∙ w.if-holds_at.true) w.insert.ensures.members w.insert.ensures.room)
      | else-holds_at w ↦ subst (λ s. IsFilledUpTo (c.loop-number.number-index + 1) c.args.list.now c.args.event.now c.args.numbers.now s) (sym w.into-is) (filled_past c.loop-number.number-index c.args.list.now c.args.event.now c.args.numbers.now c.loop-number.into n c.loop-number.invariant c.loop-number-test.true read (bit ∙ w.if-holds_at.false))
    ]

pub returns-clause-members : goal.returns-clause-members
returns-clause-members c = filled_all c.loop-number.number-index c.args.list.now c.args.event.now c.args.numbers.now c.loop-number.into c.requires.group c.loop-number.invariant c.loop-number-test.false
