use Rattle.std.proofs.Common.{◌≡◌, ℕ, ◌<◌, List, length, get_or, arith, subst}
use Rattle.event_reader.specs.CommonLines.{IsNumeralUpTo}
use Rattle.event_reader.proofs.CommonNumbers.{all_digits_more, digit_told, room_for_all, room_for_more, spells_more, still_small}
use Rattle.event_reader.proofs.common.read_digits.Goals as goal

pub overflow_mul-size : goal.overflow_mul-size
overflow_mul-size c = omega (arith, room_for_more c.loop-i.i c.loop-i.size (omega (arith, c.loop-i-test.true, c.min-most.ensures)) c.loop-i.invariant.small)

pub overflow_add-size : goal.overflow_add-size
overflow_add-size c = omega (arith, c.if-digit-gt9.false, room_for_more c.loop-i.i c.loop-i.size (omega (arith, c.loop-i-test.true, c.min-most.ensures)) c.loop-i.invariant.small)

pub loop-i-preserved : goal.loop-i-preserved
loop-i-preserved c =
    let text : List ℕ = c.args.text.now in
    let within : c.loop-i.i < length text = omega (arith, c.loop-i-test.true, c.min-most.ensures) in
    let digit = digit_told (get_or text c.loop-i.i 0) (c.type_inv.text c.loop-i.i).fits c.if-digit-gt9.false in
    record {
      small = rw digit.1 (still_small (get_or text c.loop-i.i 0) c.loop-i.i c.loop-i.size digit.0 c.loop-i.invariant.small);
      are_digits = all_digits_more text c.loop-i.i within digit.0 c.loop-i.invariant.are_digits;
      spells = rw digit.1 (spells_more text c.loop-i.i c.loop-i.size within digit.0 c.loop-i.invariant.spells);
    }

pub returns-else-i-eq0 : goal.returns-else-i-eq0
returns-else-i-eq0 c = record {
  some = omega (arith, c.if-i-eq0.false);
  within = omega (arith, c.loop-i-test.true, c.min-most.ensures);
  are_digits = c.loop-i.invariant.are_digits;
  spells = c.loop-i.invariant.spells;
  small = room_for_all c.loop-i.i c.loop-i.size (omega (arith, c.loop-i-test.true, c.min-most.ensures)) c.loop-i.invariant.small;
}

pub returns-else-most-eq0 : goal.returns-else-most-eq0
returns-else-most-eq0 c =
    let all : c.loop-i.i ≡ c.min-most.result = omega (arith, c.loop-i-test.false, c.loop-i.auto.i-end) in
    subst (IsNumeralUpTo c.args.text.now c.loop-i.size) all (record {
      some = omega (arith, c.if-most-eq0.false, all);
      within = omega (arith, all, c.min-most.ensures);
      are_digits = c.loop-i.invariant.are_digits;
      spells = c.loop-i.invariant.spells;
      small = room_for_all c.loop-i.i c.loop-i.size (omega (arith, all, c.min-most.ensures)) c.loop-i.invariant.small;
    })
