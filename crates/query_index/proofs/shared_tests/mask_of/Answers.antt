use Rattle.std.proofs.Common.{◌<◌, ◌≤◌, List, sym, subst, length, take, IfSome, slice_index_or}
use Rattle.std.proofs.lemmas.List.{take_more, take_all}
use Rattle.query_leaves.specs.declared.Test.{Test, No}
use Rattle.query_index.specs.SharedTests.{IsTestAt, IsMask}
use Rattle.query_index.proofs.TestWords.{grown_not, grown_more, mask_none, mask_grown, mask_next}
use Rattle.query_index.proofs.shared_tests.mask_of.Goals as goal

pub loop-place-init : goal.loop-place-init
loop-place-init c = record { grown = grown_not c.args.shared.now.items; mask = mask_none c.args.shared.now.items }

pub loop-place-preserved : goal.loop-place-preserved
loop-place-preserved c =
    let tests = c.args.tests.now in
    let place = c.loop-place.place in
    let new = c.number_for.new.shared.items in
    let one = subst (λ o. IfSome o (λ k. IsTestAt new k (slice_index_or tests place No))) c.in-Some.is c.in_ok-number.ensures.number in
    record {
      grown = grown_more c.args.shared.now.items c.loop-place.shared.items new c.loop-place.invariant.grown c.in_ok-number.ensures.grown;
      mask = subst (IsMask new c.with_bit-mask.result) (sym (take_more tests place No (subst (λ (ts : List Test). place < length ts) c.as_slice-count.ensures.value c.loop-place-test.true)))
          (mask_next new c.loop-place.mask c.with_bit-mask.result c.in-Some.number (take place tests) (slice_index_or tests place No) c.with_bit-mask.ensures one
          (mask_grown c.loop-place.shared.items new c.loop-place.mask (take place tests) c.in_ok-number.ensures.grown c.loop-place.invariant.mask));
    }

pub returns-in-None-clause-grown : goal.returns-in-None-clause-grown
returns-in-None-clause-grown c = grown_more c.args.shared.now.items c.loop-place.shared.items c.number_for.new.shared.items c.loop-place.invariant.grown c.in_ok-number.ensures.grown

pub returns-clause-mask : goal.returns-clause-mask
returns-clause-mask c = subst (IsMask c.loop-place.shared.items c.loop-place.mask) (take_all c.loop-place.place c.args.tests.now (subst (λ (ts : List Test). length ts ≤ c.loop-place.place) c.as_slice-count.ensures.value c.loop-place-test.false)) c.loop-place.invariant.mask
