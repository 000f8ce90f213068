use Rattle.std.proofs.Common.{arith, refl}
use Rattle.std.proofs.lemmas.Bool.{ne_eqb}
use Rattle.event_reader.proofs.QuotedRuns.{at_first, one_more_run, runs_end, none_behind}
use Rattle.event_reader.proofs.fields.keep_quoted.Goals as goal

pub loop-at-init : goal.loop-at-init
loop-at-init c = record { within = omega arith; walked = at_first c.args.text.now c.args.scratch.now.items c.requires }

pub loop-at-preserved : goal.loop-at-preserved
loop-at-preserved c = record {
  within = omega (arith, c.if-end-text.false);
  walked = one_more_run c.args.text.now c.loop-at.scratch.items c.keep.new.scratch.items c.loop-at.at c.max.result c.quote_at.result c.loop-at.invariant.walked c.loop-at-test.true c.if-text-at-eq-QUOTE.true
      (omega (arith, c.if-end-text.false)) c.quote_at.ensures.none c.quote_at.ensures.here c.max.ensures (c.if-not-keep.ensures refl);
}

pub returns-else-text-at-eq-QUOTE : goal.returns-else-text-at-eq-QUOTE
returns-else-text-at-eq-QUOTE c = runs_end c.args.text.now c.loop-at.scratch.items c.loop-at.at c.loop-at.invariant.within c.loop-at.invariant.walked (ne_eqb _ _ c.if-text-at-eq-QUOTE.false)

pub returns-after-loop-at : goal.returns-after-loop-at
returns-after-loop-at c =
    runs_end c.args.text.now c.loop-at.scratch.items c.loop-at.at c.loop-at.invariant.within c.loop-at.invariant.walked (none_behind c.args.text.now c.loop-at.at (omega (arith, c.loop-at-test.false)))
