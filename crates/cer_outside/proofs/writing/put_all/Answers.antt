-- The loop goes on from a part to a longer part, and a fault stops it at a proper part.
use Rattle.std.proofs.Common.{ℕ, length, arith, ap, refl, ◌∙◌}
use Rattle.std.proofs.lemmas.List.{length-take, length-drop}
use Rattle.cer_outside.proofs.Parts.{took_nothing, took_more, took_part, took_all}
use Rattle.cer_outside.proofs.writing.put_all.Goals as goal

pub loop-done-init : goal.loop-done-init
loop-done-init g c = record {
  within = omega arith;
  took = took_nothing (g.K.Sink.taken c.args.sink.now);
  counted = refl;
  unasked = λ _. refl;
}

pub loop-done-preserved : goal.loop-done-preserved
loop-done-preserved g c = record {
  within = omega (arith, c.in-Ok.ensures.high, length-take {A = ℕ}, length-drop {A = ℕ});
  took = took_more _ _ _ _ c.args.bytes.now c.loop-done.done c.in-Ok.count c.loop-done.invariant.took c.in-Ok.ensures.bytes;
  counted = c.in-Ok.ensures.cause.well ∙ c.loop-done.invariant.counted;
  unasked = λ empty. absurd (omega (arith, ap length empty));
}

pub returns-in-Err-clause-part : goal.returns-in-Err-clause-part
returns-in-Err-clause-part g c =
    took_part _ _ _ c.args.bytes.now _ c.loop-done.done _ (omega arith) c.loop-done.invariant.took c.in-Err.ensures.bytes

pub returns-clause-all : goal.returns-clause-all
returns-clause-all g c = took_all _ _ c.args.bytes.now c.loop-done.done (omega arith) c.loop-done.invariant.took
