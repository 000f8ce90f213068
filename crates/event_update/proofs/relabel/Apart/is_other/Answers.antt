use Rattle.std.proofs.Common.{arith, subst, ◌∙◌}
use Rattle.std.proofs.lemmas.Option.{slice_get-get_or}
use Rattle.event_update.specs.Update.{IsOther}
use Rattle.event_update.proofs.Cached.{take_all}
use Rattle.event_update.proofs.Moving.{other_next}
use Rattle.event_update.proofs.relabel.Apart.is_other.Goals as goal

pub loop-k-preserved : goal.loop-k-preserved
loop-k-preserved c = other_next c.args.state c.as_slice-states.result.now c.loop-k.k _ _ (omega arith) (slice_get-get_or c.as_slice-states.result.now c.loop-k.k 0 (omega (arith, c.loop-k-test.true))) c.if-states-k.false c.loop-k.invariant

pub returns : goal.returns
returns c true =
    let all = subst (IsOther c.args.state) (take_all c.as_slice-states.result.now c.loop-k.k (omega (arith, c.loop-k-test.false))) c.loop-k.invariant in
    subst (IsOther c.args.state) (c.as_slice-states.ensures.value ∙ c.self.view_is) all
