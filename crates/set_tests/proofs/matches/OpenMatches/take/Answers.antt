use Rattle.std.proofs.Common.{refl, ◌≡◌, ◌+◌, arith, subst, sym}
use Rattle.std.proofs.lemmas.Int.{ints}
use Rattle.cer_base.specs.declared.node.Stamp.{Stamp}
use Rattle.set_tests.specs.Ready.{IsReady}
use Rattle.set_tests.proofs.Ready.{step_ready, can_ready, later, ready_next}
use Rattle.set_tests.proofs.matches.OpenMatches.take.Goals as goal

pub prepare-requires-clause-in_step : goal.prepare-requires-clause-in_step
prepare-requires-clause-in_step g c = step_ready _ _ _ _ _ c.self.invariant (record { pos = c.self.inside.next; clock = c.of.result }) refl c.of.ensures

pub prepare-requires-clause-can : goal.prepare-requires-clause-can
prepare-requires-clause-can g c = can_ready _ _ _ _ _ c.self.invariant (record { pos = c.self.inside.next; clock = c.of.result }) refl c.of.ensures

pub invariant_of-self-2 : goal.invariant_of-self-2
invariant_of-self-2 g c =
    let stamp : Stamp = record { pos = c.self.inside.next; clock = c.of.result } in
    let r = c.self.invariant in
    let more : c.in-Some.next ≡ c.self.inside.next + 1 = omega (arith, c.checked_add.ensures) in
    let e = c.in_ok-staged.ensures in
    let after = later _ _ _ _ _ r stamp refl c.of.ensures in
    let stand = e.stands _ _ (omega (arith, ints)) after r.stand in
    subst (λ rows. IsReady c.self.inside.low c.prepare.new.lazy_dfa c.prepare.new.store.nodes rows c.in-Some.next) (sym c.commit.ensures) (ready_next _ _ _ _ _ r stamp refl c.of.ensures c.args.bits.now _ _ _ _ more c.prepare.ensures.grows stand)
