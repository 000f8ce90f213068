use Rattle.std.proofs.Common.{inr}
use Rattle.std.proofs.lemmas.Result.{IfOk-weaker, on_err_weaker}
use Rattle.query_state.specs.Matches.{HasBegun}
use Rattle.query_state.proofs.Cuts.{can_mid, mid_nodes, mid_bits}
use Rattle.query_state.proofs.matches.Matches.advance.Goals as goal

pub work-requires-clause-begun : goal.work-requires-clause-begun
work-requires-clause-begun g c = record { before = c.args.self.now; key = c.args.key.now; are = c.sizes.ensures.are; sound = c.sizes.ensures.sound; takes = c.in_ok-number.ensures.taken; numbered = c.in_ok-number.ensures.number }

pub work-requires-clause-event : goal.work-requires-clause-event
work-requires-clause-event g c =
    let taken = c.in_ok-number.ensures.taken in
    let nodes = mid_nodes c.args.self.now c.number.new.self c.args.key.now taken in
    record {
      well_formed = rw nodes c.requires.event.well_formed;
      in_step = rw nodes c.requires.event.in_step;
      bits_are = mid_bits c.args.bits.now c.args.self.now c.number.new.self c.args.key.now taken c.requires.event.bits_are;
      can = can_mid c.args.stamp c.args.self.now c.number.new.self c.args.key.now taken c.requires.event.can;
    }

pub returns-clause-ready : goal.returns-clause-ready
returns-clause-ready g c =
    let b : HasBegun c.sizes.result c.in_ok-number.number c.number.new.self = record { before = c.args.self.now; key = c.args.key.now; are = c.sizes.ensures.are; sound = c.sizes.ensures.sound; takes = c.in_ok-number.ensures.taken; numbered = c.in_ok-number.ensures.number } in
    IfOk-weaker c.work.result _ _ (λ r f. f b) c.work.ensures.ready

pub returns-clause-advanced : goal.returns-clause-advanced
returns-clause-advanced g c =
    let b : HasBegun c.sizes.result c.in_ok-number.number c.number.new.self = record { before = c.args.self.now; key = c.args.key.now; are = c.sizes.ensures.are; sound = c.sizes.ensures.sound; takes = c.in_ok-number.ensures.taken; numbered = c.in_ok-number.ensures.number } in
    record {
      sizes = IfOk-weaker c.work.result _ _ (λ r f. (f.0 b, f.1)) c.work.ensures.sizes;
      refused = on_err_weaker c.work.result (λ f. f b) c.work.ensures.refused;
      steps = c.work.ensures.steps;
    }

pub returns-clause-worked : goal.returns-clause-worked
returns-clause-worked g c =
    let b : HasBegun c.sizes.result c.in_ok-number.number c.number.new.self = record { before = c.args.self.now; key = c.args.key.now; are = c.sizes.ensures.are; sound = c.sizes.ensures.sound; takes = c.in_ok-number.ensures.taken; numbered = c.in_ok-number.ensures.number } in
    inr (c.work.ensures.worked b)
