use Rattle.std.proofs.Common.{map, subst, arith}
use Rattle.query_engine.specs.Times.{AreByType}
use Rattle.query_engine.proofs.GroupLoops.{no_types, one_type}
use Rattle.query_engine.proofs.times.groups_by_type.Goals as goal

pub loop-ty-init : goal.loop-ty-init
loop-ty-init c = no_types c.args.schema.now (map (λ p. p.query) c.args.query_states.now) c.args.groups.now c.new-rows.result.items c.new-rows.ensures.items

pub loop-ty-preserved : goal.loop-ty-preserved
loop-ty-preserved c = one_type c.args.schema.now (map (λ p. p.query) c.args.query_states.now) c.args.groups.now c.loop-ty.ty c.loop-ty.rows.items c.push.new.self.items c.in_ok-groups_reading.field-0 c.loop-ty.invariant c.in_ok-push.ensures.items c.in_ok-groups_reading.ensures

pub returns : goal.returns
returns c =
    let is = c.types-ty-end.ensures in
    let le = c.loop-ty.auto.ty-end in
    let ge = c.loop-ty-test.false in
    subst (λ n. AreByType c.args.schema.now (map (λ p. p.query) c.args.query_states.now) c.args.groups.now n c.loop-ty.rows.items) (omega arith) c.loop-ty.invariant
