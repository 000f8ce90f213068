use Rattle.std.proofs.Common.{◌≡◌, List, [], length, sym, ap, subst, ◌∙◌, arith}
use Rattle.std.proofs.lemmas.List.{with_items_is}
use Rattle.query_engine.specs.declared.sizes.Size.{Size}
use Rattle.query_engine.specs.Engine.{Open}
use Rattle.query_engine.specs.Sizes.{AreTended}
use Rattle.stream_answers.specs.declared.schedule.TheConstants.{LEAST_SIZE}
use Rattle.stream_answers.specs.Schedules.{Plan, IsGoingOn}
use Rattle.stream_answers.proofs.Growing.{looked_at, tended_by_more}
use Rattle.stream_answers.proofs.Windows.{nothing_held, windows_kept}
use Rattle.stream_answers.proofs.schedule.Schedule.look.Goals as goal

pub returns-clause-windows : goal.returns-clause-windows
returns-clause-windows g c = λ due before events w.
    let did = c.in_ok-compact_grown.ensures in
    windows_kept due before c.args.engine.now c.compact_grown.new.self events did.same did.found did.peak did.fewer (did.dense events w.dense) w

pub returns-clause-on_time : goal.returns-clause-on_time
returns-clause-on_time g c = λ events stands dense going.
    let did = c.in_ok-compact_grown.ensures in
    let old = c.args.engine.now in
    let new = c.compact_grown.new.self in
    let was = c.as_mut_slice-bases.ensures.value in
    let bases = c.self.inside.bases.items in
    let noted = c.compact_grown.new.bases in
    let long : length noted ≡ c.self.inside.bases.len = (let x = c.as_mut_slice-bases.ensures.len in let y = c.compact_grown.auto.bases in omega arith) in
    let is = with_items_is c.self.inside.bases noted long in
    let tended = subst (λ (held : List Open). AreTended LEAST_SIZE old new events held c.as_mut_slice-bases.result.now noted) (nothing_held c.compact_grown.new.held did.held) (tended_by_more _ LEAST_SIZE _ _ _ _ _ _ c.least_size.ensures (did.tended events stands dense)) in
    let as_noted = subst (λ (bs : List Size). AreTended LEAST_SIZE old new events [] bases bs) (sym is) (subst (λ (bs : List Size). AreTended LEAST_SIZE old new events [] bs noted) was tended) in
    looked_at _ _ old new events did.same did.found as_noted (ap length is ∙ did.bases ∙ ap length was) (c.events-self-inside.ensures.length events (did.stands events stands)) (rw c.queries-2.ensures at c.next_look-self-inside.ensures.next) c.next_look-self-inside.ensures.until
    (subst (λ (p : Plan). IsGoingOn p old events) (sym c.self.view_is) going)
