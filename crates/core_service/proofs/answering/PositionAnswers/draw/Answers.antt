-- No query is left to be asked.
use Rattle.std.proofs.Common.{◌∙◌, refl}
use Rattle.core_service.proofs.Left.{asked_all, leaves_twice}
use Rattle.core_service.proofs.answering.PositionAnswers.draw.Goals as goal

pub loop-self-preserved : goal.loop-self-preserved
loop-self-preserved g c =
    let s = c.self-in-None.inside in
    let same = c.self-in-None.view_is ∙ c.next_query.ensures.same in
    let all = asked_all c.args.engine.now c.args.self.now c.draw_one.new.self s.asked c.queries-self-inside.result s.cursors.items s.wanted s.drawn s.positions.items same c.queries-self-inside.ensures
    c.draw_one.ensures.can (leaves_twice c.args.engine.now c.args.self.now c.loop-self.self c.draw_one.new.self c.loop-self.invariant.leaves c.draw_one.ensures.leaves)
    (c.loop-self-test.ensures.none refl) c.in-None.ensures.none in
    record { can = all.0; leaves = all.1 }
