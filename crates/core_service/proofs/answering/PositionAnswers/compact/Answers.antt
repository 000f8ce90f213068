-- The cursor was held.
use Rattle.std.proofs.lemmas.Result.{on_ok_weaker}
use Rattle.core_service.proofs.Kept.{left_held}
use Rattle.core_service.proofs.answering.PositionAnswers.compact.Goals as goal

pub returns-clause-left : goal.returns-clause-left
returns-clause-left g c =
    let s = c.self.inside in
    on_ok_weaker c.compact_both.result
    (λ kept. left_held c.args.engine.now c.compact_both.new.engine s.asked s.cursors.items c.compact_both.new.last.items s.wanted s.drawn s.positions.items c.args.self.now c.self.view_is c.compact_both.ensures.same kept) c.compact_both.ensures.last
