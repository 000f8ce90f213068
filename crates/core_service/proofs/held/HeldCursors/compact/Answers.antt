-- The cursors were held.
use Rattle.std.proofs.Common.{subst}
use Rattle.std.proofs.lemmas.Result.{on_ok_weaker}
use Rattle.core_service.specs.Holding.{HeldState, SameHeld}
use Rattle.core_service.proofs.Changing.{state, same_held}
use Rattle.core_service.proofs.held.HeldCursors.compact.Goals as goal

pub returns-clause-held : goal.returns-clause-held
returns-clause-held g c =
    let s = c.self.inside in
    let e = c.args.engine.now in
    let f = c.compact.new.engine in
    let after = c.compact.new.others.items in
    on_ok_weaker c.compact.result
    (λ kept. subst (λ (h : HeldState). SameHeld e f h (state s.last s.marks.items after)) c.self.view_is (same_held e f s.last s.marks.items s.cursors.items after kept)) c.compact.ensures.kept
