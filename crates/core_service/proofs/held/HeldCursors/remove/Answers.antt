-- The cursor at the place goes.
use Rattle.std.proofs.Common.{◌<◌, List, length, remove, subst, sym, arith}
use Rattle.query_engine.specs.Engine.{Open}
use Rattle.core_service.specs.declared.marks.HeldMark.{HeldMark}
use Rattle.core_service.specs.Holding.{HeldState, IsHolding, StandsAt, DropsHeld}
use Rattle.core_service.proofs.Changing.{state, item, holding_fewer, dropped_at}
use Rattle.core_service.proofs.held.HeldCursors.remove.Goals as goal

pub invariant_of-self : goal.invariant_of-self
invariant_of-self c =
    let s = c.self.inside in
    let inside = subst (λ (h : HeldState). c.args.place < length h.marks) (sym c.self.view_is) c.requires.inside in
    let m = item s.marks.items c.args.place inside in
    let k = item s.cursors.items c.args.place (omega (arith, inside, c.self.invariant.count)) in
    let fewer = holding_fewer s.last s.marks.items s.cursors.items c.self.invariant m.0.number c.args.place m.0 k.0 m.1 k.1 in
    subst (λ (l : List HeldMark). IsHolding s.last l c.remove-2.new.self.items) (sym c.remove.ensures.items)
    (subst (λ (l : List Open). IsHolding s.last (remove s.marks.items c.args.place) l) (sym c.remove-2.ensures.items) fewer)

pub returns-clause-gone : goal.returns-clause-gone
returns-clause-gone c = λ engine number stands.
    let s = c.self.inside in
    let here = subst (λ (h : HeldState). StandsAt h number c.args.place) (sym c.self.view_is) stands in
    let dropped = dropped_at s.last s.marks.items s.cursors.items c.self.invariant number c.args.place here.mark here.cursor here.mark_is here.cursor_is engine here.number_is in
    subst (λ (h : HeldState). DropsHeld engine number h (state s.last c.remove.new.self.items c.remove-2.new.self.items)) c.self.view_is
    (subst (λ (l : List HeldMark). DropsHeld engine number (state s.last s.marks.items s.cursors.items) (state s.last l c.remove-2.new.self.items)) (sym c.remove.ensures.items)
    (subst (λ (l : List Open). DropsHeld engine number (state s.last s.marks.items s.cursors.items) (state s.last (remove s.marks.items c.args.place) l)) (sym c.remove-2.ensures.items) dropped))
