-- The cursor comes last.
use Rattle.std.proofs.Common.{◌<◌, ◌+◌, ◌++◌, ◌∷◌, [], None, List, length, refl, subst, sym}
use Rattle.query_engine.specs.Engine.{Open}
use Rattle.core_service.specs.declared.marks.HeldMark.{HeldMark}
use Rattle.core_service.specs.declared.marks.TheConstants.{MOST_HELD}
use Rattle.core_service.specs.Holding.{HeldState, IsHolding, AddsHeld, cursor_rows}
use Rattle.core_service.proofs.Changing.{state, holding_more, adds}
use Rattle.core_service.proofs.held.HeldCursors.add.Goals as goal

pub invariant_of-self : goal.invariant_of-self
invariant_of-self c =
    let s = c.self.inside in
    let m : HeldMark = record { number = s.last + 1; end = c.args.end; drawn = None } in
    let few = subst (λ (h : HeldState). length h.marks < MOST_HELD) (sym c.self.view_is) c.requires.few in
    let more = holding_more s.last s.marks.items s.cursors.items c.self.invariant m c.args.cursor refl few in
    subst (λ (l : List HeldMark). IsHolding (s.last + 1) l c.add.new.cursors.items) (sym c.in-Ok.ensures.marks)
    (subst (λ (l : List Open). IsHolding (s.last + 1) (s.marks.items ++ m ∷ []) l) (sym c.in-Ok.ensures.cursors) more)

pub returns-in-Ok-clause-added : goal.returns-in-Ok-clause-added
returns-in-Ok-clause-added c = λ engine.
    let s = c.self.inside in
    let m : HeldMark = record { number = s.last + 1; end = c.args.end; drawn = None } in
    let old = state s.last s.marks.items s.cursors.items in
    let rows = cursor_rows engine m c.args.cursor in
    subst (λ (h : HeldState). AddsHeld engine m.number h (state m.number c.add.new.marks.items c.add.new.cursors.items) rows) c.self.view_is
    (subst (λ (l : List HeldMark). AddsHeld engine m.number old (state m.number l c.add.new.cursors.items) rows) (sym c.in-Ok.ensures.marks)
    (subst (λ (l : List Open). AddsHeld engine m.number old (state m.number (s.marks.items ++ m ∷ []) l) rows) (sym c.in-Ok.ensures.cursors)
    (adds s.last s.marks.items s.cursors.items c.self.invariant m c.args.cursor refl engine)))
