-- The cursor at the place has drawn.
use Rattle.std.proofs.Common.{◌<◌, length, ap, refl, slice_set, subst, sym, arith}
use Rattle.std.proofs.lemmas.Option.{slice_get_read}
use Rattle.core_service.specs.declared.marks.HeldMark.{HeldMark}
use Rattle.core_service.specs.Holding.{HeldState, StandsAt, IsDrawn}
use Rattle.core_service.proofs.Changing.{state, mark_number, holding_set, drawn_at}
use Rattle.core_service.proofs.held.HeldCursors.draw.Goals as goal

pub invariant_of-self : goal.invariant_of-self
invariant_of-self g c =
    let s = c.self.inside in
    let inside = subst (λ (h : HeldState). c.args.place < length h.marks) (sym c.self.view_is) c.requires.inside in
    let at = slice_get_read s.marks.items (length s.marks.items) c.args.place c.index_mut-mark.result.now refl inside c.index_mut-mark.ensures.value in
    let there = slice_get_read s.cursors.items (length s.cursors.items) c.args.place c.index_mut-cursor.result.now refl (omega (arith, inside, c.self.invariant.count)) c.index_mut-cursor.ensures.value in
    holding_set s.last s.marks.items s.cursors.items c.self.invariant c.index_mut-mark.result.now.number c.args.place c.index_mut-mark.result.now c.index_mut-cursor.result.now at there
    c.draw_from.new.mark c.draw_from.new.cursor (ap (λ (m : HeldMark). m.number) c.draw_from.ensures.mark)

pub returns-clause-drawn : goal.returns-clause-drawn
returns-clause-drawn g c = λ number stands.
    let s = c.self.inside in
    let here = subst (λ (h : HeldState). StandsAt h number c.args.place) (sym c.self.view_is) stands in
    let inside = subst (λ (h : HeldState). c.args.place < length h.marks) (sym c.self.view_is) c.requires.inside in
    let at = slice_get_read s.marks.items (length s.marks.items) c.args.place c.index_mut-mark.result.now refl inside c.index_mut-mark.ensures.value in
    let there = slice_get_read s.cursors.items (length s.cursors.items) c.args.place c.index_mut-cursor.result.now refl (omega (arith, inside, c.self.invariant.count)) c.index_mut-cursor.ensures.value in
    let new = state s.last (slice_set s.marks.items c.args.place c.draw_from.new.mark) (slice_set s.cursors.items c.args.place c.draw_from.new.cursor) in
    subst (λ (h : HeldState). IsDrawn c.args.engine.now number c.args.place h new c.draw_from.result) c.self.view_is
    (drawn_at s.last s.marks.items s.cursors.items c.self.invariant number c.args.place c.index_mut-mark.result.now c.index_mut-cursor.result.now at there
    c.args.engine.now c.draw_from.new.mark c.draw_from.new.cursor c.draw_from.result (mark_number (state s.last s.marks.items s.cursors.items) number c.args.place c.index_mut-mark.result.now here at)
    c.draw_from.ensures.mark c.draw_from.ensures.left c.draw_from.ensures.shown)
