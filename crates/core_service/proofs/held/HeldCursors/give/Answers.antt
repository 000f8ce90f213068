-- The answer that was drawn is given.
use Rattle.std.proofs.Common.{◌<◌, None, length, refl, slice_set, subst, sym, arith}
use Rattle.std.proofs.lemmas.Option.{slice_get_read}
use Rattle.core_service.specs.Holding.{HeldState, IsHolding, StandsAt, HasGivenDrawn}
use Rattle.core_service.proofs.Changing.{state, item, set_same, mark_number, holding_set, given_at}
use Rattle.core_service.proofs.held.HeldCursors.give.Goals as goal

pub invariant_of-self : goal.invariant_of-self
invariant_of-self c =
    let s = c.self.inside in
    let m = c.index_mut.result.now in
    let inside = subst (λ (h : HeldState). c.args.place < length h.marks) (sym c.self.view_is) c.requires.inside in
    let at = slice_get_read s.marks.items (length s.marks.items) c.args.place m refl inside c.index_mut.ensures.value in
    let k = item s.cursors.items c.args.place (omega (arith, inside, c.self.invariant.count)) in
    subst (IsHolding s.last (slice_set s.marks.items c.args.place (record m { drawn = None }))) (set_same s.cursors.items c.args.place k.0 k.1)
    (holding_set s.last s.marks.items s.cursors.items c.self.invariant m.number c.args.place m k.0 at k.1 (record m { drawn = None }) k.0 refl)

pub returns-clause-given : goal.returns-clause-given
returns-clause-given c = λ engine number stands.
    let s = c.self.inside in
    let m = c.index_mut.result.now in
    let here = subst (λ (h : HeldState). StandsAt h number c.args.place) (sym c.self.view_is) stands in
    let inside = subst (λ (h : HeldState). c.args.place < length h.marks) (sym c.self.view_is) c.requires.inside in
    let at = slice_get_read s.marks.items (length s.marks.items) c.args.place m refl inside c.index_mut.ensures.value in
    let new = state s.last (slice_set s.marks.items c.args.place (record m { drawn = None })) s.cursors.items in
    subst (λ (h : HeldState). HasGivenDrawn engine number h new) c.self.view_is
    (given_at s.last s.marks.items s.cursors.items c.self.invariant number c.args.place m here.cursor at here.cursor_is engine
    (mark_number (state s.last s.marks.items s.cursors.items) number c.args.place m here at))
