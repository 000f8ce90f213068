-- The first mark with the number, or none.
use Rattle.std.proofs.Common.{◌==◌, ◌∙◌, ap, position, subst}
use Rattle.std.specs.Prelude.{IfSome, IfNone, ◌≡◌, None}
use Rattle.query_engine.specs.Engine.{EngineState}
use Rattle.core_service.specs.declared.marks.HeldMark.{HeldMark}
use Rattle.core_service.specs.Holding.{HeldState, StandsAt, held_rows}
use Rattle.core_service.proofs.Changing.{found_at, none_at}
use Rattle.core_service.proofs.held.HeldCursors.place.Goals as goal

pub returns-clause-found : goal.returns-clause-found
returns-clause-found c =
    let s = c.self.inside in
    let found = c.place_among.ensures ∙ ap (position (λ (m : HeldMark). m.number == c.args.number)) c.as_slice.ensures.value in
    subst (λ (h : HeldState). IfSome c.place_among.result (StandsAt h c.args.number)) c.self.view_is
    (found_at s.last s.marks.items s.cursors.items c.args.number c.place_among.result c.self.invariant.count found)

pub returns-clause-none : goal.returns-clause-none
returns-clause-none c =
    let s = c.self.inside in
    let found = c.place_among.ensures ∙ ap (position (λ (m : HeldMark). m.number == c.args.number)) c.as_slice.ensures.value in
    subst (λ (h : HeldState). IfNone c.place_among.result ((e : EngineState) → held_rows e h c.args.number ≡ None)) c.self.view_is
    (none_at s.last s.marks.items s.cursors.items c.args.number c.place_among.result found)
