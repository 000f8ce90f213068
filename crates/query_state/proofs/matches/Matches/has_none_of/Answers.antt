use Rattle.std.proofs.Common.{◌≡◌, ◌<◌, ap, sym, subst, length, Contains, Some, slice_get, arith}
use Rattle.std.proofs.lemmas.Option.{slice_get_within}
use Rattle.query_state.specs.Matches.{OpenMatches}
use Rattle.query_state.proofs.Cuts.{rows_length}
use Rattle.query_state.proofs.NoOp.{none_at, none_of}
use Rattle.query_state.proofs.matches.Matches.has_none_of.Goals as goal

pub has_none-requires : goal.has_none-requires
has_none-requires c =
    let inside : c.in-Some.number < length c.self.inside.keys = slice_get_within c.self.inside.keys c.in-Some.number c.args.key.now c.in-Some.ensures in
    let count = c.self.invariant.0 in
    let l = rows_length _ c.self.inside.lists.items c.args.self.now.rows (ap (λ (h : OpenMatches). h.rows) c.self.view_is) in
    omega arith

pub returns-in-Some : goal.returns-in-Some
returns-in-Some c told =
    none_at c.args.self.now c.args.key.now c.in-Some.number (subst (λ (h : OpenMatches). slice_get h.keys c.in-Some.number ≡ Some c.args.key.now) c.self.view_is c.in-Some.ensures) (c.has_none.ensures told)

pub returns-in-None : goal.returns-in-None
returns-in-None c told = none_of c.args.self.now c.args.key.now (λ there. c.in-None.ensures (subst (λ (h : OpenMatches). Contains h.keys c.args.key.now) (sym c.self.view_is) there))
