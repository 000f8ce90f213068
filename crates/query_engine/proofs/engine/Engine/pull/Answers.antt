use Rattle.std.specs.Prelude.{MatchOption}
use Rattle.tecs_enumerate.specs.Remaining.{CursorState}
use Rattle.query_engine.specs.Engine.{Fits, rest}
use Rattle.std.proofs.Common.{rules, ◌≡◌, ◌-◌, ◌<◌, ◌∙◌, [], ◌∷◌, ap, sym, subst, slice_index_or, length, arith}
use Rattle.query_engine.specs.Times.{clocks_in, query_states_at}
use Rattle.query_engine.proofs.Keeping.{query_state_idle, query_state_at, seen_length, seen_there, query_state_stands}
use Rattle.query_engine.proofs.Asking.{fits_within, fits_query_state, pull_gives, pull_ends, pull_fits}
use Rattle.query_engine.proofs.engine.Engine.pull.Goals as goal

pub next-requires-clause-well_formed : goal.next-requires-clause-well_formed
next-requires-clause-well_formed g c =
    let fit = subst (Fits c.args.self.now) (sym c.cursor.view_is) c.requires.fits in
    let fits = fits_within c.self.inside.schema c.self.inside.count (query_states_at c.self.inside.count c.self.inside.query_states.items (clocks_in c.self.inside.times)) c.self.inside.peaks.items c.args.self.now c.cursor.inside.walk c.self.view_is fit in
    let within : c.cursor.inside.walk.query - 1 < length c.self.inside.query_states.items = (let l = seen_length c.self.inside.count c.self.inside.query_states.items (clocks_in c.self.inside.times) in let f = fits.1 in omega arith) in
    let place = c.query.ensures ∙ ap (λ (w : CursorState). w.query) (sym c.cursor.view_is) in
    let index = subst (λ k. c.index.result.now ≡ slice_index_or c.self.inside.query_states.items (k - 1) c.index.result.now) place c.index.ensures in
    let here = seen_there c.self.inside.count (clocks_in c.self.inside.times) c.self.inside.query_states.items (c.cursor.inside.walk.query - 1) c.index.result.now within index in
    (query_state_stands c.self.inside.schema c.self.inside.count (clocks_in c.self.inside.times) c.self.inside.query_states.items c.self.inside.peaks.items (c.cursor.inside.walk.query - 1) c.index.result.now c.self.invariant.0 within index).nodes

pub next-requires-clause-fits : goal.next-requires-clause-fits
next-requires-clause-fits g c =
    let fit = subst (Fits c.args.self.now) (sym c.cursor.view_is) c.requires.fits in
    let fits = fits_within c.self.inside.schema c.self.inside.count (query_states_at c.self.inside.count c.self.inside.query_states.items (clocks_in c.self.inside.times)) c.self.inside.peaks.items c.args.self.now c.cursor.inside.walk c.self.view_is fit in
    let within : c.cursor.inside.walk.query - 1 < length c.self.inside.query_states.items = (let l = seen_length c.self.inside.count c.self.inside.query_states.items (clocks_in c.self.inside.times) in let f = fits.1 in omega arith) in
    let place = c.query.ensures ∙ ap (λ (w : CursorState). w.query) (sym c.cursor.view_is) in
    let index = subst (λ k. c.index.result.now ≡ slice_index_or c.self.inside.query_states.items (k - 1) c.index.result.now) place c.index.ensures in
    let here = seen_there c.self.inside.count (clocks_in c.self.inside.times) c.self.inside.query_states.items (c.cursor.inside.walk.query - 1) c.index.result.now within index in
    fits_query_state c.self.inside.schema c.self.inside.count (query_states_at c.self.inside.count c.self.inside.query_states.items (clocks_in c.self.inside.times)) c.self.inside.peaks.items c.args.self.now (query_state_at c.self.inside.count (clocks_in c.self.inside.times) (c.cursor.inside.walk.query - 1) c.index.result.now) c.cursor.inside.walk c.self.view_is fit here

pub returns-clause-answer : goal.returns-clause-answer
returns-clause-answer g c =
    let fit = subst (Fits c.args.self.now) (sym c.cursor.view_is) c.requires.fits in
    let fits = fits_within c.self.inside.schema c.self.inside.count (query_states_at c.self.inside.count c.self.inside.query_states.items (clocks_in c.self.inside.times)) c.self.inside.peaks.items c.args.self.now c.cursor.inside.walk c.self.view_is fit in
    let within : c.cursor.inside.walk.query - 1 < length c.self.inside.query_states.items = (let l = seen_length c.self.inside.count c.self.inside.query_states.items (clocks_in c.self.inside.times) in let f = fits.1 in omega arith) in
    let place = c.query.ensures ∙ ap (λ (w : CursorState). w.query) (sym c.cursor.view_is) in
    let index = subst (λ k. c.index.result.now ≡ slice_index_or c.self.inside.query_states.items (k - 1) c.index.result.now) place c.index.ensures in
    let here = seen_there c.self.inside.count (clocks_in c.self.inside.times) c.self.inside.query_states.items (c.cursor.inside.walk.query - 1) c.index.result.now within index in
    subst (λ (w : CursorState). MatchOption c.next.result (rest c.args.self.now w ≡ []) (λ start. rest c.args.self.now w ≡ record { start = start; positions = c.next.new.cursor.path } ∷ rest c.args.self.now c.next.new.cursor)) c.cursor.view_is (pull_gives c.self.inside.schema c.self.inside.count (query_states_at c.self.inside.count c.self.inside.query_states.items (clocks_in c.self.inside.times)) c.self.inside.peaks.items c.args.self.now (query_state_at c.self.inside.count (clocks_in c.self.inside.times) (c.cursor.inside.walk.query - 1) c.index.result.now) c.cursor.inside.walk c.next.new.cursor c.next.result c.self.view_is fit here c.next.ensures.same.0 c.next.ensures.answer)

pub returns-clause-none : goal.returns-clause-none
returns-clause-none g c =
    let fit = subst (Fits c.args.self.now) (sym c.cursor.view_is) c.requires.fits in
    let fits = fits_within c.self.inside.schema c.self.inside.count (query_states_at c.self.inside.count c.self.inside.query_states.items (clocks_in c.self.inside.times)) c.self.inside.peaks.items c.args.self.now c.cursor.inside.walk c.self.view_is fit in
    let within : c.cursor.inside.walk.query - 1 < length c.self.inside.query_states.items = (let l = seen_length c.self.inside.count c.self.inside.query_states.items (clocks_in c.self.inside.times) in let f = fits.1 in omega arith) in
    let place = c.query.ensures ∙ ap (λ (w : CursorState). w.query) (sym c.cursor.view_is) in
    let index = subst (λ k. c.index.result.now ≡ slice_index_or c.self.inside.query_states.items (k - 1) c.index.result.now) place c.index.ensures in
    let here = seen_there c.self.inside.count (clocks_in c.self.inside.times) c.self.inside.query_states.items (c.cursor.inside.walk.query - 1) c.index.result.now within index in
    pull_ends c.self.inside.schema c.self.inside.count (query_states_at c.self.inside.count c.self.inside.query_states.items (clocks_in c.self.inside.times)) c.self.inside.peaks.items c.args.self.now (query_state_at c.self.inside.count (clocks_in c.self.inside.times) (c.cursor.inside.walk.query - 1) c.index.result.now) c.cursor.inside.walk c.next.new.cursor c.next.result c.self.view_is fit here c.next.ensures.same.0 c.next.ensures.none

pub returns-clause-fits : goal.returns-clause-fits
returns-clause-fits g c =
    let fit = subst (Fits c.args.self.now) (sym c.cursor.view_is) c.requires.fits in
    let fits = fits_within c.self.inside.schema c.self.inside.count (query_states_at c.self.inside.count c.self.inside.query_states.items (clocks_in c.self.inside.times)) c.self.inside.peaks.items c.args.self.now c.cursor.inside.walk c.self.view_is fit in
    let within : c.cursor.inside.walk.query - 1 < length c.self.inside.query_states.items = (let l = seen_length c.self.inside.count c.self.inside.query_states.items (clocks_in c.self.inside.times) in let f = fits.1 in omega arith) in
    let place = c.query.ensures ∙ ap (λ (w : CursorState). w.query) (sym c.cursor.view_is) in
    let index = subst (λ k. c.index.result.now ≡ slice_index_or c.self.inside.query_states.items (k - 1) c.index.result.now) place c.index.ensures in
    let here = seen_there c.self.inside.count (clocks_in c.self.inside.times) c.self.inside.query_states.items (c.cursor.inside.walk.query - 1) c.index.result.now within index in
    pull_fits c.self.inside.schema c.self.inside.count (query_states_at c.self.inside.count c.self.inside.query_states.items (clocks_in c.self.inside.times)) c.self.inside.peaks.items c.args.self.now (query_state_at c.self.inside.count (clocks_in c.self.inside.times) (c.cursor.inside.walk.query - 1) c.index.result.now) c.cursor.inside.walk c.next.new.cursor c.self.view_is fit here c.next.ensures.same.0 c.next.ensures.fits

pub index-requires : goal.index-requires
index-requires g c =
    let fit = subst (Fits c.args.self.now) (sym c.cursor.view_is) c.requires.fits in
    let fits = fits_within c.self.inside.schema c.self.inside.count (query_states_at c.self.inside.count c.self.inside.query_states.items (clocks_in c.self.inside.times)) c.self.inside.peaks.items c.args.self.now c.cursor.inside.walk c.self.view_is fit in
    let within : c.cursor.inside.walk.query - 1 < length c.self.inside.query_states.items = (let l = seen_length c.self.inside.count c.self.inside.query_states.items (clocks_in c.self.inside.times) in let f = fits.1 in omega arith) in
    let place = c.query.ensures ∙ ap (λ (w : CursorState). w.query) (sym c.cursor.view_is) in
    let inside : c.query.result - 1 < length c.self.inside.query_states.items = omega arith in
    search rules

pub next-requires-clause-idle : goal.next-requires-clause-idle
next-requires-clause-idle g c =
    let fit = subst (Fits c.args.self.now) (sym c.cursor.view_is) c.requires.fits in
    let fits = fits_within c.self.inside.schema c.self.inside.count (query_states_at c.self.inside.count c.self.inside.query_states.items (clocks_in c.self.inside.times)) c.self.inside.peaks.items c.args.self.now c.cursor.inside.walk c.self.view_is fit in
    let within : c.cursor.inside.walk.query - 1 < length c.self.inside.query_states.items = (let l = seen_length c.self.inside.count c.self.inside.query_states.items (clocks_in c.self.inside.times) in let f = fits.1 in omega arith) in
    let place = c.query.ensures ∙ ap (λ (w : CursorState). w.query) (sym c.cursor.view_is) in
    let index = subst (λ k. c.index.result.now ≡ slice_index_or c.self.inside.query_states.items (k - 1) c.index.result.now) place c.index.ensures in
    query_state_idle c.self.inside.schema c.self.inside.count (clocks_in c.self.inside.times) c.self.inside.query_states.items c.self.inside.peaks.items (c.cursor.inside.walk.query - 1) c.index.result.now c.self.invariant.0 within index
