use Rattle.std.proofs.Common.{◌≡◌, ◌∙◌, ℕ, List, [], sym, ap, subst, length}
use Rattle.query_engine.specs.Times.{clocks_in}
use Rattle.query_engine.specs.Choosing.{OthersAreFree}
use Rattle.query_engine.specs.Engine.{Open}
use Rattle.query_engine.specs.Windows.{FollowsWindow}
use Rattle.all_or_none.specs.Phases.{Phase}
use Rattle.query_engine.proofs.Tending.{query_states_long, others_free, spared_follows, spared_keys, none_held}
use Rattle.query_engine.proofs.engine.Engine.compact_sparing.Goals as goal

pub unspared-requires-clause-count : goal.unspared-requires-clause-count
unspared-requires-clause-count g c = c.requires.bases ∙ (query_states_long c.self.inside.schema c.self.inside.count (clocks_in c.self.inside.times) c.self.inside.query_states.items c.self.inside.peaks.items c.args.self.now c.self.view_is ∙ ap length (sym c.as_slice.ensures.value))

pub compact_chosen-requires-clause-flags : goal.compact_chosen-requires-clause-flags
compact_chosen-requires-clause-flags g c = ap length c.as_slice-flags.ensures.value ∙ (c.in_ok-chosen.ensures.count ∙ (ap length c.as_slice.ensures.value ∙ sym (query_states_long c.self.inside.schema c.self.inside.count (clocks_in c.self.inside.times) c.self.inside.query_states.items c.self.inside.peaks.items c.args.self.now c.self.view_is)))

pub note_sizes-requires-clause-count : goal.note_sizes-requires-clause-count
note_sizes-requires-clause-count g c = c.requires.bases ∙ (ap length (sym c.compact_chosen.ensures.same.1) ∙ (query_states_long c.self-2.inside.schema c.self-2.inside.count (clocks_in c.self-2.inside.times) c.self-2.inside.query_states.items c.self-2.inside.peaks.items c.compact_chosen.new.self c.self-2.view_is ∙ ap length (sym c.as_slice-2.ensures.value)))

pub note_sizes-requires-clause-flags : goal.note_sizes-requires-clause-flags
note_sizes-requires-clause-flags g c =
    ap length c.as_slice-flags.ensures.value ∙ (c.in_ok-chosen.ensures.count ∙ (ap length c.as_slice.ensures.value ∙ (sym (query_states_long c.self.inside.schema c.self.inside.count (clocks_in c.self.inside.times) c.self.inside.query_states.items c.self.inside.peaks.items c.args.self.now c.self.view_is)
    ∙ (ap length (sym c.compact_chosen.ensures.same.1) ∙ (query_states_long c.self-2.inside.schema c.self-2.inside.count (clocks_in c.self-2.inside.times) c.self-2.inside.query_states.items c.self-2.inside.peaks.items c.compact_chosen.new.self c.self-2.view_is ∙ ap length (sym c.as_slice-2.ensures.value))))))

pub returns-clause-window : goal.returns-clause-window
returns-clause-window g c = λ events stands dense.
    let free = others_free c.self.inside.schema c.self.inside.count (clocks_in c.self.inside.times) c.self.inside.query_states.items c.self.inside.peaks.items c.args.self.now c.self.view_is c.as_slice-flags.result.now (subst (OthersAreFree (length c.self.inside.query_states.items) c.self.inside.query_states.items) (sym c.as_slice-flags.ensures.value) (subst (λ (ps : List Phase). OthersAreFree (length ps) ps c.in_ok-chosen.chosen.items) c.as_slice.ensures.value c.in_ok-chosen.ensures.free)) in
    let did = c.in_ok-compact_chosen.ensures in
    subst (FollowsWindow c.compact_chosen.new.self events) (none_held c.compact_chosen.new.held did.held)
    (spared_follows c.as_slice-flags.result.now c.args.self.now c.compact_chosen.new.self events c.compact_chosen.new.held did.same free (did.stands events stands) (did.dense events dense) did.left)

pub returns-clause-keys : goal.returns-clause-keys
returns-clause-keys g c = λ events stands.
    let free = others_free c.self.inside.schema c.self.inside.count (clocks_in c.self.inside.times) c.self.inside.query_states.items c.self.inside.peaks.items c.args.self.now c.self.view_is c.as_slice-flags.result.now (subst (OthersAreFree (length c.self.inside.query_states.items) c.self.inside.query_states.items) (sym c.as_slice-flags.ensures.value) (subst (λ (ps : List Phase). OthersAreFree (length ps) ps c.in_ok-chosen.chosen.items) c.as_slice.ensures.value c.in_ok-chosen.ensures.free)) in
    let did = c.in_ok-compact_chosen.ensures in
    spared_keys c.as_slice-flags.result.now c.args.self.now c.compact_chosen.new.self events c.compact_chosen.new.held did.same free (did.stands events stands) did.left
