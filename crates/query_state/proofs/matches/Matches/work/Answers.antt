use Rattle.std.proofs.Common.{◌≡◌, ◌<◌, ◌∙◌, sym, subst, refl, length, Some, slice_get, arith}
use Rattle.std.proofs.lemmas.Option.{slice_get_within}
use Rattle.event_update.specs.Recent.{going_on}
use Rattle.event_update.specs.Update.{IsAdvancedBy, rows_after}
use Rattle.event_update.proofs.Dormant.{unchanged_rest}
use Rattle.query_state.specs.declared.lists.Lists.{Lists}
use Rattle.query_state.specs.Matches.{OpenMatches, TakesKey, CanTake}
use Rattle.event_update.specs.Dormancy.{AreNoOp}
use Rattle.query_state.proofs.NoOp.{one_row}
use Rattle.query_state.proofs.Dormant.{rest_later, still_later}
use Rattle.query_state.proofs.Cuts.{cut_back, can_cut, row_at, length_map, same_before, sound_mid, grown_from}
use Rattle.query_state.proofs.matches.Matches.work.Goals as goal

pub prepare-requires-clause-can : goal.prepare-requires-clause-can
prepare-requires-clause-can g c =
    let b = c.requires.begun in
    let at = subst (λ (h : OpenMatches). slice_get h.keys c.args.number ≡ Some b.key) (sym c.self.view_is) b.numbered in
    let within = slice_get_within c.self.inside.keys c.args.number b.key at in
    let inside : c.args.number < length c.self.inside.lists.items = (let l = c.self.invariant.0 in omega arith) in
    subst (CanTake c.args.stamp) (sym c.self.view_is) c.requires.event.can c.args.number c.index.result.now.active.entries (row_at _ c.self.inside.lists.items c.args.number c.index.result.now inside c.index.ensures)

pub cut_to-requires : goal.cut_to-requires
cut_to-requires g c =
    let b = c.requires.begun in
    let takes = subst (TakesKey b.before b.key) (sym c.self.view_is) b.takes in
    let same = same_before b.before _ b.key takes (c.self.invariant.0 ∙ sym (length_map _ c.self.inside.lists.items)) in
    can_cut c.args.sizes.now b.key b.before _ b.are same takes _ c.args.bits.now c.prepare.new.lazy_dfa c.prepare.ensures.lazy_dfa c.prepare.new.store.nodes c.prepare.ensures.grows.more c.prepare.ensures.grows.appended (sound_mid b.before _ b.key takes b.sound)

pub returns-in-Ok-clause-ready : goal.returns-in-Ok-clause-ready
returns-in-Ok-clause-ready g c b =
    let takes = subst (TakesKey b.before b.key) (sym c.self.view_is) b.takes in
    let at = subst (λ (h : OpenMatches). slice_get h.keys c.args.number ≡ Some b.key) (sym c.self.view_is) b.numbered in
    let within = slice_get_within c.self.inside.keys c.args.number b.key at in
    let inside : c.args.number < length c.self.inside.lists.items = (let l = c.self.invariant.0 in omega arith) in
    record {
      mid = _;
      takes = takes;
      keys = refl;
      rows = refl;
      numbered = at;
      before = c.index.result.now.active.entries;
      before_is = row_at _ c.self.inside.lists.items c.args.number c.index.result.now inside c.index.ensures;
      states = _;
      states_are = refl;
      table = c.prepare.ensures.lazy_dfa;
      sets = c.sizes-sizes.ensures.sound.states;
      distinct = c.found-found.ensures.once;
      nodes = c.prepare.ensures.grows;
      stands = c.in-Ok.ensures.stands;
      growth = grown_from b.before _ b.key takes _ _ c.prepare.ensures.pushes;
    }

pub returns-in-Ok-clause-sizes : goal.returns-in-Ok-clause-sizes
returns-in-Ok-clause-sizes g c = (
  λ b. (
      let takes = subst (TakesKey b.before b.key) (sym c.self.view_is) b.takes in
      let same = same_before b.before _ b.key takes (c.self.invariant.0 ∙ sym (length_map _ c.self.inside.lists.items)) in
      cut_back c.args.sizes.now b.key b.before _ b.are same takes _ c.args.bits.now c.prepare.new.lazy_dfa c.prepare.ensures.lazy_dfa c.prepare.new.store.nodes c.prepare.ensures.grows.more c.prepare.ensures.grows.appended
      ),
  (
      let b = c.requires.begun in
      let takes = subst (TakesKey b.before b.key) (sym c.self.view_is) b.takes in
      let same = same_before b.before _ b.key takes (c.self.invariant.0 ∙ sym (length_map _ c.self.inside.lists.items)) in
      can_cut c.args.sizes.now b.key b.before _ b.are same takes _ c.args.bits.now c.prepare.new.lazy_dfa c.prepare.ensures.lazy_dfa c.prepare.new.store.nodes c.prepare.ensures.grows.more c.prepare.ensures.grows.appended (sound_mid b.before _ b.key takes b.sound)
      ),
)

pub returns-in-Err-clause-refused : goal.returns-in-Err-clause-refused
returns-in-Err-clause-refused g c b =
    let takes = subst (TakesKey b.before b.key) (sym c.self.view_is) b.takes in
    let same = same_before b.before _ b.key takes (c.self.invariant.0 ∙ sym (length_map _ c.self.inside.lists.items)) in
    c.cut_to.ensures ∙ cut_back c.args.sizes.now b.key b.before _ b.are same takes _ c.args.bits.now c.prepare.new.lazy_dfa c.prepare.ensures.lazy_dfa c.prepare.new.store.nodes c.prepare.ensures.grows.more c.prepare.ensures.grows.appended

pub returns-in-Ok-clause-worked : goal.returns-in-Ok-clause-worked
returns-in-Ok-clause-worked g c b =
    let takes = subst (TakesKey b.before b.key) (sym c.self.view_is) b.takes in
    let at = subst (λ (h : OpenMatches). slice_get h.keys c.args.number ≡ Some b.key) (sym c.self.view_is) b.numbered in
    let within = slice_get_within c.self.inside.keys c.args.number b.key at in
    let inside : c.args.number < length c.self.inside.lists.items = (let l = c.self.invariant.0 in omega arith) in
    record {
      mid = _;
      takes = takes;
      number = c.args.number;
      numbered = at;
      rows = c.index.result.now.active.entries;
      rows_are = row_at _ c.self.inside.lists.items c.args.number c.index.result.now inside c.index.ensures;
      states = _;
      states_are = refl;
      work = c.prepare.ensures.refused_steps;
    }

pub returns-in-Err-clause-worked : goal.returns-in-Err-clause-worked
returns-in-Err-clause-worked g c b =
    let takes = subst (TakesKey b.before b.key) (sym c.self.view_is) b.takes in
    let at = subst (λ (h : OpenMatches). slice_get h.keys c.args.number ≡ Some b.key) (sym c.self.view_is) b.numbered in
    let within = slice_get_within c.self.inside.keys c.args.number b.key at in
    let inside : c.args.number < length c.self.inside.lists.items = (let l = c.self.invariant.0 in omega arith) in
    record {
      mid = _;
      takes = takes;
      number = c.args.number;
      numbered = at;
      rows = c.index.result.now.active.entries;
      rows_are = row_at _ c.self.inside.lists.items c.args.number c.index.result.now inside c.index.ensures;
      states = _;
      states_are = refl;
      work = c.prepare.ensures.refused_steps;
    }

pub invariant_of-self : goal.invariant_of-self
invariant_of-self g c =
    let b = c.requires.begun in
    let at = subst (λ (h : OpenMatches). slice_get h.keys c.args.number ≡ Some b.key) (sym c.self.view_is) b.numbered in
    let within = slice_get_within c.self.inside.keys c.args.number b.key at in
    let inside : c.args.number < length c.self.inside.lists.items = (let l = c.self.invariant.0 in omega arith) in
    let row = row_at (λ (l : Lists). l.active.entries) c.self.inside.lists.items c.args.number c.index.result.now inside c.index.ensures in
    let can = subst (CanTake c.args.stamp) (sym c.self.view_is) c.requires.event.can c.args.number c.index.result.now.active.entries row in
    let dormant_states = still_later c.self.inside.lazy_dfa c.prepare.new.lazy_dfa _ c.args.bits.now c.self.inside.dormant_states.items c.prepare.ensures.lazy_dfa c.self.invariant.3 in (
      c.self.invariant.0,
      rest_later c.self.inside.lazy_dfa c.prepare.new.lazy_dfa c.self.inside.no_op_sets.items _ c.args.bits.now c.self.inside.lists.items c.prepare.ensures.lazy_dfa c.self.invariant.1,
      c.self.invariant.2,
      c.note.ensures c.prepare.new.lazy_dfa dormant_states (λ quiet stays.
          unchanged_rest c.self.inside.lazy_dfa c.prepare.new.lazy_dfa c.args.bits.now c.args.stamp c.self.inside.store.nodes c.prepare.new.store.nodes c.index.result.now.active.entries quiet c.sizes-sizes.ensures.sound can c.prepare.ensures.grows (subst (λ s. IsAdvancedBy c.prepare.new.lazy_dfa c.args.bits.now c.args.stamp c.self.inside.store.nodes (going_on c.args.low c.index.result.now.active.entries s) c.prepare.new.store.nodes (rows_after c.index.result.now.active.entries s)) stays c.in-Ok.ensures.advanced)),
    )

pub returns-in-Ok-clause-no_op : goal.returns-in-Ok-clause-no_op
returns-in-Ok-clause-no_op g c = λ stays rows at.
    let b = c.requires.begun in
    let keyed = subst (λ (h : OpenMatches). slice_get h.keys c.args.number ≡ Some b.key) (sym c.self.view_is) b.numbered in
    let within = slice_get_within c.self.inside.keys c.args.number b.key keyed in
    let inside : c.args.number < length c.self.inside.lists.items = (let l = c.self.invariant.0 in omega arith) in
    let there = row_at (λ (l : Lists). l.active.entries) c.self.inside.lists.items c.args.number c.index.result.now inside c.index.ensures in
    subst (AreNoOp c.prepare.new.lazy_dfa c.args.bits.now) (one_row _ rows (sym there ∙ at)) (c.in-Ok.ensures.no_op stays)
