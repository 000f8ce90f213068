use Rattle.std.proofs.Common.{◌∙◌, List, sym, ap, subst, length, arith}
use Rattle.query_engine.specs.Times.{clocks_in}
use Rattle.query_engine.specs.Choosing.{AreGrown, NoneHasGrown, AreNoted}
use Rattle.query_engine.specs.Sizes.{put_by}
use Rattle.all_or_none.specs.Phases.{Phase}
use Rattle.query_engine.proofs.Tending.{query_states_long, flags_are, none_grown, noted_sizes, base_at, alone, AreChosen, tended, chosen_are_paid}
use Rattle.query_engine.proofs.engine.Engine.compact_grown.Goals as goal

pub has_one_grown-requires-clause-count : goal.has_one_grown-requires-clause-count
has_one_grown-requires-clause-count g c = c.requires.bases ∙ (query_states_long c.self.inside.schema c.self.inside.count (clocks_in c.self.inside.times) c.self.inside.query_states.items c.self.inside.peaks.items c.args.self.now c.self.view_is ∙ ap length (sym c.as_slice.ensures.value))

pub returns-then-not-has_one_grown-clause-tended : goal.returns-then-not-has_one_grown-clause-tended
returns-then-not-has_one_grown-clause-tended g c = λ events stands dense.
    let none = subst (λ (ps : List Phase). NoneHasGrown c.args.least c.args.bases.now (length ps) ps) c.as_slice.ensures.value (c.has_one_grown.ensures.none c.if-not-has_one_grown.true) in
    alone c.args.least c.args.self.now c.args.bases.now (none_grown c.self.inside.schema c.self.inside.count (clocks_in c.self.inside.times) c.self.inside.query_states.items c.self.inside.peaks.items c.args.self.now c.self.view_is c.args.least c.args.bases.now none) events c.args.held.now

pub grown-requires-clause-count : goal.grown-requires-clause-count
grown-requires-clause-count g c = c.requires.bases ∙ (query_states_long c.self.inside.schema c.self.inside.count (clocks_in c.self.inside.times) c.self.inside.query_states.items c.self.inside.peaks.items c.args.self.now c.self.view_is ∙ ap length (sym c.as_slice-2.ensures.value))

pub compact_chosen-requires-clause-flags : goal.compact_chosen-requires-clause-flags
compact_chosen-requires-clause-flags g c = ap length c.as_slice-flags.ensures.value ∙ (c.in_ok-chosen.ensures.count ∙ (ap length c.as_slice-2.ensures.value ∙ sym (query_states_long c.self.inside.schema c.self.inside.count (clocks_in c.self.inside.times) c.self.inside.query_states.items c.self.inside.peaks.items c.args.self.now c.self.view_is)))

pub returns-in_err-compact_chosen-clause-paid : goal.returns-in_err-compact_chosen-clause-paid
returns-in_err-compact_chosen-clause-paid g c = λ events stands.
    let same = ap (λ s. put_by s c.args.bases.now) c.in_err-compact_chosen.ensures.unchanged.0 in
    let none = c.in_err-compact_chosen.ensures.no_step in
    omega arith

pub note_sizes-requires-clause-count : goal.note_sizes-requires-clause-count
note_sizes-requires-clause-count g c = c.requires.bases ∙ (ap length (sym c.compact_chosen.ensures.same.1) ∙ (query_states_long c.self-2.inside.schema c.self-2.inside.count (clocks_in c.self-2.inside.times) c.self-2.inside.query_states.items c.self-2.inside.peaks.items c.compact_chosen.new.self c.self-2.view_is ∙ ap length (sym c.as_slice-3.ensures.value)))

pub note_sizes-requires-clause-flags : goal.note_sizes-requires-clause-flags
note_sizes-requires-clause-flags g c =
    ap length c.as_slice-flags.ensures.value ∙ (c.in_ok-chosen.ensures.count ∙ (ap length c.as_slice-2.ensures.value ∙ (sym (query_states_long c.self.inside.schema c.self.inside.count (clocks_in c.self.inside.times) c.self.inside.query_states.items c.self.inside.peaks.items c.args.self.now c.self.view_is)
    ∙ (ap length (sym c.compact_chosen.ensures.same.1) ∙ (query_states_long c.self-2.inside.schema c.self-2.inside.count (clocks_in c.self-2.inside.times) c.self-2.inside.query_states.items c.self-2.inside.peaks.items c.compact_chosen.new.self c.self-2.view_is ∙ ap length (sym c.as_slice-3.ensures.value))))))

pub returns-clause-tended : goal.returns-clause-tended
returns-clause-tended g c = λ events stands dense.
    let grown = subst (AreGrown c.args.least c.args.bases.now (length c.self.inside.query_states.items) c.self.inside.query_states.items) (sym c.as_slice-flags.ensures.value) (subst (λ (ps : List Phase). AreGrown c.args.least c.args.bases.now (length ps) ps c.in_ok-chosen.chosen.items) c.as_slice-2.ensures.value c.in_ok-chosen.ensures.grown) in
    let noted = subst (λ (ps : List Phase). AreNoted c.as_slice-flags.result.now (length ps) ps c.args.bases.now c.note_sizes.new.bases) c.as_slice-3.ensures.value c.note_sizes.ensures in
    let chosen : AreChosen c.args.least c.as_slice-flags.result.now c.args.self.now c.compact_chosen.new.self c.args.bases.now c.note_sizes.new.bases = record {
      same = c.compact_chosen.ensures.same;
      flags = flags_are c.self.inside.schema c.self.inside.count (clocks_in c.self.inside.times) c.self.inside.query_states.items c.self.inside.peaks.items c.args.self.now c.self.view_is c.args.least c.args.bases.now c.as_slice-flags.result.now grown;
      noted = noted_sizes c.self-2.inside.schema c.self-2.inside.count (clocks_in c.self-2.inside.times) c.self-2.inside.query_states.items c.self-2.inside.peaks.items c.compact_chosen.new.self c.self-2.view_is c.as_slice-flags.result.now c.args.bases.now c.note_sizes.new.bases noted;
      others = λ k other. base_at c.note_sizes.new.bases k ∙ (c.note_sizes.ensures.others k other ∙ sym (base_at c.args.bases.now k));
      stay = c.in_ok-compact_chosen.ensures.others;
    } in
    tended c.args.least c.as_slice-flags.result.now c.args.self.now c.compact_chosen.new.self c.args.bases.now c.note_sizes.new.bases chosen events c.compact_chosen.new.held (c.in_ok-compact_chosen.ensures.stands events stands) (c.in_ok-compact_chosen.ensures.dense events dense) c.in_ok-compact_chosen.ensures.left

pub returns-clause-paid : goal.returns-clause-paid
returns-clause-paid g c = λ events stands.
    let grown = subst (AreGrown c.args.least c.args.bases.now (length c.self.inside.query_states.items) c.self.inside.query_states.items) (sym c.as_slice-flags.ensures.value) (subst (λ (ps : List Phase). AreGrown c.args.least c.args.bases.now (length ps) ps c.in_ok-chosen.chosen.items) c.as_slice-2.ensures.value c.in_ok-chosen.ensures.grown) in
    let noted = subst (λ (ps : List Phase). AreNoted c.as_slice-flags.result.now (length ps) ps c.args.bases.now c.note_sizes.new.bases) c.as_slice-3.ensures.value c.note_sizes.ensures in
    let chosen : AreChosen c.args.least c.as_slice-flags.result.now c.args.self.now c.compact_chosen.new.self c.args.bases.now c.note_sizes.new.bases = record {
      same = c.compact_chosen.ensures.same;
      flags = flags_are c.self.inside.schema c.self.inside.count (clocks_in c.self.inside.times) c.self.inside.query_states.items c.self.inside.peaks.items c.args.self.now c.self.view_is c.args.least c.args.bases.now c.as_slice-flags.result.now grown;
      noted = noted_sizes c.self-2.inside.schema c.self-2.inside.count (clocks_in c.self-2.inside.times) c.self-2.inside.query_states.items c.self-2.inside.peaks.items c.compact_chosen.new.self c.self-2.view_is c.as_slice-flags.result.now c.args.bases.now c.note_sizes.new.bases noted;
      others = λ k other. base_at c.note_sizes.new.bases k ∙ (c.note_sizes.ensures.others k other ∙ sym (base_at c.args.bases.now k));
      stay = c.in_ok-compact_chosen.ensures.others;
    } in
    let paid = chosen_are_paid c.args.least c.as_slice-flags.result.now c.args.self.now c.compact_chosen.new.self c.args.bases.now c.note_sizes.new.bases chosen events stands in
    let steps = c.compact_chosen.ensures.steps in
    omega arith
