use Rattle.std.proofs.Common.{rules, ◌≡◌, ◌+◌, ◌-◌, ◌<◌, true, length, slice_index_or, sym, subst, refl, arith}
use Rattle.std.proofs.lemmas.List.{take_all}
use Rattle.all_or_none.specs.Phases.{is_among, AreLooked}
use Rattle.all_or_none.proofs.ActiveQueries.{looked_none, looked_next}
use Rattle.all_or_none.proofs.Committed.{HasCommitted, committed_none, is_listed, positive, back_again, next_within, next_prepared, committed_next, committed_all, may_answer}
use Rattle.all_or_none.proofs.commit_all.Goals as goal

pub loop-number-init : goal.loop-number-init
loop-number-init g c = record {
  committed = committed_none (g.P.Participant.phase c.args.position) (g.P.Participant.phase (c.args.position + 1)) c.args.event.now c.args.position c.args.query_states.now;
  looked = looked_none g.P.Participant.phase c.args.activity.now c.args.query_states.now;
}

pub commit_one-requires-clause-prepared : goal.commit_one-requires-clause-prepared
commit_one-requires-clause-prepared g c =
    next_prepared (g.P.Participant.phase c.args.position) (g.P.Participant.phase (c.args.position + 1)) c.args.event.now c.args.position c.args.numbers.now c.loop-number.number-index (slice_index_or c.args.numbers.now c.loop-number.number-index 0) c.args.query_states.now c.loop-number.query_states c.loop-number-test.true refl c.requires.set c.loop-number.invariant.committed _

pub commit_one-requires-clause-active : goal.commit_one-requires-clause-active
commit_one-requires-clause-active g c =
    let low = positive (g.P.Participant.phase c.args.position) (g.P.Participant.phase (c.args.position + 1)) c.args.event.now c.args.position c.args.numbers.now c.loop-number.number-index (slice_index_or c.args.numbers.now c.loop-number.number-index 0) c.args.query_states.now c.loop-number.query_states c.loop-number-test.true refl c.requires.set c.loop-number.invariant.committed in
    let among = is_listed (g.P.Participant.phase c.args.position) (g.P.Participant.phase (c.args.position + 1)) c.args.event.now c.args.position c.args.numbers.now c.loop-number.number-index (slice_index_or c.args.numbers.now c.loop-number.number-index 0) c.args.query_states.now c.loop-number.query_states c.loop-number-test.true refl c.requires.set c.loop-number.invariant.committed in
    let same = c.loop-number.invariant.looked.room.0 in
    let inside = (c.requires.inside (slice_index_or c.args.numbers.now c.loop-number.number-index 0 - 1) (subst (λ m. is_among c.args.numbers.now m ≡ true) (sym (back_again (g.P.Participant.phase c.args.position) (g.P.Participant.phase (c.args.position + 1)) c.args.event.now c.args.position c.args.numbers.now c.loop-number.number-index (slice_index_or c.args.numbers.now c.loop-number.number-index 0) c.args.query_states.now c.loop-number.query_states c.loop-number-test.true refl c.requires.set c.loop-number.invariant.committed)) among)).0 in
    omega arith

pub commit_one-requires-clause-open : goal.commit_one-requires-clause-open
commit_one-requires-clause-open g c =
    let low = positive (g.P.Participant.phase c.args.position) (g.P.Participant.phase (c.args.position + 1)) c.args.event.now c.args.position c.args.numbers.now c.loop-number.number-index (slice_index_or c.args.numbers.now c.loop-number.number-index 0) c.args.query_states.now c.loop-number.query_states c.loop-number-test.true refl c.requires.set c.loop-number.invariant.committed in
    let among = is_listed (g.P.Participant.phase c.args.position) (g.P.Participant.phase (c.args.position + 1)) c.args.event.now c.args.position c.args.numbers.now c.loop-number.number-index (slice_index_or c.args.numbers.now c.loop-number.number-index 0) c.args.query_states.now c.loop-number.query_states c.loop-number-test.true refl c.requires.set c.loop-number.invariant.committed in
    let same = c.loop-number.invariant.looked.room.1 in
    let inside = (c.requires.inside (slice_index_or c.args.numbers.now c.loop-number.number-index 0 - 1) (subst (λ m. is_among c.args.numbers.now m ≡ true) (sym (back_again (g.P.Participant.phase c.args.position) (g.P.Participant.phase (c.args.position + 1)) c.args.event.now c.args.position c.args.numbers.now c.loop-number.number-index (slice_index_or c.args.numbers.now c.loop-number.number-index 0) c.args.query_states.now c.loop-number.query_states c.loop-number-test.true refl c.requires.set c.loop-number.invariant.committed)) among)).1 in
    omega arith

pub loop-number-preserved : goal.loop-number-preserved
loop-number-preserved g c = record {
  committed = committed_next (g.P.Participant.phase c.args.position) (g.P.Participant.phase (c.args.position + 1)) c.args.event.now c.args.position c.args.numbers.now c.loop-number.number-index (slice_index_or c.args.numbers.now c.loop-number.number-index 0) c.args.query_states.now c.loop-number.query_states c.loop-number-test.true refl c.requires.set c.loop-number.invariant.committed _ c.commit_one.new.query_state c.commit_one.ensures.taken;
  looked = looked_next g.P.Participant.phase c.args.numbers.now c.loop-number.number-index (slice_index_or c.args.numbers.now c.loop-number.number-index 0) c.args.activity.now c.loop-number.activity c.commit_one.new.activity c.loop-number.query_states c.commit_one.new.query_state c.loop-number-test.true refl
      (positive (g.P.Participant.phase c.args.position) (g.P.Participant.phase (c.args.position + 1)) c.args.event.now c.args.position c.args.numbers.now c.loop-number.number-index (slice_index_or c.args.numbers.now c.loop-number.number-index 0) c.args.query_states.now c.loop-number.query_states c.loop-number-test.true refl c.requires.set c.loop-number.invariant.committed)
      c.commit_one.ensures.looked c.loop-number.invariant.looked;
}

pub returns-clause-taken : goal.returns-clause-taken
returns-clause-taken g c =
    committed_all (g.P.Participant.phase c.args.position) (g.P.Participant.phase (c.args.position + 1)) c.args.event.now c.args.position c.args.numbers.now c.args.query_states.now c.loop-number.query_states c.requires.set
    (subst (λ ns. HasCommitted (g.P.Participant.phase c.args.position) (g.P.Participant.phase (c.args.position + 1)) c.args.event.now c.args.position ns c.args.query_states.now c.loop-number.query_states) (take_all c.loop-number.number-index c.args.numbers.now c.loop-number-test.false) c.loop-number.invariant.committed)

pub returns-clause-answering : goal.returns-clause-answering
returns-clause-answering g c =
    may_answer (g.P.Participant.phase c.args.position) (g.P.Participant.phase (c.args.position + 1)) c.args.event.now c.args.position c.args.numbers.now c.args.query_states.now c.loop-number.query_states c.requires.set
    (subst (λ ns. HasCommitted (g.P.Participant.phase c.args.position) (g.P.Participant.phase (c.args.position + 1)) c.args.event.now c.args.position ns c.args.query_states.now c.loop-number.query_states) (take_all c.loop-number.number-index c.args.numbers.now c.loop-number-test.false) c.loop-number.invariant.committed)

pub overflow_sub-k : goal.overflow_sub-k
overflow_sub-k g c = positive (g.P.Participant.phase c.args.position) (g.P.Participant.phase (c.args.position + 1)) c.args.event.now c.args.position c.args.numbers.now c.loop-number.number-index (slice_index_or c.args.numbers.now c.loop-number.number-index 0) c.args.query_states.now c.loop-number.query_states c.loop-number-test.true refl c.requires.set c.loop-number.invariant.committed

pub bounds-query_states-k : goal.bounds-query_states-k
bounds-query_states-k g c = next_within (g.P.Participant.phase c.args.position) (g.P.Participant.phase (c.args.position + 1)) c.args.event.now c.args.position c.args.numbers.now c.loop-number.number-index (slice_index_or c.args.numbers.now c.loop-number.number-index 0) c.args.query_states.now c.loop-number.query_states c.loop-number-test.true refl c.requires.set c.loop-number.invariant.committed

pub offset_bounds-query_states-k : goal.offset_bounds-query_states-k
offset_bounds-query_states-k g c =
    let inside : slice_index_or c.args.numbers.now c.loop-number.number-index 0 - 1 < length c.loop-number.query_states = next_within (g.P.Participant.phase c.args.position) (g.P.Participant.phase (c.args.position + 1)) c.args.event.now c.args.position c.args.numbers.now c.loop-number.number-index (slice_index_or c.args.numbers.now c.loop-number.number-index 0) c.args.query_states.now c.loop-number.query_states c.loop-number-test.true refl c.requires.set c.loop-number.invariant.committed in
    search rules

pub returns-clause-others : goal.returns-clause-others
returns-clause-others g c =
    (subst (λ ns. HasCommitted (g.P.Participant.phase c.args.position) (g.P.Participant.phase (c.args.position + 1)) c.args.event.now c.args.position ns c.args.query_states.now c.loop-number.query_states) (take_all c.loop-number.number-index c.args.numbers.now c.loop-number-test.false) c.loop-number.invariant.committed).left

pub returns-clause-looked : goal.returns-clause-looked
returns-clause-looked g c = subst (λ ns. AreLooked g.P.Participant.phase ns c.args.activity.now c.loop-number.activity c.loop-number.query_states) (take_all c.loop-number.number-index c.args.numbers.now c.loop-number-test.false) c.loop-number.invariant.looked
