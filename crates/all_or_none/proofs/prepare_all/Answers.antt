use Rattle.std.proofs.Common.{◌≡◌, ◌<◌, ◌∙◌, true, false, [], length, slice_index_or, subst, sym, arith}
use Rattle.std.proofs.lemmas.List.{get_or_read}
use Rattle.cer_base.specs.Bits.{has}
use Rattle.query_standing.specs.Bounds.{update_bound}
use Rattle.all_or_none.specs.Phases.{back, IsIdle, AreLeavesRead, IsUnread, CanPrepare, InTime, StandsAt, MeetsAtMost, ready_bound}
use Rattle.std.proofs.lemmas.List.Sums.{sum_by-take-le}
use Rattle.all_or_none.proofs.LoopTurn.{all_here, said_here, same_whole, sum_next, pair_at, all_mapped}
use Rattle.all_or_none.proofs.Marked.{CanTake, gone_none, skip_to, next_one, gone_all, sum_more, untouched_next, unchanged_none, unchanged_next}
use Rattle.all_or_none.proofs.prepare_all.Goals as goal

pub loop-k-init : goal.loop-k-init
loop-k-init g c = record {
  low = omega arith;
  gone = gone_none g.P.Participant.phase c.args.event.now c.args.position c.args.marked.now c.clear.new.self.items c.args.query_states.now c.clear.ensures.items;
  unchanged = unchanged_none g.P.Participant.phase c.clear.new.self.items c.args.query_states.now;
  steps = omega arith;
  within = λ events most count bounded. omega arith;
}

pub prepare_one-requires-clause-idle : goal.prepare_one-requires-clause-idle
prepare_one-requires-clause-idle g c =
    let phase = g.P.Participant.phase in
    let same = c.loop-k.invariant.gone.count in
    let inside : c.in-Some.k < length c.loop-k.query_states = c.in-Some.ensures.found.1 in
    let asked : CanTake g.P.Participant.phase c.args.event.now c.args.position c.args.marked.now c.args.query_states.now = record { idle = c.requires.idle; can = c.requires.can; no_ops = c.requires.no_ops } in
    let gone = skip_to phase c.args.event.now c.args.position c.args.marked.now c.args.query_states.now asked c.loop-k.from c.in-Some.k c.loop-k.touched.items c.loop-k.query_states c.in-Some.ensures.found.0 (omega arith) c.loop-k.invariant.gone c.in-Some.ensures.first in
    all_here (λ p. IsIdle (phase c.args.position p)) c.loop-k.query_states c.args.query_states.now c.in-Some.k c.index-query_states-k.result inside same gone.left c.requires.idle

pub prepare_one-requires-clause-can : goal.prepare_one-requires-clause-can
prepare_one-requires-clause-can g c =
    let phase = g.P.Participant.phase in
    let same = c.loop-k.invariant.gone.count in
    let inside : c.in-Some.k < length c.loop-k.query_states = c.in-Some.ensures.found.1 in
    let asked : CanTake g.P.Participant.phase c.args.event.now c.args.position c.args.marked.now c.args.query_states.now = record { idle = c.requires.idle; can = c.requires.can; no_ops = c.requires.no_ops } in
    let gone = skip_to phase c.args.event.now c.args.position c.args.marked.now c.args.query_states.now asked c.loop-k.from c.in-Some.k c.loop-k.touched.items c.loop-k.query_states c.in-Some.ensures.found.0 (omega arith) c.loop-k.invariant.gone c.in-Some.ensures.first in
    all_here (λ p. CanPrepare c.args.event.now c.args.position (phase c.args.position p)) c.loop-k.query_states c.args.query_states.now c.in-Some.k c.index-query_states-k.result inside same gone.left c.requires.can

pub prepare_one-requires-clause-read : goal.prepare_one-requires-clause-read
prepare_one-requires-clause-read g c some =
    let phase = g.P.Participant.phase in
    let same = c.loop-k.invariant.gone.count in
    let inside : c.in-Some.k < length c.loop-k.query_states = c.in-Some.ensures.found.1 in
    let asked : CanTake g.P.Participant.phase c.args.event.now c.args.position c.args.marked.now c.args.query_states.now = record { idle = c.requires.idle; can = c.requires.can; no_ops = c.requires.no_ops } in
    let gone = skip_to phase c.args.event.now c.args.position c.args.marked.now c.args.query_states.now asked c.loop-k.from c.in-Some.k c.loop-k.touched.items c.loop-k.query_states c.in-Some.ensures.found.0 (omega arith) c.loop-k.invariant.gone c.in-Some.ensures.first in
    let there : c.in-Some.k < length c.args.leaves.now = (let many = c.requires.leaves in omega arith) in
    subst (λ ls. AreLeavesRead c.args.event.now ls (phase c.args.position (slice_index_or c.loop-k.query_states c.in-Some.k c.index-query_states-k.result))) (sym (get_or_read c.args.leaves.now c.in-Some.k c.index-leaves-k.result there c.index-leaves-k.is []))
    (said_here (λ j p. has c.args.read.now j ≡ true → AreLeavesRead c.args.event.now (slice_index_or c.args.leaves.now j []) (phase c.args.position p)) c.loop-k.query_states c.args.query_states.now c.in-Some.k c.index-query_states-k.result inside same gone.left c.requires.reading (sym c.contains-reads.ensures ∙ some))

pub prepare_one-requires-clause-unread : goal.prepare_one-requires-clause-unread
prepare_one-requires-clause-unread g c none =
    let phase = g.P.Participant.phase in
    let same = c.loop-k.invariant.gone.count in
    let inside : c.in-Some.k < length c.loop-k.query_states = c.in-Some.ensures.found.1 in
    let asked : CanTake g.P.Participant.phase c.args.event.now c.args.position c.args.marked.now c.args.query_states.now = record { idle = c.requires.idle; can = c.requires.can; no_ops = c.requires.no_ops } in
    let gone = skip_to phase c.args.event.now c.args.position c.args.marked.now c.args.query_states.now asked c.loop-k.from c.in-Some.k c.loop-k.touched.items c.loop-k.query_states c.in-Some.ensures.found.0 (omega arith) c.loop-k.invariant.gone c.in-Some.ensures.first in
    said_here (λ j p. has c.args.marked.now j ≡ true → has c.args.read.now j ≡ false → IsUnread c.args.event.now (phase c.args.position p)) c.loop-k.query_states c.args.query_states.now c.in-Some.k c.index-query_states-k.result inside same gone.left c.requires.unread c.in-Some.ensures.found.2 (sym c.contains-reads.ensures ∙ none)

pub returns-in_err-prepare_one-clause-kept : goal.returns-in_err-prepare_one-clause-kept
returns-in_err-prepare_one-clause-kept g c =
    let phase = g.P.Participant.phase in
    let same = c.loop-k.invariant.gone.count in
    let inside : c.in-Some.k < length c.loop-k.query_states = c.in-Some.ensures.found.1 in
    let asked : CanTake g.P.Participant.phase c.args.event.now c.args.position c.args.marked.now c.args.query_states.now = record { idle = c.requires.idle; can = c.requires.can; no_ops = c.requires.no_ops } in
    let gone = skip_to phase c.args.event.now c.args.position c.args.marked.now c.args.query_states.now asked c.loop-k.from c.in-Some.k c.loop-k.touched.items c.loop-k.query_states c.in-Some.ensures.found.0 (omega arith) c.loop-k.invariant.gone c.in-Some.ensures.first in
    same_whole (λ p. back (phase c.args.position p)) c.loop-k.query_states c.args.query_states.now c.in-Some.k c.prepare_one.new.query_state c.index-query_states-k.result inside same gone.left gone.kept c.prepare_one.ensures.kept

pub returns-in_err-prepare_one-clause-others : goal.returns-in_err-prepare_one-clause-others
returns-in_err-prepare_one-clause-others g c = untouched_next c.args.marked.now c.args.query_states.now c.loop-k.query_states c.in-Some.k c.prepare_one.new.query_state c.loop-k.invariant.gone.others c.in-Some.ensures.found.2

pub returns-in_err-prepare_one-clause-within : goal.returns-in_err-prepare_one-clause-within
returns-in_err-prepare_one-clause-within g c events most count bounded =
    let phase = g.P.Participant.phase in
    let event = c.args.event.now in
    let at = g.P.Participant.phase c.args.position in
    let same = c.loop-k.invariant.gone.count in
    let inside : c.in-Some.k < length c.loop-k.query_states = c.in-Some.ensures.found.1 in
    let asked : CanTake g.P.Participant.phase c.args.event.now c.args.position c.args.marked.now c.args.query_states.now = record { idle = c.requires.idle; can = c.requires.can; no_ops = c.requires.no_ops } in
    let gone = skip_to phase event c.args.position c.args.marked.now c.args.query_states.now asked c.loop-k.from c.in-Some.k c.loop-k.touched.items c.loop-k.query_states c.in-Some.ensures.found.0 (omega arith) c.loop-k.invariant.gone c.in-Some.ensures.first in
    let pair = pair_at (MeetsAtMost events event) at update_bound c.loop-k.query_states c.args.query_states.now most c.in-Some.k c.index-query_states-k.result inside same gone.left bounded.each in
    let time = all_here (λ p. InTime events event (at p)) c.loop-k.query_states c.args.query_states.now c.in-Some.k c.index-query_states-k.result inside same gone.left (all_mapped (InTime events event) at c.args.query_states.now bounded.in_time) in
    let stands = all_here (λ p. StandsAt events (at p)) c.loop-k.query_states c.args.query_states.now c.in-Some.k c.index-query_states-k.result inside same gone.left (all_mapped (StandsAt events) at c.args.query_states.now bounded.stands) in
    let before = c.loop-k.invariant.within events most count bounded in
    let more = sum_more update_bound most c.loop-k.from c.in-Some.k c.in-Some.ensures.found.0 in
    let own = c.prepare_one.ensures.within events pair.other count time stands pair.related in
    let sum = pair.sum in
    let all = pair.within in
    omega arith

pub loop-k-preserved : goal.loop-k-preserved
loop-k-preserved g c =
    let phase = g.P.Participant.phase in
    let event = c.args.event.now in
    let at = g.P.Participant.phase c.args.position in
    let same = c.loop-k.invariant.gone.count in
    let inside : c.in-Some.k < length c.loop-k.query_states = c.in-Some.ensures.found.1 in
    let asked : CanTake g.P.Participant.phase c.args.event.now c.args.position c.args.marked.now c.args.query_states.now = record { idle = c.requires.idle; can = c.requires.can; no_ops = c.requires.no_ops } in
    let gone = skip_to phase event c.args.position c.args.marked.now c.args.query_states.now asked c.loop-k.from c.in-Some.k c.loop-k.touched.items c.loop-k.query_states c.in-Some.ensures.found.0 (omega arith) c.loop-k.invariant.gone c.in-Some.ensures.first in
    record {
      low = omega arith;
      gone = next_one phase event c.args.position c.args.marked.now c.args.query_states.now asked c.in-Some.k c.loop-k.touched.items c.prepare_one.new.touched.items c.loop-k.query_states c.prepare_one.new.query_state c.index-query_states-k.result gone inside c.in-Some.ensures.found.2 c.prepare_one.ensures.kept c.in_ok-prepare_one.ensures.noted;
      unchanged = unchanged_next phase event c.args.position c.in-Some.k c.loop-k.touched.items c.prepare_one.new.touched.items c.args.query_states.now c.loop-k.query_states c.prepare_one.new.query_state c.index-query_states-k.result c.in_ok-prepare_one.ensures.noted c.in_ok-prepare_one.ensures.left inside gone.left c.loop-k.invariant.unchanged;
      steps = (
          let sum = sum_next (λ p. ready_bound (at p)) c.loop-k.query_states c.in-Some.k c.prepare_one.new.query_state inside in
          let before = c.loop-k.invariant.steps in
          let more = sum_more (λ p. ready_bound (at p)) c.loop-k.query_states c.loop-k.from c.in-Some.k c.in-Some.ensures.found.0 in
          let own = c.in_ok-prepare_one.ensures.steps in
          omega arith
          );
      within = λ events most count bounded. (
          let pair = pair_at (MeetsAtMost events event) at update_bound c.loop-k.query_states c.args.query_states.now most c.in-Some.k c.index-query_states-k.result inside same gone.left bounded.each in
          let time = all_here (λ p. InTime events event (at p)) c.loop-k.query_states c.args.query_states.now c.in-Some.k c.index-query_states-k.result inside same gone.left (all_mapped (InTime events event) at c.args.query_states.now bounded.in_time) in
          let stands = all_here (λ p. StandsAt events (at p)) c.loop-k.query_states c.args.query_states.now c.in-Some.k c.index-query_states-k.result inside same gone.left (all_mapped (StandsAt events) at c.args.query_states.now bounded.stands) in
          let before = c.loop-k.invariant.within events most count bounded in
          let more = sum_more update_bound most c.loop-k.from c.in-Some.k c.in-Some.ensures.found.0 in
          let own = c.prepare_one.ensures.within events pair.other count time stands pair.related in
          let sum = pair.sum in
          omega arith
          );
    }

pub returns-clause-kept : goal.returns-clause-kept
returns-clause-kept g c =
    let asked : CanTake g.P.Participant.phase c.args.event.now c.args.position c.args.marked.now c.args.query_states.now = record { idle = c.requires.idle; can = c.requires.can; no_ops = c.requires.no_ops } in
    (gone_all g.P.Participant.phase c.args.event.now c.args.position c.args.marked.now c.args.query_states.now asked c.loop-k.from c.loop-k.touched.items c.loop-k.query_states c.loop-k.invariant.low c.loop-k.invariant.gone c.in_default.ensures.none).kept

pub returns-clause-set : goal.returns-clause-set
returns-clause-set g c =
    let asked : CanTake g.P.Participant.phase c.args.event.now c.args.position c.args.marked.now c.args.query_states.now = record { idle = c.requires.idle; can = c.requires.can; no_ops = c.requires.no_ops } in
    (gone_all g.P.Participant.phase c.args.event.now c.args.position c.args.marked.now c.args.query_states.now asked c.loop-k.from c.loop-k.touched.items c.loop-k.query_states c.loop-k.invariant.low c.loop-k.invariant.gone c.in_default.ensures.none).set

pub returns-clause-left : goal.returns-clause-left
returns-clause-left g c = c.loop-k.invariant.unchanged

pub returns-clause-steps : goal.returns-clause-steps
returns-clause-steps g c =
    let before = c.loop-k.invariant.steps in
    let query_state = sum_by-take-le (λ p. ready_bound (g.P.Participant.phase c.args.position p)) c.loop-k.query_states c.loop-k.from in
    omega arith

pub returns-clause-within : goal.returns-clause-within
returns-clause-within g c events most count bounded =
    let before = c.loop-k.invariant.within events most count bounded in
    let query_state = sum_by-take-le update_bound most c.loop-k.from in
    omega arith
