use Rattle.std.proofs.Common.{◌≡◌, ◌<◌, ◌∙◌, sym, length, arith}
use Rattle.std.proofs.lemmas.List.{map-id, take_all}
use Rattle.all_or_none.specs.Phases.{IsIdle}
use Rattle.all_or_none.proofs.LoopTurn.{all_here, same_next, left_next}
use Rattle.query_state.specs.QueryStates.{woken}
use Rattle.query_engine.proofs.compacting.settle_all.Goals as goal

pub settle-requires : goal.settle-requires
settle-requires c =
    let inside : c.loop-k.k < length c.loop-k.query_states = omega arith in
    let same : length c.loop-k.query_states ≡ length c.args.query_states.now = omega arith in
    record { idle = all_here IsIdle c.loop-k.query_states c.args.query_states.now c.loop-k.k c.index-query_states-k.result inside same c.loop-k.invariant.left c.requires.idle }

pub loop-k-preserved : goal.loop-k-preserved
loop-k-preserved c =
    let inside : c.loop-k.k < length c.loop-k.query_states = omega arith in
    let same : length c.loop-k.query_states ≡ length c.args.query_states.now = omega arith in
    record {
      done = same_next (λ p. p) (woken c.args.count) c.loop-k.query_states c.args.query_states.now c.loop-k.k c.settle.new.self c.index-query_states-k.result inside same c.loop-k.invariant.left c.loop-k.invariant.done c.settle.ensures;
      left = left_next c.loop-k.query_states c.args.query_states.now c.loop-k.k c.settle.new.self inside same c.loop-k.invariant.left;
    }

pub returns : goal.returns
returns c =
    let same = c.loop-k.auto.query_states in
    let end = c.loop-k-test.false in
    let all_old = take_all c.loop-k.k c.args.query_states.now (omega arith) in
    let all_new = take_all c.loop-k.k c.loop-k.query_states (omega arith) in
    sym (map-id c.loop-k.query_states) ∙ (rw (all_old, all_new) at c.loop-k.invariant.done)
