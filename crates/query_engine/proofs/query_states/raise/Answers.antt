use Rattle.std.proofs.Common.{◌≡◌, ◌<◌, ◌∙◌, length, arith, sym, ap, slice_index_or}
use Rattle.std.specs.Prelude.{max}
use Rattle.query_engine.proofs.Growth.{raise_next, all_raised, nodes_are, nodes_there}
use Rattle.all_or_none.proofs.LoopTurn.{left_next}
use Rattle.query_engine.proofs.query_states.raise.Goals as goal

pub loop-k-preserved : goal.loop-k-preserved
loop-k-preserved c =
    let inside : c.loop-k.k < length c.loop-k.peaks = omega arith in
    let within : c.loop-k.k < length c.args.query_states.now = (let e = c.requires.count in omega arith) in
    let same : length c.loop-k.peaks ≡ length c.args.peaks.now = c.loop-k.auto.peaks in
    let nodes : c.len.result ≡ nodes_there c.args.query_states.now c.loop-k.k = c.len.ensures ∙ (ap (λ p. length p.kept.nodes) c.index-query_states-k.is ∙ sym (nodes_are c.args.query_states.now c.loop-k.k c.index-query_states-k.result within)) in
    record {
      done = raise_next c.loop-k.peaks c.args.peaks.now c.args.query_states.now c.loop-k.k c.max.result inside same c.requires.count c.loop-k.invariant.left c.loop-k.invariant.done (c.max.ensures ∙ ap (max (slice_index_or c.loop-k.peaks c.loop-k.k 0)) nodes);
      left = left_next c.loop-k.peaks c.args.peaks.now c.loop-k.k c.max.result inside same c.loop-k.invariant.left;
    }

pub returns : goal.returns
returns c = all_raised c.loop-k.peaks c.args.peaks.now c.args.query_states.now c.loop-k.k (let e = c.loop-k.auto.peaks in omega arith) c.loop-k.auto.peaks c.loop-k.invariant.done
