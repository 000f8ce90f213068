use Rattle.std.proofs.Common.{◌≡◌, ◌+◌, ◌<◌, ◌∙◌, length, sym, subst, arith}
use Rattle.all_or_none.proofs.Marked.{AreBackUpTo, back_none, back_past, back_next, back_all}
use Rattle.all_or_none.proofs.take_back_all.Goals.{then-contains, else-contains}
use Rattle.all_or_none.proofs.take_back_all.Goals as goal

pub loop-k-init : goal.loop-k-init
loop-k-init g c = back_none g.P.Participant.phase c.args.marked.now c.args.query_states.now

pub loop-k-preserved : goal.loop-k-preserved
loop-k-preserved g c =
    let inside : c.loop-k.k < length c.loop-k.query_states = omega arith in
    elim c.if-contains.branch [
      | then-contains w ↦ subst (λ zs. AreBackUpTo (c.loop-k.k + 1) g.P.Participant.phase c.args.marked.now c.args.query_states.now zs) (sym w.query_states-is) (back_next c.loop-k.k g.P.Participant.phase c.args.marked.now c.args.query_states.now c.loop-k.query_states c.loop-k.invariant inside w.take_back.new.self w.index-query_states-k.result (sym c.contains.ensures ∙ w.if-contains.true) w.take_back.ensures)
      | else-contains w ↦ subst (λ zs. AreBackUpTo (c.loop-k.k + 1) g.P.Participant.phase c.args.marked.now c.args.query_states.now zs) (sym w.query_states-is) (back_past c.loop-k.k g.P.Participant.phase c.args.marked.now c.args.query_states.now c.loop-k.query_states c.loop-k.invariant inside (sym c.contains.ensures ∙ w.if-contains.false))
    ]

pub returns : goal.returns
returns g c =
    let long : length c.loop-k.query_states ≡ length c.args.query_states.now = c.loop-k.invariant.count in
    back_all c.loop-k.k g.P.Participant.phase c.args.marked.now c.args.query_states.now c.loop-k.query_states (omega arith) c.loop-k.invariant
