use Rattle.std.proofs.Common.{length, sym, subst, List, take, ◌+◌}
use Rattle.cer_base.specs.Bits.{has}
use Rattle.std.specs.List.{AllZip}
use Rattle.match_explain.specs.declared.turns.Turn.{Turn}
use Rattle.match_explain.specs.Searching.{IsTurnAt}
use Rattle.match_explain.proofs.Ascending.{zip_more}
use Rattle.match_explain.proofs.turns.turns_of.Goals as goal

pub loop-position-preserved : goal.loop-position-preserved
loop-position-preserved c =
    let R = IsTurnAt c.args.conditions.now (has c.args.marked_leaves.now) (length c.args.conditions.now) c.args.events.now c.args.marks.now in
    subst (λ (ts : List Turn). AllZip R (take (c.loop-position.position-index + 1) c.args.span.now) ts) (sym c.in_ok-push.ensures.items)
    (zip_more R c.args.span.now c.loop-position.position-index 0 c.loop-position.turns.items c.in_ok-turn.turn c.loop-position-test.true c.loop-position.invariant c.in_ok-turn.ensures)
