use Rattle.std.proofs.Common.{arith}
use Rattle.query_standing.proofs.GivingOne.{given_more}
use Rattle.query_state.proofs.dropping.remove_all.Goals as goal

pub loop-k-preserved : goal.loop-k-preserved
loop-k-preserved c =
    let e = c.remove_one-now.ensures in
    let i = c.loop-k.invariant in (
      given_more _ _ _ _ _ _ _ _ _ i.0 e.removed.given,
      e.removed.count,
      (let f = e.few in omega arith),
      (λ n le none. e.kept (λ m more at. i.3 m (omega arith) at) n (omega arith) none),
    )
