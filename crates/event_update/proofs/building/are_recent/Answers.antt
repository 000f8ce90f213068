use Rattle.std.proofs.Common.{◌≡◌, ◌+◌, ◌-◌, length, sym, ◌∙◌, arith}
use Rattle.event_update.proofs.RecentRows.{all_recent}
use Rattle.event_update.proofs.building.are_recent.Goals as goal

pub returns : goal.returns
returns c told nodes w lists ordered =
    let last : length c.args.active.now.entries ≡ (c.len-len.result - 1) + 1 = omega (arith, c.len-len.ensures.len, c.if-len-eq0.false) in
    all_recent nodes w c.args.low.now c.args.active.now.entries (c.len-len.result - 1) c.list.result.now lists ordered c.list.ensures last (sym c.is_recent.ensures ∙ told)
