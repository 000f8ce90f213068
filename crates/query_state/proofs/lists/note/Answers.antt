use Rattle.std.proofs.Common.{◌≡◌, rules, true}
use Rattle.query_state.proofs.Dormant.{rest_states}
use Rattle.query_state.proofs.lists.note.Goals as goal

pub returns : goal.returns
returns c t dormant_states made =
    let empty : c.is_empty.result ≡ true = search rules in
    let stays : c.is_unchanged.result ≡ true = search rules in
    c.mark_all.ensures t dormant_states (rest_states t c.args.active.now.entries (made (c.is_empty.ensures.empty empty) (c.is_unchanged.ensures stays)))
