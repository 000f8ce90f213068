use Rattle.std.proofs.Common.{◌≡◌, ◌∙◌, arith, add-one, true, false, sym, slice_index_or, rules}
use Rattle.std.proofs.lemmas.List.{take_all}
use Rattle.event_update.specs.ActiveLists.{keys}
use Rattle.event_update.proofs.Cached.{keys_length}
use Rattle.query_state.proofs.Dormant.{one_more}
use Rattle.query_state.proofs.lists.are_dormant_states.Goals as goal

pub loop-k-preserved : goal.loop-k-preserved
loop-k-preserved c =
    let known : c.is_dormant_state.result ≡ true = search rules in
    rw add-one (one_more (λ n. slice_index_or c.args.dormant_states.now n false ≡ true) (keys c.args.active.now) c.loop-k.k c.state.result c.state.ensures c.loop-k.invariant (sym c.is_dormant_state.ensures ∙ known))

pub returns : goal.returns
returns c known =
    let same = keys_length c.args.active.now.entries in
    let long = c.len-k-end.ensures.len in
    let end = c.loop-k-test.false in
    let all = take_all c.loop-k.k (keys c.args.active.now) (omega arith) in
    rw all at c.loop-k.invariant
