use Rattle.std.proofs.Common.{◌∙◌, arith, add-one, sym, ap}
use Rattle.std.specs.List.{list_any}
use Rattle.event_update.specs.ActiveLists.{keys}
use Rattle.event_update.specs.Dormancy.{does_accept}
use Rattle.event_update.proofs.Cached.{take_all, keys_length}
use Rattle.event_update.proofs.Dormant.{none_more, some_there}
use Rattle.event_update.proofs.dormancy.some_accepts.Goals as goal

pub loop-k-preserved : goal.loop-k-preserved
loop-k-preserved c = rw add-one (none_more (does_accept c.args.lazy_dfa.now) (keys c.args.active.now) c.loop-k.k c.state.result c.state.ensures c.loop-k.invariant (sym c.accepts.ensures ∙ c.if-accepts.false))

pub returns-then-accepts : goal.returns-then-accepts
returns-then-accepts c = sym (some_there (does_accept c.args.lazy_dfa.now) (keys c.args.active.now) c.loop-k.k c.state.result c.state.ensures (sym c.accepts.ensures ∙ c.if-accepts.true))

pub returns : goal.returns
returns c =
    let same = keys_length c.args.active.now.entries in
    let long = c.len-k-end.ensures.len in
    let end = c.loop-k-test.false in
    sym (sym (ap (list_any (does_accept c.args.lazy_dfa.now)) (take_all (keys c.args.active.now) c.loop-k.k (omega arith))) ∙ c.loop-k.invariant)
