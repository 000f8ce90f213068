use Rattle.std.proofs.Common.{◌≡◌, false, take}
use Rattle.std.specs.List.{list_any}
use Rattle.event_update.specs.ActiveLists.{keys}
use Rattle.event_update.specs.Dormancy.{does_accept}
use Rattle.event_update.proofs.dormancy.some_accepts.Given as goal

-- none of the first k states accepts
abbrev pub invariant-loop-k : goal.invariant-loop-k
invariant-loop-k l = list_any (does_accept l.lazy_dfa) (take l.k (keys l.active)) ≡ false
