use Rattle.std.proofs.Common.{◌≡◌, take}
use Rattle.cel_lists.specs.Lists.{filtered}
use Rattle.cel_plain.proofs.filter.filtered.Given as goal

abbrev pub invariant-loop-found : goal.invariant-loop-found
invariant-loop-found l = l.after.items ≡ filtered l.schema l.events (take l.found-index l.found-items) l.filter
