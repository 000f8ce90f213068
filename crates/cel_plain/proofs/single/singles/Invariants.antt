use Rattle.std.proofs.Common.{◌≡◌, take}
use Rattle.cel_lists.specs.Lists.{singles}
use Rattle.cel_plain.proofs.single.singles.Given as goal

abbrev pub invariant-loop-position : goal.invariant-loop-position
invariant-loop-position l = l.found.items ≡ singles l.schema l.events (take l.position-index l.positions) l.name
