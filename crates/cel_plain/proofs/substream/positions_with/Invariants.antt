use Rattle.std.proofs.Common.{◌≡◌}
use Rattle.cel_lists.specs.Below.{below, shares_at}
use Rattle.cel_plain.proofs.substream.positions_with.Given as goal

abbrev pub invariant-loop-position : goal.invariant-loop-position
invariant-loop-position l = l.found.items ≡ below (shares_at l.schema l.query l.events l.there) l.position
