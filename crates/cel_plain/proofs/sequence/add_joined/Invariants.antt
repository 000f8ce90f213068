use Rattle.std.proofs.Common.{◌≡◌, ◌++◌, take}
use Rattle.std.specs.List.{filter_map}
use Rattle.cel_lists.specs.Lists.{join_if}
use Rattle.cel_plain.proofs.sequence.add_joined.Given as goal

abbrev pub invariant-loop-next : goal.invariant-loop-next
invariant-loop-next l = l.into.items ≡ l.initial.into.items ++ filter_map (join_if l.positions l.tight l.first) (take l.next-index l.second)
