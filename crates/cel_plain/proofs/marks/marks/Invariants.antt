use Rattle.std.proofs.Common.{◌≡◌}
use Rattle.cel_lists.specs.Below.{below, is_mark}
use Rattle.cel_plain.proofs.marks.marks.Given as goal

abbrev pub invariant-loop-position : goal.invariant-loop-position
invariant-loop-position l = l.found.items ≡ below (is_mark l.select l.bounds) l.position
