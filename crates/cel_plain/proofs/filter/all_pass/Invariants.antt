use Rattle.std.proofs.Common.{◌≡◌, true, take}
use Rattle.std.specs.List.{list_all}
use Rattle.cel_lists.specs.Lists.{passes}
use Rattle.cel_plain.proofs.filter.all_pass.Given as goal

abbrev pub invariant-loop-bound : goal.invariant-loop-bound
invariant-loop-bound l = list_all (passes l.schema l.events l.name l.pred) (take l.bound-index l.bounds) ≡ true
