use Rattle.std.proofs.Common.{◌≡◌, take, map}
use Rattle.cel_lists.specs.Lists.{changed_bound}
use Rattle.cel_plain.proofs.postfix.changed_bounds.Given as goal

abbrev pub invariant-loop-bound : goal.invariant-loop-bound
invariant-loop-bound l = l.after.items ≡ map (changed_bound l.postfix) (take l.bound-index l.bounds)
