use Rattle.std.proofs.Common.{◌≡◌, take, map}
use Rattle.cel_lists.specs.Lists.{changed}
use Rattle.cel_plain.proofs.postfix.changed.Given as goal

abbrev pub invariant-loop-found : goal.invariant-loop-found
invariant-loop-found l = l.after.items ≡ map (changed l.postfix) (take l.found-index l.part)
