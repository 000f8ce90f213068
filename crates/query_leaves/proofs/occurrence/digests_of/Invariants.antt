use Rattle.std.proofs.Common.{◌≡◌, map, take}
use Rattle.query_leaves.specs.Digests.{digest}
use Rattle.query_leaves.proofs.occurrence.digests_of.Given as goal

abbrev pub invariant-loop-name : goal.invariant-loop-name
invariant-loop-name l = l.digests.items ≡ map (λ n. digest n.now) (take l.name-index l.names)
