use Rattle.std.proofs.Common.{◌≡◌, take, map}
use Rattle.stream_schema.proofs.registry.listed.Given as goal

abbrev pub invariant-loop-number : goal.invariant-loop-number
invariant-loop-number l = l.list.items ≡ map (λ n. n.now) l.yielded
