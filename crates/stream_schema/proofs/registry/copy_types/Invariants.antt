use Rattle.std.proofs.Common.{◌≡◌, take}
use Rattle.stream_schema.proofs.registry.copy_types.Given as goal

abbrev pub invariant-loop-declared : goal.invariant-loop-declared
invariant-loop-declared l = l.copy.items ≡ take l.declared-index l.types
