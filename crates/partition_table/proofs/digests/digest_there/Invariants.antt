use Rattle.std.proofs.Common.{◌≡◌, take}
use Rattle.partition_table.specs.Digests.{digest_there}
use Rattle.partition_table.proofs.digests.digest_there.Given as goal

abbrev pub invariant-loop-place : goal.invariant-loop-place
invariant-loop-place l = l.number ≡ digest_there (take l.place-index l.places) l.values
