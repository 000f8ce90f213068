use Rattle.std.proofs.Common.{◌≡◌, take}
use Rattle.query_leaves.specs.Digests.{digest}
use Rattle.query_leaves.proofs.digest.digest_of.Given as goal

abbrev pub invariant-loop-byte : goal.invariant-loop-byte
invariant-loop-byte l = l.sum ≡ digest (take l.byte-index l.bytes)
