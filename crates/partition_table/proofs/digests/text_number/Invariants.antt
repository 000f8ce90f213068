use Rattle.std.proofs.Common.{◌≡◌, take}
use Rattle.partition_table.specs.Digests.{text_number}
use Rattle.partition_table.proofs.digests.text_number.Given as goal

abbrev pub invariant-loop-byte : goal.invariant-loop-byte
invariant-loop-byte l = l.number ≡ text_number (take l.byte-index l.bytes)
