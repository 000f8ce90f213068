-- The files so far have no fault.
use Rattle.std.proofs.Common.{◌≡◌, ◌++◌, map, take, drop}
use Rattle.cer_outside.proofs.Named.{fresh}
use Rattle.cer_outside.proofs.hosts.MemHost.new.Given as goal

abbrev pub invariant-loop-file : goal.invariant-loop-file
invariant-loop-file l = l.file-items ≡ map fresh (take l.file-index l.fn.files.items) ++ drop l.file-index l.fn.files.items
