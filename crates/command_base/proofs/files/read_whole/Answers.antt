use Rattle.std.proofs.Common.{arith}
use Rattle.command_base.proofs.WholeFiles.{reads_more, reads_rest, rest_of_rest, first_all, first_full}
use Rattle.command_base.proofs.files.read_whole.Goals as goal

pub returns-in-Ok-eq0-clause-bytes : goal.returns-in-Ok-eq0-clause-bytes
returns-in-Ok-eq0-clause-bytes g c =
    first_all 1048577 _ _ _ (reads_more _ _ _ _ _ _ c.loop-source.invariant.read c.in-Ok-eq0.ensures.read)
    (c.in-Ok-eq0.ensures.end c.in-Ok-eq0.field-0-test) (omega (arith, c.in-Ok-eq0.ensures.limit))

pub returns-in-Err-clause-rest : goal.returns-in-Err-clause-rest
returns-in-Err-clause-rest g c =
    rest_of_rest _ _ _ (reads_rest _ _ _ c.loop-source.invariant.read) c.read_piece.ensures.rest

pub returns-clause-bytes : goal.returns-clause-bytes
returns-clause-bytes g c = first_full 1048577 _ _ _ c.loop-source.invariant.read (omega arith)
