use Rattle.std.proofs.Common.{◌≡◌}
use Rattle.program_tests.proofs.tests.commands.checkpoints.add_lines.Given as goal

abbrev pub invariant-loop-line : goal.invariant-loop-line
invariant-loop-line l = l.keep.schema ≡ l.schema
