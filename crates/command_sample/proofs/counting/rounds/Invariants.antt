-- So many events were taken, and all answers up to there are added.
use Rattle.command_sample.specs.Progress.{IsAt}
use Rattle.command_sample.proofs.counting.rounds.Given as goal

abbrev pub invariant-loop-i : goal.invariant-loop-i
invariant-loop-i g l = IsAt l.fn.seed l.i l.engine l.x l.first.answers l.first.total l.second.answers l.second.total
