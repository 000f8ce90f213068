use Rattle.all_or_none.proofs.Marked.{AreBackUpTo}
use Rattle.all_or_none.proofs.take_back_all.Given as goal

abbrev pub invariant-loop-k : goal.invariant-loop-k
invariant-loop-k g l = AreBackUpTo l.k g.P.Participant.phase l.marked l.fn.query_states l.query_states
