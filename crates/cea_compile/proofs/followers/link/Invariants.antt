use Rattle.cea_compile.proofs.Sets.{AreLinked}
use Rattle.cea_compile.proofs.followers.link.Given as goal

abbrev pub invariant-loop-j : goal.invariant-loop-j
invariant-loop-j l = AreLinked l.fn.size l.fn.rows l.rows l.from l.to l.j
