use Rattle.cea_compile.proofs.Sets.{AreBlank}
use Rattle.cea_compile.proofs.followers.blanks.Given as goal

abbrev pub invariant-loop : goal.invariant-loop
invariant-loop l = AreBlank l.size l.counter l.rows.items
