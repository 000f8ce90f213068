use Rattle.std.proofs.Common.{length}
use Rattle.ceql_lexer.proofs.Cuts.{Cuts}
use Rattle.ceql_lexer.proofs.cutting.cut.Given as goal

abbrev pub invariant-loop-rest : goal.invariant-loop-rest
invariant-loop-rest l = Cuts l.fn.text l.tokens.items l.place l.rest

abbrev pub decreases-loop-rest : goal.decreases-loop-rest
decreases-loop-rest l = length l.rest
