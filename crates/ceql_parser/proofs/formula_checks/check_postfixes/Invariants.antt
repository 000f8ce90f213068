use Rattle.std.proofs.Common.{drop}
use Rattle.ceql_parser.proofs.NameSetLemmas.{AreWalked}
use Rattle.ceql_parser.proofs.formula_checks.check_postfixes.Given as goal

abbrev pub invariant-loop-postfix : goal.invariant-loop-postfix
invariant-loop-postfix l = AreWalked l.types l.initial.left l.left l.postfixes (drop l.postfix-index l.postfixes)
