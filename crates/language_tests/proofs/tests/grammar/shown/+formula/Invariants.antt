use denote.Text.{Utf8}
use denote.Shadow.{shadow}
use Rattle.language_tests.proofs.tests.grammar.shown.+formula.Given as goal

abbrev pub invariant-push_formulas-loop-formula : goal.invariant-push_formulas-loop-formula
invariant-push_formulas-loop-formula l = shadow (Utf8 l.before)
