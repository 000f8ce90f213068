use denote.Text.{Utf8}
use denote.Shadow.{shadow}
use Rattle.language_tests.proofs.tests.grammar.shown.+pred.Given as goal

abbrev pub invariant-push_preds-loop-pred : goal.invariant-push_preds-loop-pred
invariant-push_preds-loop-pred l = shadow (Utf8 l.before)
