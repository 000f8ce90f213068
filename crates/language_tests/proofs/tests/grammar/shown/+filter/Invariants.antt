use denote.Text.{Utf8}
use denote.Shadow.{shadow}
use Rattle.language_tests.proofs.tests.grammar.shown.+filter.Given as goal

abbrev pub invariant-push_filters-loop-filter : goal.invariant-push_filters-loop-filter
invariant-push_filters-loop-filter l = shadow (Utf8 l.before)
