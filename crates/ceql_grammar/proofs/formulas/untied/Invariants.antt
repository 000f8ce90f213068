use Rattle.std.proofs.Common.{◌≡◌, ◌∷◌, map}
use Rattle.ceql_grammar.specs.LinkViews.{next_of}
use Rattle.ceql_grammar.proofs.formulas.untied.Given as goal

abbrev pub invariant-loop-link : goal.invariant-loop-link
invariant-loop-link l = l.members.items ≡ l.fn.first ∷ map next_of l.yielded
