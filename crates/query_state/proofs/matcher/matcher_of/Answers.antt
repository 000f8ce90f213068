use Rattle.std.proofs.Common.{Bool, List, ◌∙◌, ap, sym}
use Rattle.cer_base.specs.Bits.{has}
use Rattle.cea_determinise.specs.Runs.{Automaton}
use Rattle.query_state.proofs.matcher.matcher_of.Goals as goal

pub returns-clause-first : goal.returns-clause-first
returns-clause-first c k = ap (λ (a : Automaton). a.first k) (sym c.in_ok-cea.ensures.automaton) ∙ ap (λ (b : List Bool). has b k) (sym c.in_ok-first.ensures)
