use Rattle.std.proofs.Common.{◌≡◌, ◌+◌, ◌*◌, ◌≤◌, length, map}
use Rattle.ceql_grammar.specs.PartlyRead.{with_front}
use Rattle.ceql_grammar.specs.RuleReaders.{disjunction, more_units, more_conjunctions}
use Rattle.ceql_grammar.proofs.conditions.+disjunction.Given as goal

abbrev pub decreases-atom : goal.decreases-atom
decreases-atom g l = length l.tokens.now * 5 + 1

abbrev pub decreases-negated : goal.decreases-negated
decreases-negated g l = length l.tokens.now * 5 + 2

abbrev pub decreases-unit : goal.decreases-unit
decreases-unit g l = length l.tokens.now * 5 + 2

abbrev pub decreases-more_units : goal.decreases-more_units
decreases-more_units g l = length l.tokens.now * 5

abbrev pub decreases-conjunction : goal.decreases-conjunction
decreases-conjunction g l = length l.tokens.now * 5 + 3

abbrev pub decreases-more_conjunctions : goal.decreases-more_conjunctions
decreases-more_conjunctions g l = length l.tokens.now * 5

abbrev pub decreases-disjunction : goal.decreases-disjunction
decreases-disjunction g l = length l.tokens.now * 5 + 4

abbrev pub invariant-more_units-loop-later : goal.invariant-more_units-loop-later
invariant-more_units-loop-later g l =
    (with_front (map g.T.Condition.tree l.members.items) (more_units g.T.Condition.parts (disjunction g.T.Condition.parts) l.rest) ≡ with_front (map g.T.Condition.tree l.initial.members.items) (more_units g.T.Condition.parts (disjunction g.T.Condition.parts) l.tokens))
    × ((length l.rest ≤ length l.tokens) × (length l.initial.members.items ≤ length l.members.items))

abbrev pub decreases-more_units-loop-later : goal.decreases-more_units-loop-later
decreases-more_units-loop-later g l = length l.rest

abbrev pub invariant-more_conjunctions-loop-later : goal.invariant-more_conjunctions-loop-later
invariant-more_conjunctions-loop-later g l =
    (with_front (map g.T.Condition.tree l.members.items) (more_conjunctions g.T.Condition.parts (disjunction g.T.Condition.parts) l.rest) ≡ with_front (map g.T.Condition.tree l.initial.members.items) (more_conjunctions g.T.Condition.parts (disjunction g.T.Condition.parts) l.tokens))
    × ((length l.rest ≤ length l.tokens) × (length l.initial.members.items ≤ length l.members.items))

abbrev pub decreases-more_conjunctions-loop-later : goal.decreases-more_conjunctions-loop-later
decreases-more_conjunctions-loop-later g l = length l.rest
