use Rattle.query_standing.proofs.Dormancy.{greatest_is_last, no_ops_stand, lets_pass, clock_is_given, goes_on, clock_is_of_events, last_is_shared, fall_is_shared, first_head, no_head}
use Rattle.query_standing.proofs.Nothing.{none_begins}
use Rattle.query_leaves.specs.Expand.{tree_of}
use Rattle.cea_compile.specs.Compiled.{automaton_of}
use Rattle.query_standing.proofs.laws.no_ops_stand.Goals as goal

pub returns-clause-after_no_ops : goal.returns-clause-after_no_ops
returns-clause-after_no_ops c = no_ops_stand

pub returns-clause-begins : goal.returns-clause-begins
returns-clause-begins c = λ q. none_begins (automaton_of (tree_of q)) q.strict

pub returns-clause-no_op : goal.returns-clause-no_op
returns-clause-no_op c = lets_pass

pub returns-clause-given : goal.returns-clause-given
returns-clause-given c = clock_is_given

pub returns-clause-goes_on : goal.returns-clause-goes_on
returns-clause-goes_on c = goes_on

pub returns-clause-greatest : goal.returns-clause-greatest
returns-clause-greatest c = greatest_is_last

pub returns-clause-one : goal.returns-clause-one
returns-clause-one c = clock_is_of_events

pub returns-clause-last : goal.returns-clause-last
returns-clause-last c = last_is_shared

pub returns-clause-falls : goal.returns-clause-falls
returns-clause-falls c = fall_is_shared

pub returns-clause-first : goal.returns-clause-first
returns-clause-first c = first_head

pub returns-clause-none : goal.returns-clause-none
returns-clause-none c = no_head
