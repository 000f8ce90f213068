use Rattle.std.proofs.Common.{refl, true, false, sym, ◌∙◌, ◌∷◌, arith, map}
use Rattle.std.specs.Prelude.{codes}
use Rattle.std.proofs.lemmas.Result.{err_from_is_err_and}
use Rattle.ceql_grammar.specs.PartlyRead.{with_front}
use Rattle.ceql_grammar.specs.WordsAndSigns.{is}
use Rattle.ceql_grammar.specs.RuleForms.{map_read}
use Rattle.ceql_grammar.specs.RuleReaders.{atom, closed, led_or, conjunction, more_conjunctions, more_units, no_value, disjunction, disjunction_step, unit}
use Rattle.ceql_grammar.proofs.LoopExits.{fails_as, bind_fails, change_fails, turn_fails, turn_goes_plain, turn_ends}
use Rattle.ceql_grammar.proofs.InPlaceReading.{behind_exit, onto_exit, only_behind, one_longer, picked, after_mark, without_mark, parens_fail, parens_end, changed_alone, joint_fails, joint_goes}
use Rattle.ceql_grammar.proofs.conditions.+disjunction.Goals as goal

pub atom-returns-in_err-behind_inside-in-Some-clause-value : goal.atom-returns-in_err-behind_inside-in-Some-clause-value
unfolding atom
atom-returns-in_err-behind_inside-in-Some-clause-value g t c =
    let p = err_from_is_err_and c.from_residual.result c.from_residual.ensures.1 in
    behind_exit g.T.Condition.tree c.args.conditions.now.items c.disjunction.new.conditions.items c.from_residual.result p.0 c.in_err-behind_inside-in-Some.field-0.0 p.1 p.2 (atom g.T.Condition.parts (disjunction g.T.Condition.parts) c.args.tokens.now)
    (parens_fail g.T.Condition.tree c.args.conditions.now.items c.disjunction.new.conditions.items (codes "(") (codes ")") (disjunction g.T.Condition.parts) g.T.Condition.parts.leaf c.args.tokens.now c.in-Some.inside.now c.in-Some.ensures.value c.in_err-behind_inside-in-Some.field-0.0 c.in_err-behind_inside-in-Some.ensures.value)

pub atom-returns-in_ok-behind_inside-in-Some-clause-value : goal.atom-returns-in_ok-behind_inside-in-Some-clause-value
unfolding atom
atom-returns-in_ok-behind_inside-in-Some-clause-value g t c =
    let read = c.in_ok-behind_inside-in-Some.ensures.value in
    parens_end g.T.Condition.tree c.args.conditions.now.items c.disjunction.new.conditions.items (codes "(") (codes ")") (disjunction g.T.Condition.parts) g.T.Condition.parts.leaf c.args.tokens.now c.in-Some.inside.now c.in-Some.ensures.value c.in_ok-behind_inside-in-Some.behind_inside.now read.0 read.1.0 read.1.1 c.expect.result c.expect.ensures.value

pub atom-returns-in-None-clause-value : goal.atom-returns-in-None-clause-value
unfolding atom
atom-returns-in-None-clause-value g t c =
    without_mark g.T.Condition.tree c.args.conditions.now.items c.add_leaf.new.conditions.items (codes "(") (closed (codes ")") (disjunction g.T.Condition.parts)) g.T.Condition.parts.leaf c.args.tokens.now c.in-None.ensures.value c.add_leaf.result c.add_leaf.ensures.value

pub negated-returns-in_err-rest-clause-value : goal.negated-returns-in_err-rest-clause-value
negated-returns-in_err-rest-clause-value g t c =
    let p = err_from_is_err_and c.from_residual.result c.from_residual.ensures.1 in
    behind_exit g.T.Condition.tree c.args.conditions.now.items c.args.conditions.now.items c.from_residual.result p.0 c.in_err-rest.field-0.0 p.1 p.2 (map_read g.T.Condition.parts.negated (atom g.T.Condition.parts (disjunction g.T.Condition.parts)) c.args.tokens.now)
    (change_fails g.T.Condition.parts.negated (atom g.T.Condition.parts (disjunction g.T.Condition.parts)) c.args.tokens.now c.in_err-rest.field-0.0 c.in_err-rest.ensures.value)

pub negated-returns-clause-value : goal.negated-returns-clause-value
negated-returns-clause-value g t c =
    let read = c.in_ok-rest.ensures.value in
    (_, (c.in_ok-add_opposite.ensures, changed_alone g.T.Condition.parts.negated g.T.Condition.parts.all_of c.requires.lawful.alone (atom g.T.Condition.parts (disjunction g.T.Condition.parts)) c.args.tokens.now c.in_ok-rest.rest.now read.0 (map g.T.Condition.tree c.atom.new.conditions.items) (only_behind g.T.Condition.tree c.new-members.result.items c.atom.new.conditions.items read.0 c.new-members.ensures.items read.1.0) read.1.1))

pub unit-returns-in-Some-clause-value : goal.unit-returns-in-Some-clause-value
unfolding unit
unit-returns-in-Some-clause-value g t c =
    picked g.T.Condition.tree c.args.conditions.now.items c.negated.new.conditions.items (led_or (codes "NOT") (map_read g.T.Condition.parts.negated (atom g.T.Condition.parts (disjunction g.T.Condition.parts))) (atom g.T.Condition.parts (disjunction g.T.Condition.parts))) (atom g.T.Condition.parts (disjunction g.T.Condition.parts)) c.args.tokens.now c.negated.result g.T.Condition.parts.takes_not true (sym c.takes_not.ensures ∙ c.if-takes_not.true)
    (after_mark g.T.Condition.tree c.args.conditions.now.items c.negated.new.conditions.items (codes "NOT") (map_read g.T.Condition.parts.negated (atom g.T.Condition.parts (disjunction g.T.Condition.parts))) (atom g.T.Condition.parts (disjunction g.T.Condition.parts)) c.args.tokens.now c.in-Some.later.now c.in-Some.ensures.value c.negated.result c.negated.ensures.value)

pub unit-returns-in-None-clause-value : goal.unit-returns-in-None-clause-value
unfolding unit
unit-returns-in-None-clause-value g t c =
    picked g.T.Condition.tree c.args.conditions.now.items c.atom.new.conditions.items (led_or (codes "NOT") (map_read g.T.Condition.parts.negated (atom g.T.Condition.parts (disjunction g.T.Condition.parts))) (atom g.T.Condition.parts (disjunction g.T.Condition.parts))) (atom g.T.Condition.parts (disjunction g.T.Condition.parts)) c.args.tokens.now c.atom.result g.T.Condition.parts.takes_not true (sym c.takes_not.ensures ∙ c.if-takes_not.true)
    (without_mark g.T.Condition.tree c.args.conditions.now.items c.atom.new.conditions.items (codes "NOT") (map_read g.T.Condition.parts.negated (atom g.T.Condition.parts (disjunction g.T.Condition.parts))) (atom g.T.Condition.parts (disjunction g.T.Condition.parts)) c.args.tokens.now c.in-None.ensures.value c.atom.result c.atom.ensures.value)

pub unit-returns-else-takes_not-clause-value : goal.unit-returns-else-takes_not-clause-value
unfolding unit
unit-returns-else-takes_not-clause-value g t c =
    picked g.T.Condition.tree c.args.conditions.now.items c.atom-else-takes_not.new.conditions.items (led_or (codes "NOT") (map_read g.T.Condition.parts.negated (atom g.T.Condition.parts (disjunction g.T.Condition.parts))) (atom g.T.Condition.parts (disjunction g.T.Condition.parts))) (atom g.T.Condition.parts (disjunction g.T.Condition.parts)) c.args.tokens.now c.atom-else-takes_not.result g.T.Condition.parts.takes_not false (sym c.takes_not.ensures ∙ c.if-takes_not.false) c.atom-else-takes_not.ensures.value

pub more_units-returns-in_err-behind_next-clause-value : goal.more_units-returns-in_err-behind_next-clause-value
unfolding more_units
more_units-returns-in_err-behind_next-clause-value g t c =
    let p = err_from_is_err_and c.from_residual.result c.from_residual.ensures.1 in
    onto_exit g.T.Condition.tree c.unit.new.conditions.items c.from_residual.result p.0 c.in_err-behind_next.field-0.0 p.1 p.2 (with_front (map g.T.Condition.tree c.args.members.now.items) (more_units g.T.Condition.parts (disjunction g.T.Condition.parts) c.args.tokens.now))
    (turn_fails (is (codes "AND")) no_value (λ _. unit g.T.Condition.parts (disjunction g.T.Condition.parts)) c.requires.lawful.units (map g.T.Condition.tree c.loop-later.members.items) c.loop-later.rest.now (with_front (map g.T.Condition.tree c.args.members.now.items) (more_units g.T.Condition.parts (disjunction g.T.Condition.parts) c.args.tokens.now)) tt c.in-Some.later.now c.in_err-behind_next.field-0.0 c.loop-later.invariant.0 c.in-Some.ensures.value c.in_err-behind_next.ensures.value)

pub more_units-loop-later-preserved : goal.more_units-loop-later-preserved
unfolding more_units
more_units-loop-later-preserved g t c =
    let read = c.in_ok-behind_next.ensures.value in (
      turn_goes_plain (is (codes "AND")) no_value (λ _. unit g.T.Condition.parts (disjunction g.T.Condition.parts)) c.requires.lawful.units (map g.T.Condition.tree c.loop-later.members.items) (map g.T.Condition.tree c.unit.new.conditions.items) c.loop-later.rest.now (with_front (map g.T.Condition.tree c.args.members.now.items) (more_units g.T.Condition.parts (disjunction g.T.Condition.parts) c.args.tokens.now)) tt c.in-Some.later.now read.0 c.in_ok-behind_next.behind_next.now c.loop-later.invariant.0 c.in-Some.ensures.value read.1.1 read.1.0,
      (omega (arith, c.loop-later.invariant.1.0, c.in-Some.ensures.shorter, c.in_ok-behind_next.ensures.shorter), one_longer g.T.Condition.tree c.args.members.now.items c.loop-later.members.items c.unit.new.conditions.items read.0 c.loop-later.invariant.1.1 read.1.0),
    )

pub more_units-returns-clause-value : goal.more_units-returns-clause-value
unfolding more_units
more_units-returns-clause-value g t c = turn_ends (is (codes "AND")) no_value (λ _. unit g.T.Condition.parts (disjunction g.T.Condition.parts)) c.requires.lawful.units (map g.T.Condition.tree c.loop-later.members.items) c.loop-later.rest.now (with_front (map g.T.Condition.tree c.args.members.now.items) (more_units g.T.Condition.parts (disjunction g.T.Condition.parts) c.args.tokens.now)) c.loop-later.invariant.0 c.in_default.ensures.value

pub conjunction-returns-in_err-behind_first-clause-value : goal.conjunction-returns-in_err-behind_first-clause-value
unfolding conjunction
conjunction-returns-in_err-behind_first-clause-value g t c =
    let p = err_from_is_err_and c.from_residual.result c.from_residual.ensures.1 in
    behind_exit g.T.Condition.tree c.args.conditions.now.items c.args.conditions.now.items c.from_residual.result p.0 c.in_err-behind_first.field-0.0 p.1 p.2 (conjunction g.T.Condition.parts (disjunction g.T.Condition.parts) c.args.tokens.now)
    (bind_fails (unit g.T.Condition.parts (disjunction g.T.Condition.parts)) (λ x. map_read (λ xs. g.T.Condition.parts.all_of (x ∷ xs)) (more_units g.T.Condition.parts (disjunction g.T.Condition.parts))) c.args.tokens.now c.in_err-behind_first.field-0.0 c.in_err-behind_first.ensures.value)

pub conjunction-returns-in_err-rest-clause-value : goal.conjunction-returns-in_err-rest-clause-value
unfolding conjunction
conjunction-returns-in_err-rest-clause-value g t c =
    let p = err_from_is_err_and c.from_residual-in_err-rest.result c.from_residual-in_err-rest.ensures.1 in
    let read = c.in_ok-behind_first.ensures.value in
    behind_exit g.T.Condition.tree c.args.conditions.now.items c.args.conditions.now.items c.from_residual-in_err-rest.result p.0 c.in_err-rest.field-0.0 p.1 p.2 (conjunction g.T.Condition.parts (disjunction g.T.Condition.parts) c.args.tokens.now)
    (joint_fails (unit g.T.Condition.parts (disjunction g.T.Condition.parts)) (more_units g.T.Condition.parts (disjunction g.T.Condition.parts)) (λ x xs. g.T.Condition.parts.all_of (x ∷ xs)) read.0 (map g.T.Condition.tree c.unit.new.conditions.items) c.args.tokens.now c.in_ok-behind_first.behind_first.now read.1.1 (only_behind g.T.Condition.tree c.new-members.result.items c.unit.new.conditions.items read.0 c.new-members.ensures.items read.1.0) c.in_err-rest.field-0.0 c.in_err-rest.ensures.value)

pub conjunction-returns-clause-value : goal.conjunction-returns-clause-value
unfolding conjunction
conjunction-returns-clause-value g t c =
    let read = c.in_ok-behind_first.ensures.value in
    (_, (c.in_ok-add_all.ensures, joint_goes (unit g.T.Condition.parts (disjunction g.T.Condition.parts)) (more_units g.T.Condition.parts (disjunction g.T.Condition.parts)) (λ x xs. g.T.Condition.parts.all_of (x ∷ xs)) read.0 (map g.T.Condition.tree c.unit.new.conditions.items) c.args.tokens.now c.in_ok-behind_first.behind_first.now read.1.1 (only_behind g.T.Condition.tree c.new-members.result.items c.unit.new.conditions.items read.0 c.new-members.ensures.items read.1.0) (map g.T.Condition.tree c.more_units.new.members.items) c.in_ok-rest.rest.now g.T.Condition.parts.all_of (λ x xs. refl) c.in_ok-rest.ensures.value))

pub more_conjunctions-returns-in_err-behind_next-clause-value : goal.more_conjunctions-returns-in_err-behind_next-clause-value
unfolding more_conjunctions
more_conjunctions-returns-in_err-behind_next-clause-value g t c =
    let p = err_from_is_err_and c.from_residual.result c.from_residual.ensures.1 in
    onto_exit g.T.Condition.tree c.conjunction.new.conditions.items c.from_residual.result p.0 c.in_err-behind_next.field-0.0 p.1 p.2 (with_front (map g.T.Condition.tree c.args.members.now.items) (more_conjunctions g.T.Condition.parts (disjunction g.T.Condition.parts) c.args.tokens.now))
    (turn_fails (is (codes "OR")) no_value (λ _. conjunction g.T.Condition.parts (disjunction g.T.Condition.parts)) c.requires.lawful.conjunctions (map g.T.Condition.tree c.loop-later.members.items) c.loop-later.rest.now (with_front (map g.T.Condition.tree c.args.members.now.items) (more_conjunctions g.T.Condition.parts (disjunction g.T.Condition.parts) c.args.tokens.now)) tt c.in-Some.later.now c.in_err-behind_next.field-0.0 c.loop-later.invariant.0 c.in-Some.ensures.value c.in_err-behind_next.ensures.value)

pub more_conjunctions-loop-later-preserved : goal.more_conjunctions-loop-later-preserved
unfolding more_conjunctions
more_conjunctions-loop-later-preserved g t c =
    let read = c.in_ok-behind_next.ensures.value in (
      turn_goes_plain (is (codes "OR")) no_value (λ _. conjunction g.T.Condition.parts (disjunction g.T.Condition.parts)) c.requires.lawful.conjunctions (map g.T.Condition.tree c.loop-later.members.items) (map g.T.Condition.tree c.conjunction.new.conditions.items) c.loop-later.rest.now (with_front (map g.T.Condition.tree c.args.members.now.items) (more_conjunctions g.T.Condition.parts (disjunction g.T.Condition.parts) c.args.tokens.now)) tt c.in-Some.later.now read.0 c.in_ok-behind_next.behind_next.now c.loop-later.invariant.0 c.in-Some.ensures.value read.1.1 read.1.0,
      (omega (arith, c.loop-later.invariant.1.0, c.in-Some.ensures.shorter, c.in_ok-behind_next.ensures.shorter), one_longer g.T.Condition.tree c.args.members.now.items c.loop-later.members.items c.conjunction.new.conditions.items read.0 c.loop-later.invariant.1.1 read.1.0),
    )

pub more_conjunctions-returns-clause-value : goal.more_conjunctions-returns-clause-value
unfolding more_conjunctions
more_conjunctions-returns-clause-value g t c = turn_ends (is (codes "OR")) no_value (λ _. conjunction g.T.Condition.parts (disjunction g.T.Condition.parts)) c.requires.lawful.conjunctions (map g.T.Condition.tree c.loop-later.members.items) c.loop-later.rest.now (with_front (map g.T.Condition.tree c.args.members.now.items) (more_conjunctions g.T.Condition.parts (disjunction g.T.Condition.parts) c.args.tokens.now)) c.loop-later.invariant.0 c.in_default.ensures.value

pub disjunction-returns-in_err-behind_first-clause-value : goal.disjunction-returns-in_err-behind_first-clause-value
unfolding disjunction_step
disjunction-returns-in_err-behind_first-clause-value g t c =
    let p = err_from_is_err_and c.from_residual.result c.from_residual.ensures.1 in
    behind_exit g.T.Condition.tree c.args.conditions.now.items c.args.conditions.now.items c.from_residual.result p.0 c.in_err-behind_first.field-0.0 p.1 p.2 (disjunction g.T.Condition.parts c.args.tokens.now)
    (fails_as c.in_err-behind_first.field-0.0 (disjunction_step g.T.Condition.parts (disjunction g.T.Condition.parts) c.args.tokens.now) (disjunction g.T.Condition.parts c.args.tokens.now) (sym (c.requires.lawful.step c.args.tokens.now)) (bind_fails (conjunction g.T.Condition.parts (disjunction g.T.Condition.parts)) (λ x. map_read (λ xs. g.T.Condition.parts.any_of (x ∷ xs)) (more_conjunctions g.T.Condition.parts (disjunction g.T.Condition.parts))) c.args.tokens.now c.in_err-behind_first.field-0.0 c.in_err-behind_first.ensures.value))

pub disjunction-returns-in_err-rest-clause-value : goal.disjunction-returns-in_err-rest-clause-value
unfolding disjunction_step
disjunction-returns-in_err-rest-clause-value g t c =
    let p = err_from_is_err_and c.from_residual-in_err-rest.result c.from_residual-in_err-rest.ensures.1 in
    let read = c.in_ok-behind_first.ensures.value in
    behind_exit g.T.Condition.tree c.args.conditions.now.items c.args.conditions.now.items c.from_residual-in_err-rest.result p.0 c.in_err-rest.field-0.0 p.1 p.2 (disjunction g.T.Condition.parts c.args.tokens.now)
    (fails_as c.in_err-rest.field-0.0 (disjunction_step g.T.Condition.parts (disjunction g.T.Condition.parts) c.args.tokens.now) (disjunction g.T.Condition.parts c.args.tokens.now) (sym (c.requires.lawful.step c.args.tokens.now)) (joint_fails (conjunction g.T.Condition.parts (disjunction g.T.Condition.parts)) (more_conjunctions g.T.Condition.parts (disjunction g.T.Condition.parts)) (λ x xs. g.T.Condition.parts.any_of (x ∷ xs)) read.0 (map g.T.Condition.tree c.conjunction.new.conditions.items) c.args.tokens.now c.in_ok-behind_first.behind_first.now read.1.1 (only_behind g.T.Condition.tree c.new-members.result.items c.conjunction.new.conditions.items read.0 c.new-members.ensures.items read.1.0) c.in_err-rest.field-0.0 c.in_err-rest.ensures.value))

pub disjunction-returns-clause-value : goal.disjunction-returns-clause-value
unfolding disjunction_step
disjunction-returns-clause-value g t c =
    let read = c.in_ok-behind_first.ensures.value in
    (_, (c.in_ok-add_any.ensures, c.requires.lawful.step c.args.tokens.now ∙ joint_goes (conjunction g.T.Condition.parts (disjunction g.T.Condition.parts)) (more_conjunctions g.T.Condition.parts (disjunction g.T.Condition.parts)) (λ x xs. g.T.Condition.parts.any_of (x ∷ xs)) read.0 (map g.T.Condition.tree c.conjunction.new.conditions.items) c.args.tokens.now c.in_ok-behind_first.behind_first.now read.1.1 (only_behind g.T.Condition.tree c.new-members.result.items c.conjunction.new.conditions.items read.0 c.new-members.ensures.items read.1.0) (map g.T.Condition.tree c.more_conjunctions.new.members.items) c.in_ok-rest.rest.now g.T.Condition.parts.any_of (λ x xs. refl) c.in_ok-rest.ensures.value))
