use Rattle.std.proofs.Common.{sym, subst, false, length, List, slice_index_or, ◌≡◌}
use Rattle.std.specs.List.{AllZip}
use Rattle.cer_base.specs.Bits.{has}
use Rattle.cea_determinise.specs.Cea.{IsSet, automaton_of_cea}
use Rattle.match_explain.specs.declared.turns.Turn.{Turn}
use Rattle.match_explain.specs.declared.moves.Last.TheVariants.{Start}
use Rattle.match_explain.specs.Searching.{IsTurnAt, IsRun, HasNoRun, Goes, can_finish}
use Rattle.match_explain.proofs.TurnsMade.{IsMadeOf, sets_at, size_is, run_is, no_run_is, if_some, if_none}
use Rattle.match_explain.proofs.explanation.run.Goals as goal

pub run_over-requires-clause-readers : goal.run_over-requires-clause-readers
run_over-requires-clause-readers c =
    let made : IsMadeOf c.args.schema.now c.args.query.now c.args.events.now c.args.span.now c.args.marks.now c.in_ok-leaves.leaves c.in_ok-cea.cea c.in_ok-conditions.conditions c.as_slice.result.now = record {
      shape = c.in_ok-leaves.ensures.shape;
      leaves = c.in_ok-leaves.ensures.list;
      automaton = c.in_ok-cea.ensures.automaton;
      listed = c.in_ok-conditions.ensures;
      there = c.requires.there;
      zipped = subst (λ (ts : List Turn). AllZip (IsTurnAt c.in_ok-conditions.conditions (has c.in_ok-cea.cea.marked) (length c.in_ok-conditions.conditions) c.args.events.now c.args.marks.now) c.args.span.now ts) (sym c.as_slice.ensures.value) c.in_ok-turns.ensures;
    } in
    λ k d less. subst (λ n. IsSet n (slice_index_or c.as_slice.result.now k d).readers) (sym (size_is c.args.schema.now c.args.query.now c.args.events.now c.args.span.now c.args.marks.now c.in_ok-leaves.leaves c.in_ok-cea.cea c.in_ok-conditions.conditions c.as_slice.result.now made)) (sets_at c.in_ok-conditions.conditions (has c.in_ok-cea.cea.marked) (length c.in_ok-conditions.conditions) c.args.events.now c.args.marks.now c.args.span.now c.as_slice.result.now made.zipped k d less)

pub returns-clause-found : goal.returns-clause-found
returns-clause-found c =
    let made : IsMadeOf c.args.schema.now c.args.query.now c.args.events.now c.args.span.now c.args.marks.now c.in_ok-leaves.leaves c.in_ok-cea.cea c.in_ok-conditions.conditions c.as_slice.result.now = record {
      shape = c.in_ok-leaves.ensures.shape;
      leaves = c.in_ok-leaves.ensures.list;
      automaton = c.in_ok-cea.ensures.automaton;
      listed = c.in_ok-conditions.ensures;
      there = c.requires.there;
      zipped = subst (λ (ts : List Turn). AllZip (IsTurnAt c.in_ok-conditions.conditions (has c.in_ok-cea.cea.marked) (length c.in_ok-conditions.conditions) c.args.events.now c.args.marks.now) c.args.span.now ts) (sym c.as_slice.ensures.value) c.in_ok-turns.ensures;
    } in
    if_some (λ steps. Goes (automaton_of_cea c.in_ok-cea.cea) Start c.as_slice.result.now steps.items) (λ steps. IsRun c.args.schema.now c.args.query.now c.args.events.now c.args.span.now c.args.marks.now steps.items) c.run_over.result (λ steps. run_is c.args.schema.now c.args.query.now c.args.events.now c.args.span.now c.args.marks.now c.in_ok-leaves.leaves c.in_ok-cea.cea c.in_ok-conditions.conditions c.as_slice.result.now made steps.items) c.run_over.ensures.found

pub returns-clause-none : goal.returns-clause-none
returns-clause-none c =
    let made : IsMadeOf c.args.schema.now c.args.query.now c.args.events.now c.args.span.now c.args.marks.now c.in_ok-leaves.leaves c.in_ok-cea.cea c.in_ok-conditions.conditions c.as_slice.result.now = record {
      shape = c.in_ok-leaves.ensures.shape;
      leaves = c.in_ok-leaves.ensures.list;
      automaton = c.in_ok-cea.ensures.automaton;
      listed = c.in_ok-conditions.ensures;
      there = c.requires.there;
      zipped = subst (λ (ts : List Turn). AllZip (IsTurnAt c.in_ok-conditions.conditions (has c.in_ok-cea.cea.marked) (length c.in_ok-conditions.conditions) c.args.events.now c.args.marks.now) c.args.span.now ts) (sym c.as_slice.ensures.value) c.in_ok-turns.ensures;
    } in
    if_none (can_finish (automaton_of_cea c.in_ok-cea.cea) Start c.as_slice.result.now ≡ false) (HasNoRun c.args.schema.now c.args.query.now c.args.events.now c.args.span.now c.args.marks.now) c.run_over.result (no_run_is c.args.schema.now c.args.query.now c.args.events.now c.args.span.now c.args.marks.now c.in_ok-leaves.leaves c.in_ok-cea.cea c.in_ok-conditions.conditions c.as_slice.result.now made) c.run_over.ensures.none
