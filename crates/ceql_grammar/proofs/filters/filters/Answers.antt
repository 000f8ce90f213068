use Rattle.std.proofs.Common.{ap, arith, map, rules}
use Rattle.std.specs.Prelude.{codes}
use Rattle.std.proofs.lemmas.Result.{err_from_is_err_and}
use Rattle.ceql_grammar.specs.WordsAndSigns.{is}
use Rattle.ceql_grammar.specs.RuleReaders.{filter, more_filters, no_value}
use Rattle.ceql_grammar.specs.Trees.{filter_tree}
use Rattle.ceql_grammar.proofs.LoopExits.{exit, front_none, turn_fails, turn_goes_plain, turn_ends}
use Rattle.ceql_grammar.proofs.LoopRules.{filters_again, filters_are_lawful}
use Rattle.ceql_grammar.proofs.filters.filters.Goals as goal

pub loop-later-init : goal.loop-later-init
loop-later-init c = (front_none (map filter_tree c.new-filters.result.items) (more_filters c.args.tokens.now) (ap (map filter_tree) c.new-filters.ensures.items), omega arith)

pub returns-in_err-behind_next : goal.returns-in_err-behind_next
unfolding more_filters
returns-in_err-behind_next c =
    let p = err_from_is_err_and c.from_residual.result c.from_residual.ensures.1 in
    record {
      value = exit (λ v. map filter_tree v.items) c.from_residual.result p.0 c.in_err-behind_next.field-0.0 p.1 p.2 (more_filters c.args.tokens.now)
          (turn_fails (is (codes "FILTER")) no_value (λ _. filter) filters_again (map filter_tree c.loop-later.filters.items) c.loop-later.rest.now (more_filters c.args.tokens.now) tt c.in-Some.later.now c.in_err-behind_next.field-0.0 c.loop-later.invariant.0 c.in-Some.ensures.value c.in_err-behind_next.ensures.value);
      no_longer = search rules;
    }

pub loop-later-preserved : goal.loop-later-preserved
unfolding more_filters
loop-later-preserved c =
    let read = c.in_ok-behind_next.ensures.value in (
      turn_goes_plain (is (codes "FILTER")) no_value (λ _. filter) filters_again (map filter_tree c.loop-later.filters.items) (map filter_tree c.disjunction.new.conditions.items) c.loop-later.rest.now (more_filters c.args.tokens.now) tt c.in-Some.later.now read.0 c.in_ok-behind_next.behind_next.now c.loop-later.invariant.0 c.in-Some.ensures.value read.1.1 read.1.0,
      omega (arith, c.loop-later.invariant.1, c.in-Some.ensures.shorter, c.in_ok-behind_next.ensures.shorter),
    )

pub returns : goal.returns
unfolding more_filters
returns c = record { value = turn_ends (is (codes "FILTER")) no_value (λ _. filter) filters_again (map filter_tree c.loop-later.filters.items) c.loop-later.rest.now (more_filters c.args.tokens.now) c.loop-later.invariant.0 c.in_default.ensures.value; no_longer = search rules }

pub disjunction-requires : goal.disjunction-requires
disjunction-requires c = record { lawful = filters_are_lawful }
