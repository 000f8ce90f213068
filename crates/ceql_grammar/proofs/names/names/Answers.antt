use Rattle.std.proofs.Common.{sym, ap, ◌∙◌, arith, Ok, rules}
use Rattle.std.specs.Prelude.{codes}
use Rattle.std.proofs.lemmas.Result.{err_from_is_err_and}
use Rattle.ceql_grammar.specs.WordsAndSigns.{is}
use Rattle.ceql_grammar.specs.RuleReaders.{name, names, more_names, no_value}
use Rattle.ceql_grammar.proofs.LoopExits.{exit, turn_fails, turn_goes_plain, turn_ends}
use Rattle.ceql_grammar.proofs.LoopRules.{names_again}
use Rattle.ceql_grammar.proofs.names.names.Goals as goal

pub returns-in_err-next : goal.returns-in_err-next
unfolding more_names
returns-in_err-next c =
    let p = err_from_is_err_and c.from_residual-in_err-next.result c.from_residual-in_err-next.ensures.1 in
    record {
      value = exit (λ ns. ns) c.from_residual-in_err-next.result p.0 c.in_err-next.field-0.0 p.1 p.2 (names c.args.tokens.now)
          (turn_fails (is (codes ",")) no_value (λ _. name) names_again c.loop-later.names.items c.loop-later.rest.now (names c.args.tokens.now) tt c.in-Some.later.now c.in_err-next.field-0.0 c.loop-later.invariant.0 c.in-Some.ensures.value c.in_err-next.ensures.value);
      shorter = search rules;
    }

pub loop-later-preserved : goal.loop-later-preserved
unfolding more_names
loop-later-preserved c = (
  turn_goes_plain (is (codes ",")) no_value (λ _. name) names_again c.loop-later.names.items c.push-in-Some.new.self.items c.loop-later.rest.now (names c.args.tokens.now) tt c.in-Some.later.now c.in_ok-next.next c.in_ok-next.behind_next.now c.loop-later.invariant.0 c.in-Some.ensures.value c.in_ok-next.ensures.value c.in_ok-push-2.ensures.items,
  omega (arith, c.in-Some.ensures.shorter, c.in_ok-next.ensures.shorter),
)

pub returns : goal.returns
unfolding more_names
returns c =
    record {
      value = turn_ends (is (codes ",")) no_value (λ _. name) names_again c.loop-later.names.items c.loop-later.rest.now (names c.args.tokens.now) c.loop-later.invariant.0 c.in_default.ensures.value
          ∙ ap (λ ns. Ok (ns, c.loop-later.rest.now)) (sym c.of.ensures);
      shorter = search rules;
    }
