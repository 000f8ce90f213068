use Rattle.std.proofs.Common.{sym, ◌∙◌, arith, rules}
use Rattle.std.proofs.lemmas.Result.{err_from_is_err_and}
use Rattle.ceql_grammar.specs.RuleReaders.{is_postfix, postfix, postfixes}
use Rattle.ceql_grammar.proofs.LoopExits.{exit, front_none, step_fails, step_goes_plain, step_ends}
use Rattle.ceql_grammar.proofs.LoopRules.{postfixes_again}
use Rattle.ceql_grammar.proofs.formulas.postfixes.Goals as goal

pub loop-alloc-init : goal.loop-alloc-init
loop-alloc-init c = (front_none c.new-postfixes.result.items (postfixes c.args.tokens.now) c.new-postfixes.ensures.items, omega arith)

pub returns-in_err-next : goal.returns-in_err-next
unfolding postfixes
returns-in_err-next c =
    let p = err_from_is_err_and c.from_residual.result c.from_residual.ensures.1 in
    record {
      value = exit (λ v. v.items) c.from_residual.result p.0 c.in_err-next.field-0.0 p.1 p.2 (postfixes c.args.tokens.now)
          (step_fails is_postfix postfix postfixes_again c.loop-alloc.postfixes.items c.loop-alloc.rest.now (postfixes c.args.tokens.now) c.in_err-next.field-0.0 c.loop-alloc.invariant.0 (sym c.begins_postfix.ensures ∙ c.loop-alloc-test.true) c.in_err-next.ensures.value);
      no_longer = search rules;
    }

pub loop-alloc-preserved : goal.loop-alloc-preserved
unfolding postfixes
loop-alloc-preserved c = (
  step_goes_plain is_postfix postfix postfixes_again c.loop-alloc.postfixes.items c.push.new.self.items c.loop-alloc.rest.now (postfixes c.args.tokens.now) c.in_ok-next.next c.in_ok-next.behind_next.now c.loop-alloc.invariant.0 (sym c.begins_postfix.ensures ∙ c.loop-alloc-test.true) c.in_ok-next.ensures.value c.in_ok-push.ensures.items,
  omega (arith, c.loop-alloc.invariant.1, c.in_ok-next.ensures.shorter),
)

pub returns : goal.returns
unfolding postfixes
returns c = record { value = step_ends is_postfix postfix postfixes_again c.loop-alloc.postfixes.items c.loop-alloc.rest.now (postfixes c.args.tokens.now) c.loop-alloc.invariant.0 (sym c.begins_postfix.ensures ∙ c.loop-alloc-test.false); no_longer = search rules }
