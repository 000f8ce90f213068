use Rattle.std.proofs.Common.{sym, ap, ◌∙◌, length, map, Ok, []}
use Rattle.std.proofs.lemmas.Bool.{eqb-true, eqb-false}
use Rattle.std.proofs.lemmas.Result.{err_from_is_err_and}
use Rattle.ceql_grammar.specs.RuleReaders.{any_token, one_statement, text}
use Rattle.ceql_grammar.specs.RuleForms.{starts}
use Rattle.ceql_grammar.specs.Statements.{statement_tree}
use Rattle.ceql_grammar.proofs.LoopExits.{all_exit, front_none, not_empty, all_read, step_fails, step_goes, step_ends}
use Rattle.ceql_grammar.proofs.LoopRules.{statements_again}
use Rattle.ceql_grammar.proofs.parsing.text.Goals as goal

pub loop-rest-init : goal.loop-rest-init
loop-rest-init c = front_none (map statement_tree c.new-statements.result.items) (text c.args.tokens.now) (ap (map statement_tree) c.new-statements.ensures.items)

pub loop-rest-preserved : goal.loop-rest-preserved
unfolding text
loop-rest-preserved c = step_goes any_token one_statement statements_again statement_tree c.loop-rest.statements.items c.push.new.self.items c.loop-rest.rest.now (text c.args.tokens.now) c.in_ok-next.next c.in_ok-next.behind_next.now c.loop-rest.invariant (not_empty c.loop-rest.rest.now (eqb-false (length c.loop-rest.rest.now) 0 (sym c.loop-rest-test.ensures))) c.in_ok-next.ensures.value c.in_ok-push.ensures.items

pub returns-in_err-next : goal.returns-in_err-next
unfolding text
returns-in_err-next c =
    let p = err_from_is_err_and c.from_residual.result c.from_residual.ensures.1 in
    all_exit (map statement_tree) c.from_residual.result p.0 c.in_err-next.field-0.0 p.1 p.2 (text c.args.tokens.now)
    (step_fails any_token one_statement statements_again (map statement_tree c.loop-rest.statements.items) c.loop-rest.rest.now (text c.args.tokens.now) c.in_err-next.field-0.0 c.loop-rest.invariant (not_empty c.loop-rest.rest.now (eqb-false (length c.loop-rest.rest.now) 0 (sym c.loop-rest-test.ensures))) c.in_err-next.ensures.value)

pub returns : goal.returns
unfolding text
returns c =
    let e = all_read c.loop-rest.rest.now (eqb-true (length c.loop-rest.rest.now) 0 (sym c.loop-rest-test.ensures)) in
    step_ends any_token one_statement statements_again (map statement_tree c.loop-rest.statements.items) c.loop-rest.rest.now (text c.args.tokens.now) c.loop-rest.invariant (ap (starts any_token) e)
    ∙ ap (λ ts. Ok (map statement_tree c.loop-rest.statements.items, ts)) e ∙ ap (λ ss. Ok (map statement_tree ss, [])) (sym c.of.ensures)
