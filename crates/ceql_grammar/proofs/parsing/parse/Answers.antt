use Rattle.std.proofs.Common.{◌∙◌, sym, subst, refl, map, []}
use Rattle.ceql_grammar.specs.ReadResults.{StopsAs}
use Rattle.ceql_grammar.specs.RuleReaders.{text}
use Rattle.ceql_grammar.specs.Statements.{statement_tree}
use Rattle.ceql_grammar.specs.Texts.{IsShallow, IsTooDeep}
use Rattle.ceql_grammar.proofs.AnswerRules.{one_answer, found_deep, found_text, found_stray}
use Rattle.ceql_grammar.proofs.LawfulRules.{text_lawful}
use Rattle.ceql_grammar.proofs.TextRules.{accepted}
use Rattle.ceql_grammar.proofs.parsing.parse.Goals as goal

pub returns-in-Some-too_deep-clause-only : goal.returns-in-Some-too_deep-clause-only
returns-in-Some-too_deep-clause-only c = λ answer h.
    one_answer c.args.tokens.now _ answer (found_deep c.args.tokens.now c.in-Some.body.now c.in-Some.end.now c.in-Some-too_deep.place (sym c.as_slice.ensures ∙ c.in-Some.ensures.cases.0) (subst (λ ts. IsTooDeep ts c.in-Some-too_deep.place) c.as_slice-in-Some.ensures c.in-Some-too_deep.ensures)) h

pub returns-in-Ok-clause-found : goal.returns-in-Ok-clause-found
returns-in-Ok-clause-found c =
    found_text c.args.tokens.now c.in-Some.body.now c.in-Some.end.now (map statement_tree c.in-Ok.statements) c.in-Some.end.now.place (sym c.as_slice.ensures ∙ c.in-Some.ensures.cases.0) (subst IsShallow c.as_slice-in-Some.ensures c.in_default.ensures) c.in-Ok.ensures refl

pub returns-in-Ok-clause-only : goal.returns-in-Ok-clause-only
returns-in-Ok-clause-only c = λ answer h. one_answer c.args.tokens.now _ answer
    (found_text c.args.tokens.now c.in-Some.body.now c.in-Some.end.now (map statement_tree c.in-Ok.statements) c.in-Some.end.now.place (sym c.as_slice.ensures ∙ c.in-Some.ensures.cases.0) (subst IsShallow c.as_slice-in-Some.ensures c.in_default.ensures) c.in-Ok.ensures refl) h

pub returns-in-Ok-clause-lawful : goal.returns-in-Ok-clause-lawful
returns-in-Ok-clause-lawful c =
    text_lawful c.in-Some.body.now (map statement_tree c.in-Ok.statements) (accepted c.in-Some.body.now (map statement_tree c.in-Ok.statements) [] c.in-Ok.ensures)

pub returns-in-Err-Fault-clause-found : goal.returns-in-Err-Fault-clause-found
returns-in-Err-Fault-clause-found c =
    found_stray c.args.tokens.now c.in-Some.body.now c.in-Some.end.now c.in-Err-Fault.left.now c.unexpected.result (sym c.as_slice.ensures ∙ c.in-Some.ensures.cases.0) (subst IsShallow c.as_slice-in-Some.ensures c.in_default.ensures)
    (subst (λ e. StopsAs e (text c.in-Some.body.now)) c.in-Err-Fault.field-0-is c.in-Err-Fault.ensures) c.unexpected.ensures.fault c.unexpected.ensures.place

pub returns-in-Err-Fault-clause-only : goal.returns-in-Err-Fault-clause-only
returns-in-Err-Fault-clause-only c = λ answer h. one_answer c.args.tokens.now _ answer
    (found_stray c.args.tokens.now c.in-Some.body.now c.in-Some.end.now c.in-Err-Fault.left.now c.unexpected.result (sym c.as_slice.ensures ∙ c.in-Some.ensures.cases.0) (subst IsShallow c.as_slice-in-Some.ensures c.in_default.ensures)
    (subst (λ e. StopsAs e (text c.in-Some.body.now)) c.in-Err-Fault.field-0-is c.in-Err-Fault.ensures) c.unexpected.ensures.fault c.unexpected.ensures.place) h
