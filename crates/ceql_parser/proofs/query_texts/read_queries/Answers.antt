use Rattle.std.proofs.Common.{◌≡◌, refl, ap, ◌∙◌, arith, Err, Ok}
use Rattle.ceql_grammar.specs.Texts.{IsParseOf, script_view}
use Rattle.ceql_grammar.specs.TokenFaults.{token_error}
use Rattle.ceql_parser.specs.QueryTexts.{IsAnswerOfText, IsAnswerAfter, too_long}
use Rattle.ceql_parser.proofs.TextAnswers.{one_text_answer, found_unlexed, found_lexed, found_script, found_unparsed, where_read, where_refused}
use Rattle.ceql_parser.proofs.query_texts.read_queries.Goals as goal

pub returns-then-text-gt-LONGEST_TEXT-clause-found : goal.returns-then-text-gt-LONGEST_TEXT-clause-found
returns-then-text-gt-LONGEST_TEXT-clause-found c = too_long c.if-text-gt-LONGEST_TEXT.true refl

pub returns-in-Err-Fault-clause-found : goal.returns-in-Err-Fault-clause-found
returns-in-Err-Fault-clause-found c =
    found_unlexed c.args.text.now _ _ (omega (arith, c.if-text-gt-LONGEST_TEXT.false)) (rw c.in-Err-Fault.field-0-is at c.in-Err-Fault.ensures.exact) (ap (λ e. Err e) (c.from.ensures ∙ ap token_error c.in-Err-Fault.error-is))

pub returns-in-Ok-parse-clause-found : goal.returns-in-Ok-parse-clause-found
returns-in-Ok-parse-clause-found c =
    let text = c.args.text.now in
    where_read (λ answer. IsAnswerAfter (Ok (script_view c.in-Ok-parse.script)) answer) (λ answer. IsAnswerOfText text answer) c.check.result
    (λ answer h. found_lexed text c.in-Ok.tokens answer (omega (arith, c.if-text-gt-LONGEST_TEXT.false)) c.in-Ok.ensures.exact record { parsed = Ok (script_view c.in-Ok-parse.script); read = c.in-Ok-parse.ensures.found; after = h })
    (found_script c.in-Ok-parse.script c.check.result c.check.ensures.told c.check.ensures.schema c.check.ensures.queries)

pub returns-in-Ok-parse-clause-only : goal.returns-in-Ok-parse-clause-only
returns-in-Ok-parse-clause-only c = λ answer k.
    let text = c.args.text.now in
    where_read (λ answer. IsAnswerAfter (Ok (script_view c.in-Ok-parse.script)) answer) (λ given. given ≡ answer) c.check.result
    (λ given h. one_text_answer text given answer (found_lexed text c.in-Ok.tokens given (omega (arith, c.if-text-gt-LONGEST_TEXT.false)) c.in-Ok.ensures.exact record { parsed = Ok (script_view c.in-Ok-parse.script); read = c.in-Ok-parse.ensures.found; after = h }) k)
    (found_script c.in-Ok-parse.script c.check.result c.check.ensures.told c.check.ensures.schema c.check.ensures.queries)

pub returns-clause-found : goal.returns-clause-found
returns-clause-found c =
    where_refused (λ answer. IsParseOf c.in-Ok.tokens answer) (λ answer. IsAnswerOfText c.args.text.now answer) c.in-Err.stop
    (λ error h. found_unparsed c.args.text.now c.in-Ok.tokens error (omega (arith, c.if-text-gt-LONGEST_TEXT.false)) c.in-Ok.ensures.exact h)
    c.in-Err.ensures.found

pub returns-clause-only : goal.returns-clause-only
returns-clause-only c = λ answer k.
    where_refused (λ parsed. IsParseOf c.in-Ok.tokens parsed) (λ given. given ≡ answer) c.in-Err.stop
    (λ error h. one_text_answer c.args.text.now (Err error) answer (found_unparsed c.args.text.now c.in-Ok.tokens error (omega (arith, c.if-text-gt-LONGEST_TEXT.false)) c.in-Ok.ensures.exact h) k)
    c.in-Err.ensures.found
