-- The answer of a query text: that it is one, and that there is no other.
use Rattle.std.proofs.Common.{◌≡◌, refl, sym, ◌∙◌, ap, ap₂, subst, ℕ, ◌≤◌, arith, List, length, map, Option, Some, None, Result, Ok, Err}
use Rattle.std.specs.Prelude.{IfOk}
use Rattle.cer_base.specs.declared.Location.{Location}
use Rattle.cer_base.specs.declared.OrMemory.{OrMemory}
use Rattle.cer_base.specs.declared.OrMemory.TheVariants as wanted
use Rattle.ceql_lexer.specs.declared.Token.{Token}
use Rattle.ceql_lexer.specs.declared.LexError.{LexError}
use Rattle.ceql_lexer.specs.Tokens.{tokens_of}
use Rattle.ceql_grammar.specs.declared.faults.QueryError.{QueryError}
use Rattle.ceql_grammar.specs.declared.terms.Statement.{Statement}
use Rattle.ceql_grammar.specs.declared.terms.Script.{Script}
use Rattle.cer_base.specs.declared.limits.TheConstants.{LONGEST_TEXT}
use Rattle.ceql_parser.specs.declared.checking.Accepted.{Accepted}
use Rattle.ceql_grammar.specs.Statements.{StatementTree, statement_tree}
use Rattle.ceql_grammar.specs.Texts.{ParseAnswer, IsParseOf, script_view, WhereRefused, WhereAnswered}
use Rattle.ceql_parser.specs.FirstFaults.{FindsFault}
use Rattle.ceql_parser.specs.ScriptFaults.{script_fault, declared_schema, queries_of}
use Rattle.ceql_parser.specs.QueryTrees.{query_tree}
use Rattle.ceql_parser.specs.QueryTexts.{TextAnswer, unless_faulty, checked, IsAnswerOfStatements, IsAnswerAfter, IsAnswerOfTokens, IsAnswerOfLexed, IsAnswerOfText, too_long, short, accepted_view}
use Rattle.ceql_parser.proofs.SameTrees.{same_fault, same_schema, same_queries}
use Rattle.ceql_grammar.proofs.AnswerRules.{one_answer}

same_checked : (ss ts : List Statement) (end : Location) → map statement_tree ss ≡ map statement_tree ts → checked ss end ≡ checked ts end
same_checked ss ts end e =
    ap₂ (λ fault answer. unless_faulty fault answer) (same_fault ss ts end e)
    (ap₂ (λ schema queries. Ok (schema, queries)) (same_schema ss ts e) (same_queries ss ts e))

one_checked : (trees : List StatementTree) (end : Location) (a b : TextAnswer) → IsAnswerOfStatements trees end a → IsAnswerOfStatements trees end b → a ≡ b
one_checked trees end a b h k = h.is ∙ same_checked h.statements k.statements end (h.say ∙ sym k.say) ∙ sym k.is

one_after : (parsed : ParseAnswer) (a b : TextAnswer) → IsAnswerAfter parsed a → IsAnswerAfter parsed b → a ≡ b
one_after (Ok script) a b h k = one_checked script.0 script.1 a b h k
one_after (Err error) a b h k = h ∙ sym k

one_of_tokens : (tokens : List Token) (a b : TextAnswer) → IsAnswerOfTokens tokens a → IsAnswerOfTokens tokens b → a ≡ b
one_of_tokens tokens a b h k =
    one_after k.parsed a b (subst (λ parsed. IsAnswerAfter parsed a) (one_answer tokens h.parsed k.parsed h.read k.read) h.after) k.after

one_of_lexed : (lexed : Result (List Token) LexError) (a b : TextAnswer) → IsAnswerOfLexed lexed a → IsAnswerOfLexed lexed b → a ≡ b
one_of_lexed (Ok tokens) a b h k = one_of_tokens tokens a b h k
one_of_lexed (Err error) a b h k = h ∙ sym k

-- a text has at most one answer
pub one_text_answer : (text : List ℕ) (a b : TextAnswer) → IsAnswerOfText text a → IsAnswerOfText text b → a ≡ b
one_text_answer text a b (too_long l e) (too_long m f) = e ∙ sym f
one_text_answer text a b (too_long l e) (short m k) = absurd (omega (arith, l, m))
one_text_answer text a b (short l h) (too_long m f) = absurd (omega (arith, l, m))
one_text_answer text a b (short l h) (short m k) = one_of_lexed (tokens_of text) a b h k

-- THE ANSWERS THAT ARE FOUND

-- the fault of a text without tokens
pub found_unlexed : (text : List ℕ) (error : LexError) (answer : TextAnswer) → length text ≤ LONGEST_TEXT → tokens_of text ≡ Err error → IsAnswerOfLexed (Err error) answer → IsAnswerOfText text answer
found_unlexed text error answer l e h = short l (subst (λ lexed. IsAnswerOfLexed lexed answer) (sym e) h)

-- the answer after tokens
pub found_lexed : (text : List ℕ) (tokens : List Token) (answer : TextAnswer) → length text ≤ LONGEST_TEXT → tokens_of text ≡ Ok tokens → IsAnswerOfTokens tokens answer → IsAnswerOfText text answer
found_lexed text tokens answer l e h = short l (subst (λ lexed. IsAnswerOfLexed lexed answer) (sym e) h)

-- what is told of statements is their answer
found_checked : (statements : List Statement) (end : Location) (fault : Option QueryError) (told : TextAnswer) → script_fault statements end ≡ fault → told ≡ unless_faulty fault (Ok (declared_schema statements, map query_tree (queries_of statements))) → IsAnswerOfStatements (map statement_tree statements) end told
found_checked statements end fault told e f =
    record { statements = statements; say = refl; is = f ∙ ap (λ o. unless_faulty o (Ok (declared_schema statements, map query_tree (queries_of statements)))) (sym e) }

-- what a call of check answered, as the answer of a script
pub found_script : (script : Script) (result : Result Accepted (OrMemory QueryError)) → FindsFault result (script_fault script.statements script.end) → IfOk result (λ a. a.schema ≡ declared_schema script.statements) → IfOk result (λ a. a.queries ≡ queries_of script.statements) → WhereAnswered accepted_view result (λ answer. IsAnswerAfter (Ok (script_view script)) answer)
found_script script (Ok a) told schema queries =
    found_checked script.statements script.end None _ told (ap₂ (λ s qs. Ok (s, map query_tree qs)) schema queries)
found_script script (Err (wanted.Fault error)) told schema queries =
    found_checked script.statements script.end (Some error) _ told refl
found_script script (Err wanted.Memory) told schema queries = tt

-- what holds of each answer that is after holds of what was read
pub where_read : (P Q : TextAnswer → Type 0) (result : Result Accepted (OrMemory QueryError)) → ((answer : TextAnswer) → P answer → Q answer) → WhereAnswered accepted_view result P → WhereAnswered accepted_view result Q
where_read P Q (Ok a) f h = f (Ok (accepted_view a)) h
where_read P Q (Err (wanted.Fault error)) f h = f (Err error) h
where_read P Q (Err wanted.Memory) f h = tt

-- the fault in the nesting or grammar of tokens
pub found_unparsed : (text : List ℕ) (tokens : List Token) (error : QueryError) → length text ≤ LONGEST_TEXT → tokens_of text ≡ Ok tokens → IsParseOf tokens (Err error) → IsAnswerOfText text (Err error)
found_unparsed text tokens error l e h = found_lexed text tokens (Err error) l e record { parsed = Err error; read = h; after = refl }

-- what follows from a fault of the grammar follows where a fault was told
pub where_refused : (P : ParseAnswer → Type 0) (Q : TextAnswer → Type 0) (stop : OrMemory QueryError) → ((error : QueryError) → P (Err error) → Q (Err error)) → WhereRefused stop P → WhereRefused stop Q
where_refused P Q (wanted.Fault error) f h = f error h
where_refused P Q wanted.Memory f h = tt
