-- What a query text declares and asks, or the first of its faults: that it is too long, else of its
-- tokens, else of its nesting and grammar, else of its statements.
use Rattle.std.specs.Prelude.{◌≡◌, ℕ, ◌≤◌, ◌<◌, List, length, map, Option, Some, None, Result, Ok, Err}
use Rattle.cer_base.specs.declared.Location.{Location}
use Rattle.cer_base.specs.declared.limits.TheConstants.{LONGEST_TEXT}
use Rattle.stream_schema.specs.Types.{Declared}
use Rattle.ceql_lexer.specs.declared.Token.{Token}
use Rattle.ceql_lexer.specs.declared.LexError.{LexError}
use Rattle.ceql_lexer.specs.Tokens.{tokens_of, first_place}
use Rattle.ceql_grammar.specs.declared.faults.QueryFault.TheVariants.{TextTooLong}
use Rattle.ceql_grammar.specs.declared.faults.QueryError.{QueryError}
use Rattle.ceql_grammar.specs.declared.terms.Statement.{Statement}
use Rattle.ceql_parser.specs.declared.checking.Accepted.{Accepted}
use Rattle.ceql_grammar.specs.Statements.{StatementTree, statement_tree}
use Rattle.ceql_grammar.specs.TokenFaults.{token_error}
use Rattle.ceql_grammar.specs.Texts.{ParseAnswer, IsParseOf}
use Rattle.ceql_parser.specs.ScriptFaults.{script_fault, declared_schema, queries_of}
use Rattle.ceql_parser.specs.QueryTrees.{QueryTree, query_tree}

-- what a text declares and its queries, or its first fault
abbrev pub TextAnswer : Type 0
TextAnswer = Result (Declared × List QueryTree) QueryError

abbrev pub unless_faulty : Option QueryError → TextAnswer → TextAnswer
unless_faulty None answer = answer
unless_faulty (Some error) answer = Err error

-- what the statements declare and ask, or their first fault
abbrev pub checked : List Statement → Location → TextAnswer
checked statements end =
    unless_faulty (script_fault statements end) (Ok (declared_schema statements, map query_tree (queries_of statements)))

-- The answer is that of statements which say this.
pub record IsAnswerOfStatements (trees : List StatementTree) (end : Location) (answer : TextAnswer) : Type 0 where
  pub statements : List Statement
  pub say : map statement_tree statements ≡ trees
  pub is : answer ≡ checked statements end

-- the answer of statements, or of the fault in their nesting or grammar
abbrev pub IsAnswerAfter : ParseAnswer → TextAnswer → Type 0
IsAnswerAfter (Ok script) answer = IsAnswerOfStatements script.0 script.1 answer
IsAnswerAfter (Err error) answer = answer ≡ Err error

-- The answer is that of the statements that the tokens are, or of the fault in their nesting or grammar.
pub record IsAnswerOfTokens (tokens : List Token) (answer : TextAnswer) : Type 0 where
  pub parsed : ParseAnswer
  pub read : IsParseOf tokens parsed
  pub after : IsAnswerAfter parsed answer

-- the answer of tokens, or of the fault of a text that has none
abbrev pub IsAnswerOfLexed : Result (List Token) LexError → TextAnswer → Type 0
IsAnswerOfLexed (Ok tokens) answer = IsAnswerOfTokens tokens answer
IsAnswerOfLexed (Err error) answer = answer ≡ Err (token_error error)

-- The answer of a text.
pub data IsAnswerOfText : List ℕ → TextAnswer → Type 0 where
  too_long : {text : List ℕ} {answer : TextAnswer} → LONGEST_TEXT < length text → answer ≡ Err (record { fault = TextTooLong; place = first_place }) → IsAnswerOfText text answer
  short : {text : List ℕ} {answer : TextAnswer} → length text ≤ LONGEST_TEXT → IsAnswerOfLexed (tokens_of text) answer → IsAnswerOfText text answer

-- what an accepted text says
abbrev pub accepted_view : Accepted → Declared × List QueryTree
accepted_view accepted = (accepted.schema, map query_tree accepted.queries)
