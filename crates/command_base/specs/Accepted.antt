-- What a query text declares and asks, or why it is refused.
use Rattle.std.specs.Prelude.{List, map, Ok, Err, ℕ}
use Rattle.cer_base.specs.declared.Location.{Location}
use Rattle.stream_schema.specs.Types.{Declared}
use Rattle.cel_terms.specs.declared.Query.{Query}
use Rattle.ceql_grammar.specs.declared.faults.QueryFault.{QueryFault}
use Rattle.ceql_parser.specs.QueryTexts.{IsAnswerOfText}
use Rattle.ceql_parser.specs.QueryTrees.{query_tree}

-- the text declares the schema and asks the queries
abbrev pub Accepts : List ℕ → Declared → List Query → Type 0
Accepts text schema queries = IsAnswerOfText text (Ok (schema, map query_tree queries))

-- this is the text's first fault, at this place
abbrev pub IsRefusedText : List ℕ → QueryFault → Location → Type 0
IsRefusedText text fault place = IsAnswerOfText text (Err (record { fault = fault; place = place }))

-- The text is accepted, and this is said of its schema and its queries.
pub record SaysOf (text : List ℕ) (Says : Declared → List Query → Type 0) : Type 0 where
  pub schema : Declared
  pub queries : List Query
  pub accepted : Accepts text schema queries
  pub says : Says schema queries
