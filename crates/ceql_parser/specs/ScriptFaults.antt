-- When the statements of a text are refused, and else its schema and its queries.
use Rattle.std.specs.Prelude.{ℕ, ◌+◌, List, [], ◌∷◌, map, fold, length, Option, None, option_and_then, nat_lt}
use Rattle.std.specs.Option.{option_or, option_map_or}
use Rattle.cer_base.specs.declared.Location.{Location}
use Rattle.stream_schema.specs.Types.{Declared}
use Rattle.stream_schema.specs.Declaring.{with_type, with_stream, numbers_from}
use Rattle.stream_schema.specs.declared.Attr.{Attr}
use Rattle.stream_schema.specs.declared.Kind.{Kind}
use Rattle.stream_schema.specs.declared.Kind.TheVariants as kind
use Rattle.cel_terms.specs.declared.Name.{Name}
use Rattle.cel_terms.specs.declared.Query.{Query}
use Rattle.ceql_grammar.specs.declared.terms.KindDecl.{KindDecl}
use Rattle.ceql_grammar.specs.declared.terms.KindDecl.TheVariants as declared
use Rattle.ceql_grammar.specs.declared.terms.AttrDecl.{AttrDecl}
use Rattle.ceql_grammar.specs.declared.terms.Select.{Select}
use Rattle.ceql_grammar.specs.declared.terms.Statement.{Statement}
use Rattle.ceql_grammar.specs.declared.terms.Statement.TheVariants as said
use Rattle.ceql_grammar.specs.declared.faults.QueryFault.TheVariants.{NoQuery}
use Rattle.ceql_grammar.specs.declared.faults.QueryError.{QueryError}
use Rattle.ceql_parser.specs.FirstFaults.{unless}
use Rattle.ceql_parser.specs.StatementFaults.{scale_of, count_of, statement_fault}

-- the kind that a declaration names; one with a wrong number of places is refused, so what it names is free
abbrev pub kind_declared : KindDecl → Kind
kind_declared declared.Int = kind.Int
kind_declared declared.Text = kind.Text
kind_declared declared.Flag = kind.Flag
kind_declared (declared.Dec number) = kind.Dec (option_map_or (λ n. n) (scale_of number.value) 0)

abbrev pub attr_declared : AttrDecl → Attr
attr_declared a = record { name = a.name.text; kind = kind_declared a.kind }

-- the numbers of the types of these names, each once
abbrev pub numbers_of : Declared → List Name → List ℕ
numbers_of schema types = option_map_or (λ numbers. numbers) (numbers_from [] schema.types (map (λ n. n.text) types)) []

-- the schema with what the statement declares
abbrev pub declaring : Declared → Statement → Declared
declaring schema (said.Event name attrs) = with_type schema name.text (map attr_declared attrs)
declaring schema (said.Stream name types) = with_stream schema name.text (numbers_of schema types)
declaring schema (said.Select s) = schema

-- the query of a SELECT, with the number after its ANY
abbrev pub query_said : Select → Query
query_said s = record s.query { any = option_and_then (λ number. count_of number.value) s.any }

abbrev pub queries_of : List Statement → List Query
queries_of [] = []
queries_of (said.Select s ∷ rest) = query_said s ∷ queries_of rest
queries_of (said.Event name attrs ∷ rest) = queries_of rest
queries_of (said.Stream name types ∷ rest) = queries_of rest

-- the first fault of the statements, each read with what those before it declare and how many queries they are
abbrev pub statements_fault : Declared → ℕ → List Statement → Option QueryError
statements_fault schema before [] = None
statements_fault schema before (s ∷ rest) =
    option_or (statement_fault schema before s) (statements_fault (declaring schema s) (before + length (queries_of (s ∷ []))) rest)

abbrev pub no_declarations : Declared
no_declarations = record { types = []; streams = [] }

-- the first fault of a text: of its statements, or at its end where there is no query
abbrev pub script_fault : List Statement → Location → Option QueryError
script_fault statements end =
    option_or (statements_fault no_declarations 0 statements) (unless (nat_lt 0 (length (queries_of statements))) NoQuery end)

-- what the statements declare
abbrev pub declared_schema : List Statement → Declared
declared_schema statements = fold declaring no_declarations statements
