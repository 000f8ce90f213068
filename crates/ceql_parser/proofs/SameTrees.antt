-- What is told of statements depends on their trees alone.
use Rattle.std.proofs.Common.{◌≡◌, refl, sym, ap, ap₂, ◌∙◌, ℕ, suc, ◌+◌, List, [], ◌∷◌, length, map, Option, None}
use Rattle.std.specs.Prelude.{fold, nat_le, nat_lt, option_and_then, slice_get}
use Rattle.std.specs.List.{filter_map}
use Rattle.std.specs.Option.{option_or}
use Rattle.cer_base.specs.declared.Location.{Location}
use Rattle.stream_schema.specs.Types.{Declared, DeclaredType}
use Rattle.stream_schema.specs.Declaring.{with_type, with_stream}
use Rattle.cel_terms.specs.declared.Name.{Name}
use Rattle.cel_terms.specs.Answers.{query_types}
use Rattle.cel_terms.specs.Checked.{types_read}
use Rattle.ceql_grammar.specs.declared.terms.Statement.{Statement}
use Rattle.ceql_grammar.specs.declared.terms.Statement.TheVariants as said
use Rattle.ceql_grammar.specs.declared.faults.QueryFault.TheVariants.{UnknownStream, UnknownAttribute, TooManyLeaves, TooManyQueries, NoQuery}
use Rattle.ceql_grammar.specs.declared.faults.QueryError.{QueryError}
use Rattle.cer_base.specs.declared.limits.TheConstants.{MOST_LEAVES, MOST_QUERIES}
use Rattle.ceql_parser.specs.FirstFaults.{first_in, first_fault, unless, unless_named}
use Rattle.ceql_parser.specs.TypesAsked.{some_has_attr, any_kind}
use Rattle.ceql_parser.specs.StatementFaults.{count_of, event_fault, stream_fault, any_fault, is_stream, list_fault, window_fault, statement_fault}
use Rattle.ceql_parser.specs.ScriptFaults.{attr_declared, numbers_of, declaring, query_said, queries_of, statements_fault, no_declarations, script_fault, declared_schema}
use Rattle.ceql_grammar.specs.Statements.{StatementTree, event, stream, select, statement_tree}
use Rattle.ceql_parser.specs.QueryTrees.{QueryTree, query_tree}
use Rattle.ceql_parser.proofs.TreesTold.{names_in, names_as, leaves_in, leaves_as, formula_told, formula_as}

-- FAULTS OF A STATEMENT

abbrev types_in : Declared → List Name → List DeclaredType
types_in schema streams = filter_map (slice_get schema.types) (query_types schema streams)

-- the first fault of a statement; of a SELECT with this fault, these names and so many leaves of its formula
abbrev told_with : Declared → ℕ → StatementTree → Option QueryError → List (List ℕ) → ℕ → Option QueryError
told_with schema before (event name attrs) told names leaves = event_fault schema name attrs
told_with schema before (stream name types) told names leaves = stream_fault schema name types
told_with schema before (select s) told names leaves = first_fault (
    unless (nat_lt before MOST_QUERIES) TooManyQueries s.place
    ∷ any_fault s.any
    ∷ first_in (λ n. unless_named (is_stream schema n.text) UnknownStream n) s.streams
    ∷ first_fault (
    told
    ∷ list_fault names s.select
    ∷ unless (nat_le leaves MOST_LEAVES) TooManyLeaves s.place
    ∷ first_in (λ n. unless_named (some_has_attr (types_in schema s.streams) n.text any_kind) UnknownAttribute n) s.partition
    ∷ window_fault (types_in schema s.streams) s.window
    ∷ [])
    ∷ [])

same_told : (schema : Declared) (before : ℕ) (t : StatementTree) (o p : Option QueryError) (m n : List (List ℕ)) (k l : ℕ) → o ≡ p → m ≡ n → k ≡ l → told_with schema before t o m k ≡ told_with schema before t p n l
same_told schema before t o p m n k l e f g =
    ap (λ (x : Option QueryError). told_with schema before t x m k) e
    ∙ ap (λ (x : List (List ℕ)). told_with schema before t p x k) f
    ∙ ap (λ (x : ℕ). told_with schema before t p n x) g

abbrev statement_told : Declared → ℕ → StatementTree → Option QueryError
statement_told schema before (event name attrs) = event_fault schema name attrs
statement_told schema before (stream name types) = stream_fault schema name types
statement_told schema before (select s) = told_with schema before (select s) (formula_told (types_in schema s.streams) s.formula) (names_in s.formula) (leaves_in s.formula)

statement_as : (schema : Declared) (before : ℕ) (s : Statement) → statement_fault schema before s ≡ statement_told schema before (statement_tree s)
statement_as schema before (said.Event name attrs) = refl
statement_as schema before (said.Stream name types) = refl
statement_as schema before (said.Select s) =
    same_told schema before (statement_tree (said.Select s)) _ _ _ _ _ _
    (formula_as (types_read schema s.query) s.query.formula) (names_as s.query.formula) (leaves_as s.query.formula)

-- WHAT STATEMENTS DECLARE, AND THEIR QUERIES

abbrev declared_by : Declared → StatementTree → Declared
declared_by schema (event name attrs) = with_type schema name.text (map attr_declared attrs)
declared_by schema (stream name types) = with_stream schema name.text (numbers_of schema types)
declared_by schema (select s) = schema

schema_as : (schema : Declared) (ss : List Statement) → fold declaring schema ss ≡ fold declared_by schema (map statement_tree ss)
schema_as schema [] = refl
schema_as schema (said.Event name attrs ∷ ss) = schema_as (declaring schema (said.Event name attrs)) ss
schema_as schema (said.Stream name types ∷ ss) = schema_as (declaring schema (said.Stream name types)) ss
schema_as schema (said.Select s ∷ ss) = schema_as schema ss

abbrev queries_told : List StatementTree → List QueryTree
queries_told [] = []
queries_told (event name attrs ∷ rest) = queries_told rest
queries_told (stream name types ∷ rest) = queries_told rest
queries_told (select s ∷ rest) =
    record {
      strict = s.strict;
      any = option_and_then (λ number. count_of number.value) s.any;
      select = s.select;
      streams = s.streams;
      formula = s.formula;
      partition = s.partition;
      window = s.window;
      place = s.place;
    }
    ∷ queries_told rest

queries_as : (ss : List Statement) → map query_tree (queries_of ss) ≡ queries_told (map statement_tree ss)
queries_as [] = refl
queries_as (said.Event name attrs ∷ ss) = queries_as ss
queries_as (said.Stream name types ∷ ss) = queries_as ss
queries_as (said.Select s ∷ ss) = ap (λ (qs : List QueryTree). query_tree (query_said s) ∷ qs) (queries_as ss)

counted_as : (ss : List Statement) → length (queries_of ss) ≡ length (queries_told (map statement_tree ss))
counted_as [] = refl
counted_as (said.Event name attrs ∷ ss) = counted_as ss
counted_as (said.Stream name types ∷ ss) = counted_as ss
counted_as (said.Select s ∷ ss) = ap suc (counted_as ss)

-- FAULTS OF STATEMENTS

abbrev statements_told : Declared → ℕ → List StatementTree → Option QueryError
statements_told schema before [] = None
statements_told schema before (t ∷ rest) =
    option_or (statement_told schema before t) (statements_told (declared_by schema t) (before + length (queries_told (t ∷ []))) rest)

statements_as : (schema : Declared) (before : ℕ) (ss : List Statement) → statements_fault schema before ss ≡ statements_told schema before (map statement_tree ss)
statements_as schema before [] = refl
statements_as schema before (said.Event name attrs ∷ ss) =
    ap₂ (λ a b. option_or a b) (statement_as schema before (said.Event name attrs)) (statements_as (declaring schema (said.Event name attrs)) (before + 0) ss)
statements_as schema before (said.Stream name types ∷ ss) =
    ap₂ (λ a b. option_or a b) (statement_as schema before (said.Stream name types)) (statements_as (declaring schema (said.Stream name types)) (before + 0) ss)
statements_as schema before (said.Select s ∷ ss) =
    ap₂ (λ a b. option_or a b) (statement_as schema before (said.Select s)) (statements_as schema (before + 1) ss)

abbrev script_told : List StatementTree → Location → Option QueryError
script_told ts end = option_or (statements_told no_declarations 0 ts) (unless (nat_lt 0 (length (queries_told ts))) NoQuery end)

script_as : (ss : List Statement) (end : Location) → script_fault ss end ≡ script_told (map statement_tree ss) end
script_as ss end = ap₂ (λ a b. option_or a b) (statements_as no_declarations 0 ss) (ap (λ n. unless (nat_lt 0 n) NoQuery end) (counted_as ss))

-- SAME TREES

-- statements with the same trees have the same first fault
pub same_fault : (ss ts : List Statement) (end : Location) → map statement_tree ss ≡ map statement_tree ts → script_fault ss end ≡ script_fault ts end
same_fault ss ts end e = script_as ss end ∙ ap (λ (us : List StatementTree). script_told us end) e ∙ sym (script_as ts end)

-- they declare the same
pub same_schema : (ss ts : List Statement) → map statement_tree ss ≡ map statement_tree ts → declared_schema ss ≡ declared_schema ts
same_schema ss ts e = schema_as no_declarations ss ∙ ap (λ (us : List StatementTree). fold declared_by no_declarations us) e ∙ sym (schema_as no_declarations ts)

-- and their queries say the same
pub same_queries : (ss ts : List Statement) → map statement_tree ss ≡ map statement_tree ts → map query_tree (queries_of ss) ≡ map query_tree (queries_of ts)
same_queries ss ts e = queries_as ss ∙ ap queries_told e ∙ sym (queries_as ts)
