-- The first fault of a statement, read with the schema and the number of queries of the statements
-- before it.
use Rattle.std.specs.Prelude.{ℕ, ℤ, pos, negsuc, Bool, not, if◌then◌else◌, nat_le, nat_lt, List, [], ◌∷◌, ◌++◌, Option, Some, None, bytes_eq, is_some}
use Rattle.std.specs.Option.{option_or}
use Rattle.std.specs.List.{list_any}
use Rattle.cer_base.specs.declared.limits.TheConstants.{MOST_LEAVES, MOST_PLACES, MOST_QUERIES}
use Rattle.stream_schema.specs.Types.{Declared, DeclaredType}
use Rattle.stream_schema.specs.Names.{is_taken}
use Rattle.cel_terms.specs.declared.Name.{Name}
use Rattle.cel_terms.specs.declared.Query.{Query}
use Rattle.cel_terms.specs.declared.Window.{Window}
use Rattle.cel_terms.specs.declared.Window.TheVariants.{Free, Events, Clock}
use Rattle.cel_terms.specs.Meaning.{lists_name}
use Rattle.cel_terms.specs.Checked.{names_of, leaf_count, types_read}
use Rattle.ceql_grammar.specs.declared.terms.NumberAt.{NumberAt}
use Rattle.ceql_grammar.specs.declared.terms.KindDecl.{KindDecl}
use Rattle.ceql_grammar.specs.declared.terms.KindDecl.TheVariants as declared
use Rattle.ceql_grammar.specs.declared.terms.AttrDecl.{AttrDecl}
use Rattle.ceql_grammar.specs.declared.terms.Select.{Select}
use Rattle.ceql_grammar.specs.declared.terms.Statement.{Statement}
use Rattle.ceql_grammar.specs.declared.terms.Statement.TheVariants as said
use Rattle.ceql_grammar.specs.declared.faults.QueryFault.TheVariants.{NameTaken, UnknownType, UnknownStream, UnknownAttribute, TooManyLeaves, TooManyQueries, WindowKind, BadScale, BadCount}
use Rattle.ceql_grammar.specs.declared.faults.QueryError.{QueryError}
use Rattle.ceql_parser.specs.FirstFaults.{first_in, first_fault, unless, unless_named}
use Rattle.ceql_parser.specs.TypesAsked.{is_type_name, some_has_attr, each_has_attr, any_kind, is_whole}
use Rattle.ceql_parser.specs.FormulaFaults.{name_fault, formula_fault}

-- how many places DECIMAL takes, from 0 on
abbrev pub scale_of : ℤ → Option ℕ
scale_of (pos n) = if nat_le n MOST_PLACES then Some n else None
scale_of (negsuc n) = None

-- how many answers ANY takes: 1 to 4294967295
abbrev pub count_of : ℤ → Option ℕ
count_of (pos n) = if nat_le 1 n then (if nat_le n 4294967295 then Some n else None) else None
count_of (negsuc n) = None

-- an attribute with a name of an earlier one
abbrev pub repeats_fault : List (List ℕ) → List AttrDecl → Option QueryError
repeats_fault earlier [] = None
repeats_fault earlier (a ∷ later) =
    option_or (unless_named (not (lists_name earlier a.name.text)) NameTaken a.name) (repeats_fault (earlier ++ a.name.text ∷ []) later)

-- a decimal attribute with another number of places
abbrev pub scale_fault : KindDecl → Option QueryError
scale_fault declared.Int = None
scale_fault declared.Text = None
scale_fault declared.Flag = None
scale_fault (declared.Dec number) = unless (is_some (scale_of number.value)) BadScale number.place

abbrev pub attr_fault : AttrDecl → Option QueryError
attr_fault a = scale_fault a.kind

abbrev pub event_fault : Declared → Name → List AttrDecl → Option QueryError
event_fault schema name attrs = first_fault (
    unless_named (not (is_taken schema name.text)) NameTaken name
    ∷ repeats_fault [] attrs
    ∷ first_in attr_fault attrs
    ∷ [])

abbrev pub stream_fault : Declared → Name → List Name → Option QueryError
stream_fault schema name types = first_fault (
    unless_named (not (is_taken schema name.text)) NameTaken name
    ∷ first_in (λ t. unless_named (is_type_name schema.types t.text) UnknownType t) types
    ∷ [])

abbrev pub any_fault : Option NumberAt → Option QueryError
any_fault None = None
any_fault (Some number) = unless (is_some (count_of number.value)) BadCount number.place

abbrev pub is_stream : Declared → List ℕ → Bool
is_stream schema name = list_any (λ s. bytes_eq s.name name) schema.streams

-- a name of the SELECT list is one of the formula's
abbrev pub list_fault : List (List ℕ) → Option (List Name) → Option QueryError
list_fault names None = None
list_fault names (Some listed) = first_in (name_fault names) listed

-- each type of the query has the window's attribute as a whole number
abbrev pub window_fault : List DeclaredType → Window → Option QueryError
window_fault types Free = None
window_fault types (Events n) = None
window_fault types (Clock name n) = unless_named (each_has_attr types name.text is_whole) WindowKind name

-- what is asked of a query with a formula of these names, once the formula is tested
abbrev pub rest_fault : List DeclaredType → List (List ℕ) → Query → Option QueryError
rest_fault types names q = first_fault (
    list_fault names q.select
    ∷ unless (nat_le (leaf_count q.formula) MOST_LEAVES) TooManyLeaves q.place
    ∷ first_in (λ n. unless_named (some_has_attr types n.text any_kind) UnknownAttribute n) q.partition
    ∷ window_fault types q.window
    ∷ [])

-- what is asked of a SELECT once its number of queries, its ANY and its streams are tested
abbrev pub query_fault : List DeclaredType → Query → Option QueryError
query_fault types q = option_or (formula_fault types q.formula) (rest_fault types (names_of q.formula) q)

-- a SELECT after so many queries
abbrev pub select_fault : Declared → ℕ → Select → Option QueryError
select_fault schema before s = first_fault (
    unless (nat_lt before MOST_QUERIES) TooManyQueries s.query.place
    ∷ any_fault s.any
    ∷ first_in (λ n. unless_named (is_stream schema n.text) UnknownStream n) s.query.streams
    ∷ query_fault (types_read schema s.query) s.query
    ∷ [])

abbrev pub statement_fault : Declared → ℕ → Statement → Option QueryError
statement_fault schema before (said.Event name attrs) = event_fault schema name attrs
statement_fault schema before (said.Stream name types) = stream_fault schema name types
statement_fault schema before (said.Select s) = select_fault schema before s
