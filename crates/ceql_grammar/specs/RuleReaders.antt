-- How each rule of the grammar is read from left to right, with one token of look-ahead. `parse` does not
-- promise this but the grammar; the functions below it are stated by these readers.
use Rattle.std.specs.Prelude.{ℕ, ◌*◌, pos, Bool, true, false, List, [], ◌∷◌, codes, Option, Some, None, Ok, Err, if◌then◌else◌}
use Rattle.cer_base.specs.declared.Location.{Location}
use Rattle.ceql_lexer.specs.declared.Token.{Token}
use Rattle.stream_schema.specs.declared.Value.{Value}
use Rattle.cel_terms.specs.declared.Name.{Name}
use Rattle.stream_schema.specs.declared.Op.{Op}
use Rattle.cel_terms.specs.declared.Postfix.{Postfix}
use Rattle.cel_terms.specs.declared.Postfix.TheVariants.{Plus, NextPlus, Named, Keep}
use Rattle.cel_terms.specs.declared.Window.{Window}
use Rattle.cel_terms.specs.declared.Window.TheVariants.{Free, Events, Clock}
use Rattle.ceql_grammar.specs.declared.terms.NumberAt.{NumberAt}
use Rattle.ceql_grammar.specs.declared.terms.KindDecl.{KindDecl}
use Rattle.ceql_grammar.specs.declared.terms.KindDecl.TheVariants as kind
use Rattle.ceql_grammar.specs.declared.terms.AttrDecl.{AttrDecl}
use Rattle.ceql_grammar.specs.WordsAndSigns.{among, is, is_name_token, token_name}
use Rattle.ceql_grammar.specs.Values.{is_op, op_of, is_literal, literal_of, is_number, is_count, unsigned_number, is_unit, seconds_in}
use Rattle.ceql_grammar.specs.Trees.{PredTree, compares, negates, FilterTree, on, FormulaTree, of_type}
use Rattle.ceql_grammar.specs.MemberLists.{all_preds_of, any_pred_of, all_filters_of, any_filter_of}
use Rattle.ceql_grammar.specs.Formulas.{post_of, chain_tree, either_of, under_of, is_link}
use Rattle.ceql_grammar.specs.Statements.{StatementTree, event, stream, select, placed_number, is_events}
use Rattle.ceql_grammar.specs.RuleForms.{TokenReader, bind, map_read, one_token, starts, give, fixpoint, many, branch}

abbrev pub no_value : Token → Unit {0}
no_value t = tt

-- a word or a sign
abbrev pub mark_token : List ℕ → TokenReader (Unit {0})
mark_token mark = one_token (is mark) no_value

-- a reader after a word or a sign
abbrev pub led : {X : Type 0} → List ℕ → TokenReader X → TokenReader X
led mark r = bind (mark_token mark) (λ _. r)

-- a reader after a word or a sign, else another
abbrev pub led_or : {X : Type 0} → List ℕ → TokenReader X → TokenReader X → TokenReader X
led_or mark r s = branch (is mark) no_value (λ _. r) s

-- a reader, and a word or a sign after it
abbrev pub closed : {X : Type 0} → List ℕ → TokenReader X → TokenReader X
closed mark r = bind r (λ x. map_read (λ _. x) (mark_token mark))

-- a reader again and again, each time after a word or a sign
abbrev pub many_after : {X : Type 0} → List ℕ → TokenReader X → TokenReader (List X)
many_after mark r = many (is mark) (led mark r)

abbrev pub name : TokenReader Name
name = one_token is_name_token token_name

unfoldable pub more_names : TokenReader (List Name)
more_names = many_after (codes ",") name

unfoldable pub names : TokenReader (List Name)
names = bind name (λ a. map_read (λ ns. a ∷ ns) more_names)

unfoldable pub bracketed_names : TokenReader (List Name)
bracketed_names = led (codes "[") (closed (codes "]") names)

-- CONDITIONS: predicates and filters, parentheses in them being read by the reader that is given

-- what is read of a condition where no parenthesis stands, members joined by AND and by OR, whether a
-- NOT may stand before a unit, and what it makes of it
pub record Parts (X : Type 0) : Type 0 where
  pub leaf : TokenReader X
  pub all_of : List X → X
  pub any_of : List X → X
  pub takes_not : Bool
  pub negated : X → X

unfoldable pub atom : {X : Type 0} → Parts X → TokenReader X → TokenReader X
atom parts inner = led_or (codes "(") (closed (codes ")") inner) parts.leaf

unfoldable pub unit : {X : Type 0} → Parts X → TokenReader X → TokenReader X
unit parts inner = if parts.takes_not then led_or (codes "NOT") (map_read parts.negated (atom parts inner)) (atom parts inner) else atom parts inner

unfoldable pub more_units : {X : Type 0} → Parts X → TokenReader X → TokenReader (List X)
more_units parts inner = many_after (codes "AND") (unit parts inner)

unfoldable pub conjunction : {X : Type 0} → Parts X → TokenReader X → TokenReader X
conjunction parts inner = bind (unit parts inner) (λ x. map_read (λ xs. parts.all_of (x ∷ xs)) (more_units parts inner))

unfoldable pub more_conjunctions : {X : Type 0} → Parts X → TokenReader X → TokenReader (List X)
more_conjunctions parts inner = many_after (codes "OR") (conjunction parts inner)

unfoldable pub disjunction_step : {X : Type 0} → Parts X → TokenReader X → TokenReader X
disjunction_step parts inner = bind (conjunction parts inner) (λ x. map_read (λ xs. parts.any_of (x ∷ xs)) (more_conjunctions parts inner))

unfoldable pub disjunction : {X : Type 0} → Parts X → TokenReader X
disjunction parts = fixpoint (disjunction_step parts)

abbrev pub op : TokenReader Op
op = one_token is_op op_of

abbrev pub literal : TokenReader Value
literal = one_token is_literal literal_of

unfoldable pub comparison : TokenReader PredTree
comparison = bind name (λ a. bind op (λ o. map_read (compares a o) literal))

abbrev pub pred_parts : Parts PredTree
pred_parts = record { leaf = comparison; all_of = all_preds_of; any_of = any_pred_of; takes_not = true; negated = negates }

abbrev pub pred : TokenReader PredTree
pred = disjunction pred_parts

unfoldable pub on_name : TokenReader FilterTree
on_name = bind name (λ x. map_read (on x) (led (codes "[") (closed (codes "]") pred)))

abbrev pub filter_parts : Parts FilterTree
filter_parts = record { leaf = on_name; all_of = all_filters_of; any_of = any_filter_of; takes_not = false; negated = λ c. c }

abbrev pub filter : TokenReader FilterTree
filter = disjunction filter_parts

-- FORMULAS

unfoldable pub word_postfix : TokenReader Postfix
word_postfix = led_or (codes "AS") (map_read Named name) (led (codes "KEEP") (map_read Keep bracketed_names))

unfoldable pub postfix : TokenReader Postfix
postfix = led_or (codes "+") (give Plus) (led_or (codes ":+") (give NextPlus) word_postfix)

-- `+`, `:+`, AS or KEEP
abbrev pub is_postfix : Token → Bool
is_postfix = among (codes "+" ∷ codes ":+" ∷ codes "AS" ∷ codes "KEEP" ∷ [])

unfoldable pub postfixes : TokenReader (List Postfix)
postfixes = many is_postfix postfix

unfoldable pub more_filters : TokenReader (List FilterTree)
more_filters = many_after (codes "FILTER") filter

abbrev pub is_tight : Token → Bool
is_tight = is (codes ":")

-- a formula's alternatives and its filters
abbrev pub FormulaParts : Type 0
FormulaParts = FormulaTree × List FilterTree

abbrev pub parts_tree : FormulaParts → FormulaTree
parts_tree f = under_of f.0 f.1

unfoldable pub base : TokenReader FormulaParts → TokenReader FormulaTree
base inner = led_or (codes "(") (bind inner (λ f. map_read (λ _. parts_tree f) (mark_token (codes ")")))) (map_read of_type name)

unfoldable pub post_step : TokenReader FormulaParts → TokenReader FormulaTree
post_step inner = bind (base inner) (λ f. map_read (post_of f) postfixes)

unfoldable pub more_links : TokenReader FormulaParts → TokenReader (List (Bool × FormulaTree))
more_links inner = many is_link (bind (one_token is_link is_tight) (λ tight. map_read (λ f. (tight, f)) (post_step inner)))

unfoldable pub chain_step : TokenReader FormulaParts → TokenReader FormulaTree
chain_step inner = bind (post_step inner) (λ f. map_read (chain_tree f) (more_links inner))

unfoldable pub more_chains : TokenReader FormulaParts → TokenReader (List FormulaTree)
more_chains inner = many_after (codes "OR") (chain_step inner)

unfoldable pub either_step : TokenReader FormulaParts → TokenReader FormulaTree
either_step inner = bind (chain_step inner) (λ f. map_read (either_of f) (more_chains inner))

unfoldable pub formula_step : TokenReader FormulaParts → TokenReader FormulaParts
formula_step inner = bind (either_step inner) (λ f. map_read (λ cs. (f, cs)) more_filters)

unfoldable pub formula : TokenReader FormulaParts
formula = fixpoint formula_step

-- STATEMENTS

abbrev pub whole_number : TokenReader NumberAt
whole_number = one_token is_number placed_number

unfoldable pub decimal_kind : TokenReader KindDecl
decimal_kind = led (codes "(") (closed (codes ")") (map_read kind.Dec whole_number))

unfoldable pub attr_kind : TokenReader KindDecl
attr_kind = led_or (codes "INT") (give kind.Int) (led_or (codes "STRING") (give kind.Text) (led_or (codes "BOOL") (give kind.Flag) (led (codes "DECIMAL") decimal_kind)))

unfoldable pub attr : TokenReader AttrDecl
attr = bind name (λ a. map_read (λ k. record { name = a; kind = k }) attr_kind)

unfoldable pub more_attrs : TokenReader (List AttrDecl)
more_attrs = many_after (codes ",") attr

unfoldable pub some_attrs : TokenReader (List AttrDecl)
some_attrs = bind attr (λ a. map_read (λ rest. a ∷ rest) more_attrs)

-- attributes and the `)` after them, there being none where the `)` stands in front
unfoldable pub attrs_closed : TokenReader (List AttrDecl)
attrs_closed = led_or (codes ")") (give []) (closed (codes ")") some_attrs)

-- where a statement may end: before DECLARE, before SELECT and at the end
abbrev pub continues_statement : Token → Bool
continues_statement t = if among (codes "DECLARE" ∷ codes "SELECT" ∷ []) t then false else true

unfoldable pub ended : TokenReader (Unit {0})
ended ts = if starts continues_statement ts then Err ts else Ok (tt, ts)

unfoldable pub event_declared : TokenReader StatementTree
event_declared = bind name (λ n. bind (led (codes "(") attrs_closed) (λ attrs. map_read (λ _. event n attrs) ended))

unfoldable pub stream_declared : TokenReader StatementTree
stream_declared = bind name (λ n. bind (led (codes "(") (closed (codes ")") names)) (λ types. map_read (λ _. stream n types) ended))

unfoldable pub declaration : TokenReader StatementTree
declaration = led_or (codes "EVENT") event_declared (led (codes "STREAM") stream_declared)

abbrev pub mode : TokenReader Bool
mode = led_or (codes "STRICT") (give true) (give false)

unfoldable pub any_number : TokenReader (Option NumberAt)
any_number = led_or (codes "ANY") (map_read (λ n. Some n) whole_number) (give None)

unfoldable pub select_list : TokenReader (Option (List Name))
select_list = led_or (codes "*") (give None) (map_read (λ ns. Some ns) names)

-- the seconds of a unit, one where none stands there
unfoldable pub unit_or_none : TokenReader ℕ
unit_or_none = branch is_unit seconds_in (λ s. give s) (give 1)

abbrev pub count : TokenReader ℕ
count = one_token is_count (λ t. unsigned_number t.text)

-- a window's attribute after its number
unfoldable pub clock : ℕ → TokenReader Window
clock n = bind unit_or_none (λ seconds. map_read (λ a. Clock a (pos (n * seconds))) (led (codes "[") (closed (codes "]") name)))

unfoldable pub window : TokenReader Window
window = bind count (λ n. branch is_events no_value (λ _. give (Events n)) (clock n))

unfoldable pub partition : TokenReader (List Name)
partition = led_or (codes "PARTITION") (led (codes "BY") bracketed_names) (give [])

unfoldable pub within : TokenReader Window
within = led_or (codes "WITHIN") window (give Free)

unfoldable pub streams : TokenReader (List Name)
streams = led (codes "FROM") names

unfoldable pub condition : TokenReader FormulaParts
condition = led (codes "WHERE") formula

-- what stands after FROM and its names
unfoldable pub scope : Location → Bool → Option NumberAt → Option (List Name) → List Name → TokenReader StatementTree
scope place strict any list streams =
    bind condition (λ f. bind partition (λ ps. bind within (λ w. map_read (λ _. select (record {
      strict = strict;
      any = any;
      counted = None;
      select = list;
      streams = streams;
      formula = parts_tree f;
      partition = ps;
      window = w;
      place = place;
    })) ended)))

unfoldable pub select_rest : Location → TokenReader StatementTree
select_rest place = bind mode (λ strict. bind any_number (λ any. bind select_list (λ list. bind streams (λ ns. scope place strict any list ns))))

unfoldable pub select_statement : TokenReader StatementTree
select_statement = bind (one_token (is (codes "SELECT")) (λ t. t.place)) select_rest

unfoldable pub one_statement : TokenReader StatementTree
one_statement = led_or (codes "DECLARE") declaration select_statement

abbrev pub any_token : Token → Bool
any_token t = true

unfoldable pub text : TokenReader (List StatementTree)
text = many any_token one_statement
