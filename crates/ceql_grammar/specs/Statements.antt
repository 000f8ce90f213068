-- The grammar of statements and of whole texts: which tokens stand for which statements.
use Rattle.std.specs.Prelude.{◌≡◌, ℕ, ◌*◌, pos, Bool, true, false, List, [], ◌∷◌, ◌++◌, codes, Option, Some, None}
use Rattle.cer_base.specs.declared.Location.{Location}
use Rattle.ceql_lexer.specs.declared.Token.{Token}
use Rattle.cel_terms.specs.declared.Name.{Name}
use Rattle.cel_terms.specs.declared.Window.{Window}
use Rattle.cel_terms.specs.declared.Window.TheVariants.{Free, Events, Clock}
use Rattle.ceql_grammar.specs.declared.terms.NumberAt.{NumberAt}
use Rattle.ceql_grammar.specs.declared.terms.KindDecl.{KindDecl}
use Rattle.ceql_grammar.specs.declared.terms.KindDecl.TheVariants as kind
use Rattle.ceql_grammar.specs.declared.terms.AttrDecl.{AttrDecl}
use Rattle.ceql_grammar.specs.declared.terms.Statement.{Statement}
use Rattle.ceql_grammar.specs.declared.terms.Statement.TheVariants as said
use Rattle.ceql_grammar.specs.WordsAndSigns.{Is, among, is_name_token, token_name}
use Rattle.ceql_grammar.specs.Values.{is_number, is_count, signed_number, unsigned_number, is_unit, seconds_in}
use Rattle.ceql_grammar.specs.Trees.{FormulaTree, formula_tree}
use Rattle.ceql_grammar.specs.Formulas.{AreNames, AreBracketedNames, IsFormula}

-- What a SELECT says, as plain data. Until `check` has tested the number after ANY, nothing counts.
pub record SelectTree : Type 0 where
  pub strict : Bool
  pub any : Option NumberAt
  pub counted : Option ℕ
  pub select : Option (List Name)
  pub streams : List Name
  pub formula : FormulaTree
  pub partition : List Name
  pub window : Window
  pub place : Location

-- a statement, as plain data
pub data StatementTree : Type 0 where
  event : Name → List AttrDecl → StatementTree
  stream : Name → List Name → StatementTree
  select : SelectTree → StatementTree

-- what a statement says
abbrev pub statement_tree : Statement → StatementTree
statement_tree (said.Event name attrs) = event name attrs
statement_tree (said.Stream name types) = stream name types
statement_tree (said.Select s) = select (record {
  strict = s.query.strict;
  any = s.any;
  counted = s.query.any;
  select = s.query.select;
  streams = s.query.streams;
  formula = formula_tree s.query.formula;
  partition = s.query.partition;
  window = s.query.window;
  place = s.query.place;
})

-- a number and its place
abbrev pub placed_number : Token → NumberAt
placed_number t = record { value = signed_number t.text; place = t.place }

pub data IsKind : List Token → KindDecl → Type 0 where
  int_kind : {t : Token} → Is (codes "INT") t → IsKind (t ∷ []) kind.Int
  text_kind : {t : Token} → Is (codes "STRING") t → IsKind (t ∷ []) kind.Text
  flag_kind : {t : Token} → Is (codes "BOOL") t → IsKind (t ∷ []) kind.Flag
  decimal_kind : {t o n c : Token} → Is (codes "DECIMAL") t → Is (codes "(") o → is_number n ≡ true → Is (codes ")") c → IsKind (t ∷ o ∷ n ∷ c ∷ []) (kind.Dec (placed_number n))

pub data IsAttrDecl : List Token → AttrDecl → Type 0 where
  attr : {a : Token} {ts : List Token} {k : KindDecl} → is_name_token a ≡ true → IsKind ts k → IsAttrDecl (a ∷ ts) (record { name = token_name a; kind = k })

-- further attributes, a comma before each
pub data AreMoreAttrs : List Token → List AttrDecl → Type 0 where
  no_more_attrs : AreMoreAttrs [] []
  comma_attr : {t : Token} {ts us : List Token} {a : AttrDecl} {rest : List AttrDecl} → Is (codes ",") t → IsAttrDecl ts a → AreMoreAttrs us rest → AreMoreAttrs (t ∷ ts ++ us) (a ∷ rest)

-- none, or attributes with commas between them
pub data AreAttrs : List Token → List AttrDecl → Type 0 where
  no_attrs : AreAttrs [] []
  attrs : {ts us : List Token} {a : AttrDecl} {rest : List AttrDecl} → IsAttrDecl ts a → AreMoreAttrs us rest → AreAttrs (ts ++ us) (a ∷ rest)

-- STRICT or nothing
pub data IsMode : List Token → Bool → Type 0 where
  not_strict : IsMode [] false
  strict : {t : Token} → Is (codes "STRICT") t → IsMode (t ∷ []) true

-- ANY with a number, or nothing
pub data IsAny : List Token → Option NumberAt → Type 0 where
  not_any : IsAny [] None
  any : {t n : Token} → Is (codes "ANY") t → is_number n ≡ true → IsAny (t ∷ n ∷ []) (Some (placed_number n))

-- `*`, or names
pub data IsSelectList : List Token → Option (List Name) → Type 0 where
  star : {t : Token} → Is (codes "*") t → IsSelectList (t ∷ []) None
  listed : {ts : List Token} {ns : List Name} → AreNames ts ns → IsSelectList ts (Some ns)

-- `SECONDS`, `MINUTES`, `HOURS` or nothing, in seconds
pub data IsUnitOrNone : List Token → ℕ → Type 0 where
  no_unit : IsUnitOrNone [] 1
  unit : {t : Token} → is_unit t ≡ true → IsUnitOrNone (t ∷ []) (seconds_in t)

-- EVENT or EVENTS
abbrev pub is_events : Token → Bool
is_events = among (codes "EVENT" ∷ codes "EVENTS" ∷ [])

pub data IsWindowSize : List Token → Window → Type 0 where
  events : {n e : Token} → is_count n ≡ true → is_events e ≡ true → IsWindowSize (n ∷ e ∷ []) (Events (unsigned_number n.text))
  clock : {n : Token} (o a c : Token) {us : List Token} {seconds : ℕ} → is_count n ≡ true → IsUnitOrNone us seconds → Is (codes "[") o → is_name_token a ≡ true → Is (codes "]") c → IsWindowSize (n ∷ us ++ (o ∷ a ∷ c ∷ [])) (Clock (token_name a) (pos (unsigned_number n.text * seconds)))

-- PARTITION BY with names, or nothing
pub data IsPartitionClause : List Token → List Name → Type 0 where
  no_partition : IsPartitionClause [] []
  partition : {t b : Token} {ts : List Token} {ns : List Name} → Is (codes "PARTITION") t → Is (codes "BY") b → AreBracketedNames ts ns → IsPartitionClause (t ∷ b ∷ ts) ns

-- WITHIN with a window, or nothing
pub data IsWithinClause : List Token → Window → Type 0 where
  free : IsWithinClause [] Free
  within : {t : Token} {ts : List Token} {w : Window} → Is (codes "WITHIN") t → IsWindowSize ts w → IsWithinClause (t ∷ ts) w

pub data IsStatement : List Token → StatementTree → Type 0 where
  declares_event : {d e n o : Token} (c : Token) {ts : List Token} {rest : List AttrDecl} → Is (codes "DECLARE") d → Is (codes "EVENT") e → is_name_token n ≡ true → Is (codes "(") o → AreAttrs ts rest → Is (codes ")") c → IsStatement (d ∷ e ∷ n ∷ o ∷ ts ++ c ∷ []) (event (token_name n) rest)
  declares_stream : {d e n o : Token} (c : Token) {ts : List Token} {ns : List Name} → Is (codes "DECLARE") d → Is (codes "STREAM") e → is_name_token n ≡ true → Is (codes "(") o → AreNames ts ns → Is (codes ")") c → IsStatement (d ∷ e ∷ n ∷ o ∷ ts ++ c ∷ []) (stream (token_name n) ns)
  selects : {s : Token} (f w : Token) {modes anys lists streams formulas partitions windows : List Token} {mode : Bool} {number : Option NumberAt} {list : Option (List Name)} {ns ps : List Name} {g : FormulaTree} {window : Window} →
      Is (codes "SELECT") s → IsMode modes mode → IsAny anys number → IsSelectList lists list →
      Is (codes "FROM") f → AreNames streams ns → Is (codes "WHERE") w → IsFormula formulas g → IsPartitionClause partitions ps → IsWithinClause windows window →
      IsStatement (s ∷ modes ++ (anys ++ (lists ++ (f ∷ streams ++ (w ∷ formulas ++ (partitions ++ windows))))))
      (select (record { strict = mode; any = number; counted = None; select = list; streams = ns; formula = g; partition = ps; window = window; place = s.place }))

-- statements, one after the other
pub data AreStatements : List Token → List StatementTree → Type 0 where
  text_end : AreStatements [] []
  statement : {ts us : List Token} {s : StatementTree} {ss : List StatementTree} → IsStatement ts s → AreStatements us ss → AreStatements (ts ++ us) (s ∷ ss)
