-- When a query is checked for a schema: what a reader of query texts has made sure of in its terms.
use Rattle.std.specs.Prelude.{◌≡◌, ◌≢◌, ℕ, ◌+◌, ◌*◌, ◌-◌, ◌^◌, ◌≤◌, pos, ◌≤ℤ◌, List, [], ◌∷◌, ◌++◌, map, All, Any, Contains, IfSome, slice_get, ⊤}
use Rattle.std.specs.List.{filter_map}
use Rattle.cer_base.specs.declared.limits.TheConstants.{MOST_LEAVES}
use Rattle.stream_schema.specs.Types.{Declared, DeclaredType, DeclaredStream}
use Rattle.stream_schema.specs.declared.Attr.{Attr}
use Rattle.stream_schema.specs.declared.Kind.{Kind}
use Rattle.stream_schema.specs.declared.Kind.TheVariants as kind
use Rattle.stream_schema.specs.declared.Value.{Value}
use Rattle.stream_schema.specs.declared.Op.{Op}
use Rattle.stream_schema.specs.Comparing.{AreComparable, TakesLiteral, HasFewPlaces, KindHasFewPlaces}
use Rattle.cel_terms.specs.declared.Name.{Name}
use Rattle.cel_terms.specs.declared.Pred.{Pred, Cmp, Not', All', Any', Row_of-Pred, end_of-Pred, more_of-Pred}
use Rattle.cel_terms.specs.declared.Filter.{Filter, On, Row_of-Filter, end_of-Filter, more_of-Filter}
use Rattle.cel_terms.specs.declared.Filter as filter
use Rattle.cel_terms.specs.declared.Postfix.{Postfix}
use Rattle.cel_terms.specs.declared.Postfix.TheVariants.{Named, Keep}
use Rattle.cel_terms.specs.declared.Formula.{Formula, Of, Chain', Linked', Either', Post', Under', Row_of-Formula, end_of-Formula, more_of-Formula, Row_of-Link, end_of-Link, more_of-Link}
use Rattle.cel_terms.specs.declared.Window.{Window}
use Rattle.cel_terms.specs.declared.Window.TheVariants.{Free, Events, Clock}
use Rattle.cel_terms.specs.declared.Query.{Query}
use Rattle.cel_terms.specs.Answers.{query_types}

-- the declared types that the query reads
abbrev pub types_read : Declared → Query → List DeclaredType
types_read schema q = filter_map (slice_get schema.types) (query_types schema q.streams)

-- some type has the name
abbrev pub IsTypeName : List DeclaredType → List ℕ → Type 0
IsTypeName types name = Any (λ t. t.name ≡ name) types

-- the attribute has this name, and its kind passes
abbrev pub IsAttr : List ℕ → (Kind → Type 0) → Attr → Type 0
IsAttr name Passes a = (a.name ≡ name) × Passes a.kind

-- any kind
abbrev pub AnyKind : Kind → Type 0
AnyKind k = ⊤

-- some type has the attribute, with a kind that passes
abbrev pub SomeHasAttr : List DeclaredType → List ℕ → (Kind → Type 0) → Type 0
SomeHasAttr types name Passes = Any (λ t. Any (IsAttr name Passes) t.attrs) types

-- each type has the attribute, with a kind that passes
abbrev pub EachHasAttr : List DeclaredType → List ℕ → (Kind → Type 0) → Type 0
EachHasAttr types name Passes = All (λ t. Any (IsAttr name Passes) t.attrs) types

-- a comparison that some type of the query can meet
pub record IsCheckedComparison (types : List DeclaredType) (name : Name) (op : Op) (literal : Value) : Type 0 where
  pub comparable : SomeHasAttr types name.text (AreComparable literal)
  pub operator : TakesLiteral op literal
  pub places : HasFewPlaces literal

-- each comparison of the predicate can be met by some type, and no list in it is empty
abbrev mutual
  pub IsCheckedPred : List DeclaredType → Pred → Type 0
  IsCheckedPred types (Cmp name op literal) = IsCheckedComparison types name op literal
  IsCheckedPred types (Not' p pred) = IsCheckedPred types pred
  IsCheckedPred types (All' s preds) = AreCheckedPreds types preds
  IsCheckedPred types (Any' s preds) = AreCheckedPreds types preds

  pub AreCheckedPreds : List DeclaredType → {m : _} → Row_of-Pred m → Type 0
  AreCheckedPreds types end_of-Pred = ⊥
  AreCheckedPreds types (more_of-Pred pred rest) = IsCheckedPred types pred × MorePredsChecked types rest

  pub MorePredsChecked : List DeclaredType → {m : _} → Row_of-Pred m → Type 0
  MorePredsChecked types end_of-Pred = ⊤
  MorePredsChecked types (more_of-Pred pred rest) = IsCheckedPred types pred × MorePredsChecked types rest

-- each name before a predicate is one of the formula's
abbrev mutual
  pub IsCheckedFilter : List DeclaredType → List (List ℕ) → Filter → Type 0
  IsCheckedFilter types names (On name pred) = Contains names name.text × IsCheckedPred types pred
  IsCheckedFilter types names (filter.All' s filters) = AreCheckedFilters types names filters
  IsCheckedFilter types names (filter.Any' s filters) = AreCheckedFilters types names filters

  pub AreCheckedFilters : List DeclaredType → List (List ℕ) → {m : _} → Row_of-Filter m → Type 0
  AreCheckedFilters types names end_of-Filter = ⊥
  AreCheckedFilters types names (more_of-Filter c rest) = IsCheckedFilter types names c × MoreFiltersChecked types names rest

  pub MoreFiltersChecked : List DeclaredType → List (List ℕ) → {m : _} → Row_of-Filter m → Type 0
  MoreFiltersChecked types names end_of-Filter = ⊤
  MoreFiltersChecked types names (more_of-Filter c rest) = IsCheckedFilter types names c × MoreFiltersChecked types names rest

-- the listed names
abbrev pub texts : List Name → List (List ℕ)
texts = map (λ n. n.text)

-- the names of a formula after its postfixes: AS adds its own, KEEP leaves those of its list alone
abbrev pub names_after : List (List ℕ) → List Postfix → List (List ℕ)
names_after names [] = names
names_after names (Named name ∷ ps) = names_after (names ++ name.text ∷ []) ps
names_after names (Keep listed ∷ ps) = names_after (texts listed) ps
names_after names (p ∷ ps) = names_after names ps

-- the names that are known of a formula: its types', and those after AS, as far as KEEP left them
abbrev mutual
  pub names_of : Formula → List (List ℕ)
  names_of (Of name) = name.text ∷ []
  names_of (Chain' s parts) = names_of_all parts
  names_of (Linked' p first s links) = names_of first ++ names_of_links links
  names_of (Either' s choices) = names_of_all choices
  names_of (Post' p base postfixes) = names_after (names_of base) postfixes.items
  names_of (Under' p base filters) = names_of base

  pub names_of_all : {m : _} → Row_of-Formula m → List (List ℕ)
  names_of_all end_of-Formula = []
  names_of_all (more_of-Formula f rest) = names_of f ++ names_of_all rest

  pub names_of_links : {m : _} → Row_of-Link m → List (List ℕ)
  names_of_links end_of-Link = []
  names_of_links (more_of-Link tight next rest) = names_of next ++ names_of_links rest

-- each of the names is one of the formula's, and there is one
pub record AreNamesOf (names : List (List ℕ)) (listed : List Name) : Type 0 where
  pub some : listed ≢ []
  pub known : All (λ n. Contains names n.text) listed

-- a name after AS is no type's, and KEEP lists names that are known before it
abbrev pub ArePostfixesChecked : List DeclaredType → List (List ℕ) → List Postfix → Type 0
ArePostfixesChecked types names [] = ⊤
ArePostfixesChecked types names (Named name ∷ ps) = (IsTypeName types name.text → ⊥) × ArePostfixesChecked types (names ++ name.text ∷ []) ps
ArePostfixesChecked types names (Keep listed ∷ ps) = AreNamesOf names listed × ArePostfixesChecked types (texts listed) ps
ArePostfixesChecked types names (p ∷ ps) = ArePostfixesChecked types names ps

-- each type is one of the query's, each name is known where it stands, and no list is empty
abbrev mutual
  pub IsCheckedFormula : List DeclaredType → Formula → Type 0
  IsCheckedFormula types (Of name) = IsTypeName types name.text
  IsCheckedFormula types (Chain' s parts) = AreCheckedFormulas types parts
  IsCheckedFormula types (Linked' p first s links) = IsCheckedFormula types first × AreCheckedLinks types links
  IsCheckedFormula types (Either' s choices) = AreCheckedFormulas types choices
  IsCheckedFormula types (Post' p base postfixes) = IsCheckedFormula types base × (postfixes.items ≢ []) × ArePostfixesChecked types (names_of base) postfixes.items
  IsCheckedFormula types (Under' p base filters) = IsCheckedFormula types base × (filters.items ≢ []) × All (IsCheckedFilter types (names_of base)) filters.items

  pub AreCheckedFormulas : List DeclaredType → {m : _} → Row_of-Formula m → Type 0
  AreCheckedFormulas types end_of-Formula = ⊥
  AreCheckedFormulas types (more_of-Formula f rest) = IsCheckedFormula types f × MoreFormulasChecked types rest

  pub MoreFormulasChecked : List DeclaredType → {m : _} → Row_of-Formula m → Type 0
  MoreFormulasChecked types end_of-Formula = ⊤
  MoreFormulasChecked types (more_of-Formula f rest) = IsCheckedFormula types f × MoreFormulasChecked types rest

  pub AreCheckedLinks : List DeclaredType → {m : _} → Row_of-Link m → Type 0
  AreCheckedLinks types end_of-Link = ⊥
  AreCheckedLinks types (more_of-Link tight next rest) = IsCheckedFormula types next × MoreLinksChecked types rest

  pub MoreLinksChecked : List DeclaredType → {m : _} → Row_of-Link m → Type 0
  MoreLinksChecked types end_of-Link = ⊤
  MoreLinksChecked types (more_of-Link tight next rest) = IsCheckedFormula types next × MoreLinksChecked types rest

-- into how many copies of a formula a filter expands: an OR into those of its members together, an AND into those of its members in turn
abbrev mutual
  pub weight : Filter → ℕ
  weight (On name pred) = 1
  weight (filter.All' s filters) = product_of_weights filters
  weight (filter.Any' s filters) = sum_of_weights filters

  pub product_of_weights : {m : _} → Row_of-Filter m → ℕ
  product_of_weights end_of-Filter = 1
  product_of_weights (more_of-Filter c rest) = weight c * product_of_weights rest

  pub sum_of_weights : {m : _} → Row_of-Filter m → ℕ
  sum_of_weights end_of-Filter = 0
  sum_of_weights (more_of-Filter c rest) = weight c + sum_of_weights rest

abbrev pub times_weights : ℕ → List Filter → ℕ
times_weights n [] = n
times_weights n (c ∷ cs) = times_weights (n * weight c) cs

-- how often a type occurs in the formula once its filters are expanded
abbrev mutual
  pub leaf_count : Formula → ℕ
  leaf_count (Of name) = 1
  leaf_count (Chain' s parts) = leaf_count_of_all parts
  leaf_count (Linked' p first s links) = leaf_count first + leaf_count_of_links links
  leaf_count (Either' s choices) = leaf_count_of_all choices
  leaf_count (Post' p base postfixes) = leaf_count base
  leaf_count (Under' p base filters) = times_weights (leaf_count base) filters.items

  pub leaf_count_of_all : {m : _} → Row_of-Formula m → ℕ
  leaf_count_of_all end_of-Formula = 0
  leaf_count_of_all (more_of-Formula f rest) = leaf_count f + leaf_count_of_all rest

  pub leaf_count_of_links : {m : _} → Row_of-Link m → ℕ
  leaf_count_of_links end_of-Link = 0
  leaf_count_of_links (more_of-Link tight next rest) = leaf_count next + leaf_count_of_links rest

-- the most that a window's number may be: as many hours as a whole number of a text can name, in seconds
abbrev pub widest : ℕ
widest = 3600 * (2 ^ 63 - 1)

-- a number of events, or of an attribute that is a whole number in each type of the query
abbrev pub IsCheckedWindow : List DeclaredType → Window → Type 0
IsCheckedWindow types Free = ⊤
IsCheckedWindow types (Events n) = n ≤ widest
IsCheckedWindow types (Clock name n) = EachHasAttr types name.text (λ k. k ≡ kind.Int) × (pos 0 ≤ℤ n) × (n ≤ℤ pos widest)

-- a stream is declared under the name
abbrev pub IsStreamName : List DeclaredStream → List ℕ → Type 0
IsStreamName streams name = Any (λ s. s.name ≡ name) streams

-- no type of the schema has an attribute of more than nine decimal places
abbrev pub HaveFewPlaces : List DeclaredType → Type 0
HaveFewPlaces types = All (λ t. All (λ a. KindHasFewPlaces a.kind) t.attrs) types

pub record IsChecked (schema : Declared) (q : Query) : Type 0 where
  pub count : IfSome q.any (λ n. (1 ≤ n) × (n ≤ 4294967295))
  pub some_stream : q.streams ≢ []
  pub streams : All (λ n. IsStreamName schema.streams n.text) q.streams
  pub formula : IsCheckedFormula (types_read schema q) q.formula
  pub select : IfSome q.select (AreNamesOf (names_of q.formula))
  pub leaves : leaf_count q.formula ≤ MOST_LEAVES
  pub partition : All (λ n. SomeHasAttr (types_read schema q) n.text AnyKind) q.partition
  pub window : IsCheckedWindow (types_read schema q) q.window
  pub places : HaveFewPlaces schema.types
