-- What is told of terms is told of their trees: their names, their leaves and their faults.
use Rattle.std.proofs.Common.{◌≡◌, refl, ap, ap₂, ◌∙◌, ℕ, ◌+◌, ◌*◌, List, [], ◌∷◌, ◌++◌, map, Option, None}
use Rattle.std.specs.Option.{option_or}
use Rattle.stream_schema.specs.Types.{DeclaredType}
use Rattle.cel_terms.specs.declared.Pred.{Pred, Cmp, Not', All', Any', Row_of-Pred, end_of-Pred, more_of-Pred}
use Rattle.cel_terms.specs.declared.Filter.{Filter, On, Row_of-Filter, end_of-Filter, more_of-Filter}
use Rattle.cel_terms.specs.declared.Filter as filter
use Rattle.cel_terms.specs.declared.Formula.{Formula, Of, Chain', Linked', Either', Post', Under', Row_of-Formula, end_of-Formula, more_of-Formula, Row_of-Link, end_of-Link, more_of-Link}
use Rattle.cel_terms.specs.Checked.{names_of, names_of_all, names_of_links, names_after, weight, product_of_weights, sum_of_weights, times_weights, leaf_count, leaf_count_of_all, leaf_count_of_links}
use Rattle.ceql_grammar.specs.Trees.{PredTree, PredTrees, compares, negates, every_pred, some_pred, no_preds, pred_then, FilterTree, FilterTrees, on, every_filter, some_filter, no_filters, filter_then, FormulaTree, FormulaTrees, LinkTrees, of_type, chain, linked, either, post, under, no_formulas, formula_then, no_links, link_then, filters, pred_tree, pred_trees, filter_tree, filter_trees, formula_tree, formula_trees, link_trees}
use Rattle.ceql_grammar.specs.declared.faults.QueryFault.TheVariants.{UnknownType}
use Rattle.ceql_grammar.specs.declared.faults.QueryError.{QueryError}
use Rattle.ceql_parser.specs.FirstFaults.{first_in, unless_named}
use Rattle.ceql_parser.specs.TypesAsked.{is_type_name}
use Rattle.ceql_parser.specs.FormulaFaults.{comparison_fault, pred_fault, preds_fault, name_fault, filter_fault, filters_fault, postfixes_fault, formula_fault, formulas_fault, links_fault}

-- NAMES

abbrev mutual
  pub names_in : FormulaTree → List (List ℕ)
  names_in (of_type name) = name.text ∷ []
  names_in (chain fs) = names_in_all fs
  names_in (linked f ls) = names_in f ++ names_in_links ls
  names_in (either fs) = names_in_all fs
  names_in (post f ps) = names_after (names_in f) ps
  names_in (under f cs) = names_in f

  names_in_all : FormulaTrees → List (List ℕ)
  names_in_all no_formulas = []
  names_in_all (formula_then f fs) = names_in f ++ names_in_all fs

  names_in_links : LinkTrees → List (List ℕ)
  names_in_links no_links = []
  names_in_links (link_then tight f ls) = names_in f ++ names_in_links ls

mutual
  pub names_as : (f : Formula) → names_of f ≡ names_in (formula_tree f)
  names_as (Of name) = refl
  names_as (Chain' s row) = names_as_all row
  names_as (Linked' p first s row) = ap₂ (λ a b. a ++ b) (names_as first) (names_as_links row)
  names_as (Either' s row) = names_as_all row
  names_as (Post' p base postfixes) = ap (λ names. names_after names postfixes.items) (names_as base)
  names_as (Under' p base cs) = names_as base

  names_as_all : {m : _} → (row : Row_of-Formula m) → names_of_all row ≡ names_in_all (formula_trees row)
  names_as_all end_of-Formula = refl
  names_as_all (more_of-Formula f rest) = ap₂ (λ a b. a ++ b) (names_as f) (names_as_all rest)

  names_as_links : {m : _} → (row : Row_of-Link m) → names_of_links row ≡ names_in_links (link_trees row)
  names_as_links end_of-Link = refl
  names_as_links (more_of-Link tight f rest) = ap₂ (λ a b. a ++ b) (names_as f) (names_as_links rest)

-- LEAVES

abbrev mutual
  weight_in : FilterTree → ℕ
  weight_in (on name p) = 1
  weight_in (every_filter cs) = product_in cs
  weight_in (some_filter cs) = sum_in cs

  product_in : FilterTrees → ℕ
  product_in no_filters = 1
  product_in (filter_then c cs) = weight_in c * product_in cs

  sum_in : FilterTrees → ℕ
  sum_in no_filters = 0
  sum_in (filter_then c cs) = weight_in c + sum_in cs

abbrev times_in : ℕ → FilterTrees → ℕ
times_in n no_filters = n
times_in n (filter_then c cs) = times_in (n * weight_in c) cs

abbrev mutual
  pub leaves_in : FormulaTree → ℕ
  leaves_in (of_type name) = 1
  leaves_in (chain fs) = leaves_in_all fs
  leaves_in (linked f ls) = leaves_in f + leaves_in_links ls
  leaves_in (either fs) = leaves_in_all fs
  leaves_in (post f ps) = leaves_in f
  leaves_in (under f cs) = times_in (leaves_in f) cs

  leaves_in_all : FormulaTrees → ℕ
  leaves_in_all no_formulas = 0
  leaves_in_all (formula_then f fs) = leaves_in f + leaves_in_all fs

  leaves_in_links : LinkTrees → ℕ
  leaves_in_links no_links = 0
  leaves_in_links (link_then tight f ls) = leaves_in f + leaves_in_links ls

mutual
  weight_as : (c : Filter) → weight c ≡ weight_in (filter_tree c)
  weight_as (On name p) = refl
  weight_as (filter.All' s row) = product_as row
  weight_as (filter.Any' s row) = sum_as row

  product_as : {m : _} → (row : Row_of-Filter m) → product_of_weights row ≡ product_in (filter_trees row)
  product_as end_of-Filter = refl
  product_as (more_of-Filter c rest) = ap₂ (λ a b. a * b) (weight_as c) (product_as rest)

  sum_as : {m : _} → (row : Row_of-Filter m) → sum_of_weights row ≡ sum_in (filter_trees row)
  sum_as end_of-Filter = refl
  sum_as (more_of-Filter c rest) = ap₂ (λ a b. a + b) (weight_as c) (sum_as rest)

times_as : (n k : ℕ) (cs : List Filter) → n ≡ k → times_weights n cs ≡ times_in k (filters (map filter_tree cs))
times_as n k [] e = e
times_as n k (c ∷ cs) e = times_as (n * weight c) (k * weight_in (filter_tree c)) cs (ap₂ (λ a b. a * b) e (weight_as c))

mutual
  pub leaves_as : (f : Formula) → leaf_count f ≡ leaves_in (formula_tree f)
  leaves_as (Of name) = refl
  leaves_as (Chain' s row) = leaves_as_all row
  leaves_as (Linked' p first s row) = ap₂ (λ a b. a + b) (leaves_as first) (leaves_as_links row)
  leaves_as (Either' s row) = leaves_as_all row
  leaves_as (Post' p base postfixes) = leaves_as base
  leaves_as (Under' p base cs) = times_as (leaf_count base) (leaves_in (formula_tree base)) cs.items (leaves_as base)

  leaves_as_all : {m : _} → (row : Row_of-Formula m) → leaf_count_of_all row ≡ leaves_in_all (formula_trees row)
  leaves_as_all end_of-Formula = refl
  leaves_as_all (more_of-Formula f rest) = ap₂ (λ a b. a + b) (leaves_as f) (leaves_as_all rest)

  leaves_as_links : {m : _} → (row : Row_of-Link m) → leaf_count_of_links row ≡ leaves_in_links (link_trees row)
  leaves_as_links end_of-Link = refl
  leaves_as_links (more_of-Link tight f rest) = ap₂ (λ a b. a + b) (leaves_as f) (leaves_as_links rest)

-- FAULTS OF PREDICATES AND FILTERS

abbrev mutual
  pred_told : List DeclaredType → PredTree → Option QueryError
  pred_told types (compares name op literal) = comparison_fault types name op literal
  pred_told types (negates p) = pred_told types p
  pred_told types (every_pred ps) = preds_told types ps
  pred_told types (some_pred ps) = preds_told types ps

  preds_told : List DeclaredType → PredTrees → Option QueryError
  preds_told types no_preds = None
  preds_told types (pred_then p ps) = option_or (pred_told types p) (preds_told types ps)

mutual
  pred_as : (types : List DeclaredType) (p : Pred) → pred_fault types p ≡ pred_told types (pred_tree p)
  pred_as types (Cmp name op literal) = refl
  pred_as types (Not' s p) = pred_as types p
  pred_as types (All' s row) = preds_as types row
  pred_as types (Any' s row) = preds_as types row

  preds_as : (types : List DeclaredType) {m : _} → (row : Row_of-Pred m) → preds_fault types row ≡ preds_told types (pred_trees row)
  preds_as types end_of-Pred = refl
  preds_as types (more_of-Pred p rest) = ap₂ (λ a b. option_or a b) (pred_as types p) (preds_as types rest)

abbrev mutual
  filter_told : List DeclaredType → List (List ℕ) → FilterTree → Option QueryError
  filter_told types names (on name p) = option_or (name_fault names name) (pred_told types p)
  filter_told types names (every_filter cs) = filters_told types names cs
  filter_told types names (some_filter cs) = filters_told types names cs

  filters_told : List DeclaredType → List (List ℕ) → FilterTrees → Option QueryError
  filters_told types names no_filters = None
  filters_told types names (filter_then c cs) = option_or (filter_told types names c) (filters_told types names cs)

mutual
  filter_as : (types : List DeclaredType) (names : List (List ℕ)) (c : Filter) → filter_fault types names c ≡ filter_told types names (filter_tree c)
  filter_as types names (On name p) = ap (λ fault. option_or (name_fault names name) fault) (pred_as types p)
  filter_as types names (filter.All' s row) = row_as types names row
  filter_as types names (filter.Any' s row) = row_as types names row

  row_as : (types : List DeclaredType) (names : List (List ℕ)) {m : _} → (row : Row_of-Filter m) → filters_fault types names row ≡ filters_told types names (filter_trees row)
  row_as types names end_of-Filter = refl
  row_as types names (more_of-Filter c rest) = ap₂ (λ a b. option_or a b) (filter_as types names c) (row_as types names rest)

filters_as : (types : List DeclaredType) (names : List (List ℕ)) (cs : List Filter) → first_in (filter_fault types names) cs ≡ filters_told types names (filters (map filter_tree cs))
filters_as types names [] = refl
filters_as types names (c ∷ cs) = ap₂ (λ a b. option_or a b) (filter_as types names c) (filters_as types names cs)

-- FAULTS OF FORMULAS

abbrev mutual
  pub formula_told : List DeclaredType → FormulaTree → Option QueryError
  formula_told types (of_type name) = unless_named (is_type_name types name.text) UnknownType name
  formula_told types (chain fs) = formulas_told types fs
  formula_told types (linked f ls) = option_or (formula_told types f) (links_told types ls)
  formula_told types (either fs) = formulas_told types fs
  formula_told types (post f ps) = option_or (formula_told types f) (postfixes_fault types (names_in f) ps)
  formula_told types (under f cs) = option_or (formula_told types f) (filters_told types (names_in f) cs)

  formulas_told : List DeclaredType → FormulaTrees → Option QueryError
  formulas_told types no_formulas = None
  formulas_told types (formula_then f fs) = option_or (formula_told types f) (formulas_told types fs)

  links_told : List DeclaredType → LinkTrees → Option QueryError
  links_told types no_links = None
  links_told types (link_then tight f ls) = option_or (formula_told types f) (links_told types ls)

mutual
  pub formula_as : (types : List DeclaredType) (f : Formula) → formula_fault types f ≡ formula_told types (formula_tree f)
  formula_as types (Of name) = refl
  formula_as types (Chain' s row) = formulas_as types row
  formula_as types (Linked' p first s row) = ap₂ (λ a b. option_or a b) (formula_as types first) (links_as types row)
  formula_as types (Either' s row) = formulas_as types row
  formula_as types (Post' p base postfixes) = ap₂ (λ a b. option_or a b) (formula_as types base) (ap (λ names. postfixes_fault types names postfixes.items) (names_as base))
  formula_as types (Under' p base cs) = ap₂ (λ a b. option_or a b) (formula_as types base) (filters_as types (names_of base) cs.items ∙ ap (λ names. filters_told types names (filters (map filter_tree cs.items))) (names_as base))

  formulas_as : (types : List DeclaredType) {m : _} → (row : Row_of-Formula m) → formulas_fault types row ≡ formulas_told types (formula_trees row)
  formulas_as types end_of-Formula = refl
  formulas_as types (more_of-Formula f rest) = ap₂ (λ a b. option_or a b) (formula_as types f) (formulas_as types rest)

  links_as : (types : List DeclaredType) {m : _} → (row : Row_of-Link m) → links_fault types row ≡ links_told types (link_trees row)
  links_as types end_of-Link = refl
  links_as types (more_of-Link tight f rest) = ap₂ (λ a b. option_or a b) (formula_as types f) (links_as types rest)
