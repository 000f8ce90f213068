-- Terms as plain data: what predicates, filters and formulas say, without where they lie in memory.
use Rattle.std.specs.Prelude.{Bool, List, [], ◌∷◌, map}
use Rattle.stream_schema.specs.declared.Value.{Value}
use Rattle.cel_terms.specs.declared.Name.{Name}
use Rattle.stream_schema.specs.declared.Op.{Op}
use Rattle.cel_terms.specs.declared.Postfix.{Postfix}
use Rattle.cel_terms.specs.declared.Pred.{Pred, Cmp, Not', All', Any', Row_of-Pred, end_of-Pred, more_of-Pred}
use Rattle.cel_terms.specs.declared.Filter.{Filter, On, Row_of-Filter, end_of-Filter, more_of-Filter}
use Rattle.cel_terms.specs.declared.Filter as term
use Rattle.cel_terms.specs.declared.Formula.{Formula, Of, Chain', Linked', Either', Post', Under', Row_of-Formula, end_of-Formula, more_of-Formula, Row_of-Link, end_of-Link, more_of-Link}

mutual
  pub data PredTree : Type 0 where
    compares : Name → Op → Value → PredTree
    negates : PredTree → PredTree
    every_pred : PredTrees → PredTree
    some_pred : PredTrees → PredTree

  pub data PredTrees : Type 0 where
    no_preds : PredTrees
    pred_then : PredTree → PredTrees → PredTrees

mutual
  pub data FilterTree : Type 0 where
    on : Name → PredTree → FilterTree
    every_filter : FilterTrees → FilterTree
    some_filter : FilterTrees → FilterTree

  pub data FilterTrees : Type 0 where
    no_filters : FilterTrees
    filter_then : FilterTree → FilterTrees → FilterTrees

mutual
  pub data FormulaTree : Type 0 where
    of_type : Name → FormulaTree
    chain : FormulaTrees → FormulaTree
    linked : FormulaTree → LinkTrees → FormulaTree
    either : FormulaTrees → FormulaTree
    post : FormulaTree → List Postfix → FormulaTree
    under : FormulaTree → FilterTrees → FormulaTree

  pub data FormulaTrees : Type 0 where
    no_formulas : FormulaTrees
    formula_then : FormulaTree → FormulaTrees → FormulaTrees

  pub data LinkTrees : Type 0 where
    no_links : LinkTrees
    link_then : Bool → FormulaTree → LinkTrees → LinkTrees

abbrev pub preds : List PredTree → PredTrees
preds [] = no_preds
preds (p ∷ ps) = pred_then p (preds ps)

abbrev pub filters : List FilterTree → FilterTrees
filters [] = no_filters
filters (c ∷ cs) = filter_then c (filters cs)

abbrev pub formulas : List FormulaTree → FormulaTrees
formulas [] = no_formulas
formulas (f ∷ fs) = formula_then f (formulas fs)

abbrev pub links : List (Bool × FormulaTree) → LinkTrees
links [] = no_links
links (l ∷ ls) = link_then l.0 l.1 (links ls)

-- what a predicate says
abbrev mutual
  pub pred_tree : Pred → PredTree
  pred_tree (Cmp name op literal) = compares name op literal
  pred_tree (Not' p pred) = negates (pred_tree pred)
  pred_tree (All' s row) = every_pred (pred_trees row)
  pred_tree (Any' s row) = some_pred (pred_trees row)

  pub pred_trees : {m : _} → Row_of-Pred m → PredTrees
  pred_trees end_of-Pred = no_preds
  pred_trees (more_of-Pred pred rest) = pred_then (pred_tree pred) (pred_trees rest)

-- what a filter says
abbrev mutual
  pub filter_tree : Filter → FilterTree
  filter_tree (On name pred) = on name (pred_tree pred)
  filter_tree (term.All' s row) = every_filter (filter_trees row)
  filter_tree (term.Any' s row) = some_filter (filter_trees row)

  pub filter_trees : {m : _} → Row_of-Filter m → FilterTrees
  filter_trees end_of-Filter = no_filters
  filter_trees (more_of-Filter filter rest) = filter_then (filter_tree filter) (filter_trees rest)

-- what a formula says
abbrev mutual
  pub formula_tree : Formula → FormulaTree
  formula_tree (Of name) = of_type name
  formula_tree (Chain' s row) = chain (formula_trees row)
  formula_tree (Linked' p first s row) = linked (formula_tree first) (link_trees row)
  formula_tree (Either' s row) = either (formula_trees row)
  formula_tree (Post' p base postfixes) = post (formula_tree base) postfixes.items
  formula_tree (Under' p base cs) = under (formula_tree base) (filters (map filter_tree cs.items))

  pub formula_trees : {m : _} → Row_of-Formula m → FormulaTrees
  formula_trees end_of-Formula = no_formulas
  formula_trees (more_of-Formula formula rest) = formula_then (formula_tree formula) (formula_trees rest)

  pub link_trees : {m : _} → Row_of-Link m → LinkTrees
  link_trees end_of-Link = no_links
  link_trees (more_of-Link tight next rest) = link_then tight (formula_tree next) (link_trees rest)
