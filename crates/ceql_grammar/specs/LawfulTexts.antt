-- What the grammar alone makes sure of in the statements of a text: no list is empty that has to have
-- members, decimal numbers have few places, and windows are in range.
use Rattle.std.specs.Prelude.{◌≢◌, ◌≤◌, pos, ◌≤ℤ◌, [], All, IfSome, ⊤}
use Rattle.cel_terms.specs.Checked.{widest}
use Rattle.stream_schema.specs.Comparing.{HasFewPlaces}
use Rattle.cel_terms.specs.declared.Postfix.{Postfix}
use Rattle.cel_terms.specs.declared.Postfix.TheVariants.{Plus, NextPlus, Named, Keep}
use Rattle.cel_terms.specs.declared.Window.{Window}
use Rattle.cel_terms.specs.declared.Window.TheVariants.{Free, Events, Clock}
use Rattle.ceql_grammar.specs.Trees.{PredTree, PredTrees, compares, negates, every_pred, some_pred, no_preds, pred_then, FilterTree, FilterTrees, on, every_filter, some_filter, no_filters, filter_then, FormulaTree, FormulaTrees, LinkTrees, of_type, chain, linked, either, post, under, no_formulas, formula_then, no_links, link_then}
use Rattle.ceql_grammar.specs.Statements.{SelectTree, StatementTree, event, stream, select}

-- no list in the predicate is empty, and its literals have few places
abbrev mutual
  pub IsLawfulPred : PredTree → Type 0
  IsLawfulPred (compares name op literal) = HasFewPlaces literal
  IsLawfulPred (negates p) = IsLawfulPred p
  IsLawfulPred (every_pred ps) = AreLawfulPreds ps
  IsLawfulPred (some_pred ps) = AreLawfulPreds ps

  pub AreLawfulPreds : PredTrees → Type 0
  AreLawfulPreds no_preds = ⊥
  AreLawfulPreds (pred_then p ps) = IsLawfulPred p × MorePredsLawful ps

  pub MorePredsLawful : PredTrees → Type 0
  MorePredsLawful no_preds = ⊤
  MorePredsLawful (pred_then p ps) = IsLawfulPred p × MorePredsLawful ps

-- the same of a filter
abbrev mutual
  pub IsLawfulFilter : FilterTree → Type 0
  IsLawfulFilter (on name p) = IsLawfulPred p
  IsLawfulFilter (every_filter cs) = AreLawfulFilters cs
  IsLawfulFilter (some_filter cs) = AreLawfulFilters cs

  pub AreLawfulFilters : FilterTrees → Type 0
  AreLawfulFilters no_filters = ⊥
  AreLawfulFilters (filter_then c cs) = IsLawfulFilter c × MoreFiltersLawful cs

  pub MoreFiltersLawful : FilterTrees → Type 0
  MoreFiltersLawful no_filters = ⊤
  MoreFiltersLawful (filter_then c cs) = IsLawfulFilter c × MoreFiltersLawful cs

-- KEEP keeps some name
abbrev pub KeepsSome : Postfix → Type 0
KeepsSome Plus = ⊤
KeepsSome NextPlus = ⊤
KeepsSome (Named name) = ⊤
KeepsSome (Keep names) = names ≢ []

-- the same of a formula, and of its postfixes and filters
abbrev mutual
  pub IsLawfulFormula : FormulaTree → Type 0
  IsLawfulFormula (of_type name) = ⊤
  IsLawfulFormula (chain fs) = AreLawfulFormulas fs
  IsLawfulFormula (linked f ls) = IsLawfulFormula f × AreLawfulLinks ls
  IsLawfulFormula (either fs) = AreLawfulFormulas fs
  IsLawfulFormula (post f ps) = IsLawfulFormula f × ((ps ≢ []) × All KeepsSome ps)
  IsLawfulFormula (under f cs) = IsLawfulFormula f × AreLawfulFilters cs

  pub AreLawfulFormulas : FormulaTrees → Type 0
  AreLawfulFormulas no_formulas = ⊥
  AreLawfulFormulas (formula_then f fs) = IsLawfulFormula f × MoreFormulasLawful fs

  pub MoreFormulasLawful : FormulaTrees → Type 0
  MoreFormulasLawful no_formulas = ⊤
  MoreFormulasLawful (formula_then f fs) = IsLawfulFormula f × MoreFormulasLawful fs

  pub AreLawfulLinks : LinkTrees → Type 0
  AreLawfulLinks no_links = ⊥
  AreLawfulLinks (link_then tight f ls) = IsLawfulFormula f × MoreLinksLawful ls

  pub MoreLinksLawful : LinkTrees → Type 0
  MoreLinksLawful no_links = ⊤
  MoreLinksLawful (link_then tight f ls) = IsLawfulFormula f × MoreLinksLawful ls

-- not below zero, and at most as many hours as a whole number of a text can name
abbrev pub IsLawfulWindow : Window → Type 0
IsLawfulWindow Free = ⊤
IsLawfulWindow (Events n) = n ≤ widest
IsLawfulWindow (Clock name n) = (pos 0 ≤ℤ n) × (n ≤ℤ pos widest)

pub record IsLawfulSelect (s : SelectTree) : Type 0 where
  pub select : IfSome s.select (λ names. names ≢ [])
  pub streams : s.streams ≢ []
  pub formula : IsLawfulFormula s.formula
  pub window : IsLawfulWindow s.window

abbrev pub IsLawfulStatement : StatementTree → Type 0
IsLawfulStatement (event name attrs) = ⊤
IsLawfulStatement (stream name types) = types ≢ []
IsLawfulStatement (select s) = IsLawfulSelect s
