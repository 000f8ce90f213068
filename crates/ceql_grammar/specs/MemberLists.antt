-- A list of members as one term: the only member, or all of them in one node.
use Rattle.std.specs.Prelude.{List, [], ◌∷◌}
use Rattle.ceql_grammar.specs.Trees.{PredTree, every_pred, some_pred, no_preds, FilterTree, every_filter, some_filter, no_filters, FormulaTree, either, no_formulas}
use Rattle.ceql_grammar.specs.Conditions.{all_preds, any_pred, all_filters, any_filter}
use Rattle.ceql_grammar.specs.Formulas.{either_of}

abbrev pub all_preds_of : List PredTree → PredTree
all_preds_of [] = every_pred no_preds
all_preds_of (p ∷ ps) = all_preds p ps

abbrev pub any_pred_of : List PredTree → PredTree
any_pred_of [] = some_pred no_preds
any_pred_of (p ∷ ps) = any_pred p ps

abbrev pub all_filters_of : List FilterTree → FilterTree
all_filters_of [] = every_filter no_filters
all_filters_of (c ∷ cs) = all_filters c cs

abbrev pub any_filter_of : List FilterTree → FilterTree
any_filter_of [] = some_filter no_filters
any_filter_of (c ∷ cs) = any_filter c cs

abbrev pub any_formula_of : List FormulaTree → FormulaTree
any_formula_of [] = either no_formulas
any_formula_of (f ∷ fs) = either_of f fs
