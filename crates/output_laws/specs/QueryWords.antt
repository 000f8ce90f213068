-- What queries say in words: their trees, whatever the places at which the words stand in a text.
use Rattle.std.specs.Prelude.{◌≡◌, ℕ, List, map, option_map}
use Rattle.cer_base.specs.declared.Location.{Location}
use Rattle.stream_schema.specs.Types.{Declared}
use Rattle.stream_schema.specs.declared.Event.{Event}
use Rattle.cel_terms.specs.declared.Name.{Name}
use Rattle.cel_terms.specs.declared.Postfix.{Postfix}
use Rattle.cel_terms.specs.declared.Postfix.TheVariants.{Plus, NextPlus, Named, Keep}
use Rattle.cel_terms.specs.declared.Window.{Window}
use Rattle.cel_terms.specs.declared.Window.TheVariants.{Free, Events, Clock}
use Rattle.cel_terms.specs.declared.Query.{Query}
use Rattle.cel_terms.specs.Answers.{Answer, IsAnswer}
use Rattle.ceql_grammar.specs.Trees.{PredTree, PredTrees, compares, negates, every_pred, some_pred, no_preds, pred_then, FilterTree, FilterTrees, on, every_filter, some_filter, no_filters, filter_then, FormulaTree, FormulaTrees, LinkTrees, of_type, chain, linked, either, post, under, no_formulas, formula_then, no_links, link_then}
use Rattle.ceql_parser.specs.QueryTrees.{QueryTree, query_tree}
use Rattle.answer_text.specs.declared.Order.{Order}
use Rattle.answer_text.specs.Output.{IsOutput}

-- one place for all words
abbrev pub nowhere : Location
nowhere = record { line = 1; col = 1 }

-- the name alone
abbrev pub word : Name → Name
word n = record { text = n.text; place = nowhere }

abbrev pub words : List Name → List Name
words = map word

abbrev mutual
  pub pred_words : PredTree → PredTree
  pred_words (compares name op literal) = compares (word name) op literal
  pred_words (negates p) = negates (pred_words p)
  pred_words (every_pred ps) = every_pred (preds_words ps)
  pred_words (some_pred ps) = some_pred (preds_words ps)

  pub preds_words : PredTrees → PredTrees
  preds_words no_preds = no_preds
  preds_words (pred_then p ps) = pred_then (pred_words p) (preds_words ps)

abbrev mutual
  pub filter_words : FilterTree → FilterTree
  filter_words (on name p) = on (word name) (pred_words p)
  filter_words (every_filter cs) = every_filter (filters_words cs)
  filter_words (some_filter cs) = some_filter (filters_words cs)

  pub filters_words : FilterTrees → FilterTrees
  filters_words no_filters = no_filters
  filters_words (filter_then c cs) = filter_then (filter_words c) (filters_words cs)

abbrev pub postfix_words : Postfix → Postfix
postfix_words Plus = Plus
postfix_words NextPlus = NextPlus
postfix_words (Named name) = Named (word name)
postfix_words (Keep names) = Keep (words names)

abbrev mutual
  pub formula_words : FormulaTree → FormulaTree
  formula_words (of_type name) = of_type (word name)
  formula_words (chain fs) = chain (formulas_words fs)
  formula_words (linked f ls) = linked (formula_words f) (links_words ls)
  formula_words (either fs) = either (formulas_words fs)
  formula_words (post f ps) = post (formula_words f) (map postfix_words ps)
  formula_words (under f cs) = under (formula_words f) (filters_words cs)

  pub formulas_words : FormulaTrees → FormulaTrees
  formulas_words no_formulas = no_formulas
  formulas_words (formula_then f fs) = formula_then (formula_words f) (formulas_words fs)

  pub links_words : LinkTrees → LinkTrees
  links_words no_links = no_links
  links_words (link_then tight f ls) = link_then tight (formula_words f) (links_words ls)

abbrev pub window_words : Window → Window
window_words Free = Free
window_words (Events n) = Events n
window_words (Clock name n) = Clock (word name) n

abbrev pub words_in : QueryTree → QueryTree
words_in t = record {
  strict = t.strict;
  any = t.any;
  select = option_map words t.select;
  streams = words t.streams;
  formula = formula_words t.formula;
  partition = words t.partition;
  window = window_words t.window;
  place = nowhere;
}

-- what a query says in words
abbrev pub words_of : Query → QueryTree
words_of q = words_in (query_tree q)

-- The answers of a query depend on its words, and not on where these stand in a text.
abbrev pub WordsTellTheAnswers : Type 0
WordsTellTheAnswers = (schema : Declared) (q r : Query) (events : List Event) (end : ℕ) (answer : Answer) →
    words_of q ≡ words_of r → IsAnswer schema q events end answer → IsAnswer schema r events end answer

-- And so does the output.
abbrev pub WordsTellTheOutput : Type 0
WordsTellTheOutput = (order : Order) (schema : Declared) (queries others : List Query) (events : List Event) (bytes : List ℕ) →
    map words_of queries ≡ map words_of others →
    IsOutput order schema queries events bytes → IsOutput order schema others events bytes
