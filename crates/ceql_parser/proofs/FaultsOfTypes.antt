-- The first fault of a query depends on which types it reads, not on how often or in which order they
-- are listed.
use Rattle.std.proofs.Common.{◌≡◌, refl, ap, ap₂, ◌∙◌, ℕ, not, ◌&&◌, List, [], ◌∷◌, Option, None}
use Rattle.std.specs.Prelude.{Bool, nat_le}
use Rattle.std.specs.Option.{option_or}
use Rattle.cer_base.specs.declared.limits.TheConstants.{MOST_LEAVES}
use Rattle.stream_schema.specs.Types.{DeclaredType}
use Rattle.stream_schema.specs.declared.Kind.{Kind}
use Rattle.stream_schema.specs.declared.Value.{Value}
use Rattle.cel_terms.specs.declared.Name.{Name}
use Rattle.cel_terms.specs.declared.Op.{Op}
use Rattle.cel_terms.specs.declared.Pred.{Pred, Cmp, Not', All', Any', Row_of-Pred, end_of-Pred, more_of-Pred}
use Rattle.cel_terms.specs.declared.Filter.{Filter, On, Row_of-Filter, end_of-Filter, more_of-Filter}
use Rattle.cel_terms.specs.declared.Filter as filter
use Rattle.cel_terms.specs.declared.Postfix.{Postfix}
use Rattle.cel_terms.specs.declared.Postfix.TheVariants.{Plus, NextPlus, Named, Keep}
use Rattle.cel_terms.specs.declared.Formula.{Formula, Of, Chain', Linked', Either', Post', Under', Row_of-Formula, end_of-Formula, more_of-Formula, Row_of-Link, end_of-Link, more_of-Link}
use Rattle.cel_terms.specs.declared.Window.{Window}
use Rattle.cel_terms.specs.declared.Window.TheVariants.{Free, Events, Clock}
use Rattle.cel_terms.specs.declared.Query.{Query}
use Rattle.cel_terms.specs.Checked.{names_of, names_after, leaf_count}
use Rattle.ceql_grammar.specs.declared.faults.QueryFault.TheVariants.{NameTaken, UnknownType, UnknownAttribute, NeverKind, NoOrder, TooManyLeaves, WindowKind}
use Rattle.ceql_grammar.specs.declared.faults.QueryError.{QueryError}
use Rattle.ceql_parser.specs.FirstFaults.{first_in, unless, unless_named}
use Rattle.stream_schema.specs.Comparing.{are_alike, kind_of}
use Rattle.ceql_parser.specs.TypesAsked.{is_type_name, has_attr, some_has_attr, any_kind, is_whole, is_order, is_flag}
use Rattle.ceql_parser.specs.FormulaFaults.{comparison_fault, pred_fault, preds_fault, name_fault, filter_fault, filters_fault, postfix_fault, postfixes_fault, formula_fault, formulas_fault, links_fault}
use Rattle.ceql_parser.specs.StatementFaults.{list_fault, window_fault, query_fault}
use Rattle.ceql_parser.specs.QueryTypes.{HaveSameTypes}
use Rattle.ceql_parser.proofs.TypeSets.{each_same}

module _ (a b : List DeclaredType) (s : HaveSameTypes a b) where
  attr_same : (name : List ℕ) (passes : Kind → Bool) → some_has_attr a name passes ≡ some_has_attr b name passes
  attr_same name passes = s.at (has_attr name passes)

  comparison_same : (name : Name) (op : Op) (literal : Value) → comparison_fault a name op literal ≡ comparison_fault b name op literal
  comparison_same name op literal =
      ap₂ (λ o p. option_or o p) (ap (λ t. unless_named t UnknownAttribute name) (attr_same name.text any_kind))
      (ap (λ o. option_or o (option_or (unless (not (is_order op && is_flag literal)) NoOrder name.place) None)) (ap (λ t. unless_named t (λ text. NeverKind text (kind_of literal)) name) (attr_same name.text (are_alike (kind_of literal)))))

  mutual
    pred_same : (p : Pred) → pred_fault a p ≡ pred_fault b p
    pred_same (Cmp name op literal) = comparison_same name op literal
    pred_same (Not' n p) = pred_same p
    pred_same (All' n row) = preds_same row
    pred_same (Any' n row) = preds_same row

    preds_same : {m : _} → (row : Row_of-Pred m) → preds_fault a row ≡ preds_fault b row
    preds_same end_of-Pred = refl
    preds_same (more_of-Pred p rest) = ap₂ (λ o p. option_or o p) (pred_same p) (preds_same rest)

  mutual
    filter_same : (names : List (List ℕ)) (f : Filter) → filter_fault a names f ≡ filter_fault b names f
    filter_same names (On name pred) = ap (λ o. option_or (name_fault names name) o) (pred_same pred)
    filter_same names (filter.All' n row) = filters_same names row
    filter_same names (filter.Any' n row) = filters_same names row

    filters_same : (names : List (List ℕ)) {m : _} → (row : Row_of-Filter m) → filters_fault a names row ≡ filters_fault b names row
    filters_same names end_of-Filter = refl
    filters_same names (more_of-Filter f rest) = ap₂ (λ o p. option_or o p) (filter_same names f) (filters_same names rest)

  all_same : (names : List (List ℕ)) (fs : List Filter) → first_in (filter_fault a names) fs ≡ first_in (filter_fault b names) fs
  all_same names [] = refl
  all_same names (f ∷ fs) = ap₂ (λ o p. option_or o p) (filter_same names f) (all_same names fs)

  name_same : (name : List ℕ) → is_type_name a name ≡ is_type_name b name
  name_same name = s.at _

  postfix_same : (names : List (List ℕ)) (p : Postfix) → postfix_fault a names p ≡ postfix_fault b names p
  postfix_same names Plus = refl
  postfix_same names NextPlus = refl
  postfix_same names (Named n) = ap (λ t. unless_named (not t) NameTaken n) (name_same n.text)
  postfix_same names (Keep listed) = refl

  postfixes_same : (names : List (List ℕ)) (ps : List Postfix) → postfixes_fault a names ps ≡ postfixes_fault b names ps
  postfixes_same names [] = refl
  postfixes_same names (p ∷ ps) = ap₂ (λ o q. option_or o q) (postfix_same names p) (postfixes_same (names_after names (p ∷ [])) ps)

  mutual
    formula_same : (f : Formula) → formula_fault a f ≡ formula_fault b f
    formula_same (Of name) = ap (λ t. unless_named t UnknownType name) (name_same name.text)
    formula_same (Chain' n row) = formulas_same row
    formula_same (Linked' p first n row) = ap₂ (λ o q. option_or o q) (formula_same first) (links_same row)
    formula_same (Either' n row) = formulas_same row
    formula_same (Post' p base postfixes) = ap₂ (λ o q. option_or o q) (formula_same base) (postfixes_same (names_of base) postfixes.items)
    formula_same (Under' p base filters) = ap₂ (λ o q. option_or o q) (formula_same base) (all_same (names_of base) filters.items)

    formulas_same : {m : _} → (row : Row_of-Formula m) → formulas_fault a row ≡ formulas_fault b row
    formulas_same end_of-Formula = refl
    formulas_same (more_of-Formula f rest) = ap₂ (λ o p. option_or o p) (formula_same f) (formulas_same rest)

    links_same : {m : _} → (row : Row_of-Link m) → links_fault a row ≡ links_fault b row
    links_same end_of-Link = refl
    links_same (more_of-Link tight f rest) = ap₂ (λ o p. option_or o p) (formula_same f) (links_same rest)

  partition_same : (names : List Name) → first_in (λ n. unless_named (some_has_attr a n.text any_kind) UnknownAttribute n) names ≡ first_in (λ n. unless_named (some_has_attr b n.text any_kind) UnknownAttribute n) names
  partition_same [] = refl
  partition_same (n ∷ ns) = ap₂ (λ o p. option_or o p) (ap (λ t. unless_named t UnknownAttribute n) (attr_same n.text any_kind)) (partition_same ns)

  window_same : (w : Window) → window_fault a w ≡ window_fault b w
  window_same Free = refl
  window_same (Events n) = refl
  window_same (Clock name n) = ap (λ t. unless_named t WindowKind name) (each_same a b s (has_attr name.text is_whole))

  pub query_same : (q : Query) → query_fault a q ≡ query_fault b q
  query_same q = ap₂ (λ o p. option_or o p) (formula_same q.formula)
      (ap (λ o. option_or (list_fault (names_of q.formula) q.select) (option_or (unless (nat_le (leaf_count q.formula) MOST_LEAVES) TooManyLeaves q.place) o))
      (ap₂ (λ o p. option_or o p) (partition_same q.partition) (ap (λ o. option_or o None) (window_same q.window))))
