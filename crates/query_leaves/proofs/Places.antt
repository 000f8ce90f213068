-- No literal in the leaves of a checked query has more than nine decimal places.
use Rattle.std.proofs.Common.{ℕ, cond, Bool, true, false, List, [], ◌∷◌, ◌++◌, Option, Some, None}
use Rattle.std.specs.List.{AllByRecursion}
use Rattle.std.proofs.lemmas.List.Elements.{recursion_from_All}
use Rattle.stream_schema.specs.Types.{Declared, DeclaredType}
use Rattle.cel_terms.specs.declared.Name.{Name}
use Rattle.cel_terms.specs.declared.Query.{Query}
use Rattle.cel_terms.specs.declared.Pred.{Pred, Cmp, Not', Row_of-Pred, end_of-Pred, more_of-Pred}
use Rattle.cel_terms.specs.declared.Pred as pred
use Rattle.cel_terms.specs.declared.Postfix.{Postfix}
use Rattle.cel_terms.specs.declared.Postfix.TheVariants.{Plus, NextPlus, Named, Keep}
use Rattle.cel_terms.specs.declared.Filter.{Filter, On, All', Any', Row_of-Filter, end_of-Filter, more_of-Filter}
use Rattle.cel_terms.specs.declared.Formula.{Formula, Of, Chain', Linked', Either', Post', Under', Row_of-Formula, end_of-Formula, more_of-Formula, Row_of-Link, end_of-Link, more_of-Link}
use Rattle.cel_terms.specs.Meaning.{lists_name, with_name, only_names}
use Rattle.cel_terms.specs.Checked.{IsChecked, types_read, names_of, IsCheckedPred, AreCheckedPreds, MorePredsChecked, IsCheckedFilter, AreCheckedFilters, MoreFiltersChecked, IsCheckedFormula, AreCheckedFormulas, MoreFormulasChecked, AreCheckedLinks, MoreLinksChecked}
use Rattle.query_leaves.specs.LeafTree.{LeafTree, leaf, none, sequence, either, plus}
use Rattle.query_leaves.specs.Expand.{Occurrence, at_leaves, rename_leaf, test_leaf, filtered, filtered_by_all, filtered_by_any, under_all, one_or_more, postfixed, postfixed_by_all, expand, expand_chain, expand_on, expand_links, expand_choices, selected_tree, tree_of}
use Rattle.query_leaves.specs.Leaves.{occurrences}
use Rattle.query_leaves.specs.Tests.{PredHasFewPlaces, PredsHaveFewPlaces, OccurrenceHasFewPlaces}

mutual
  few_pred : (types : List DeclaredType) (p : Pred) → IsCheckedPred types p → PredHasFewPlaces p
  few_pred types (Cmp name op literal) h = h.places
  few_pred types (Not' p inner) h = few_pred types inner h
  few_pred types (pred.All' s preds) h = few_preds types preds h
  few_pred types (pred.Any' s preds) h = few_preds types preds h

  few_preds : (types : List DeclaredType) {m : _} (row : Row_of-Pred m) → AreCheckedPreds types row → PredsHaveFewPlaces row
  few_preds types end_of-Pred h = absurd h
  few_preds types (more_of-Pred p rest) h = (few_pred types p h.0, more_few_preds types rest h.1)

  more_few_preds : (types : List DeclaredType) {m : _} (row : Row_of-Pred m) → MorePredsChecked types row → PredsHaveFewPlaces row
  more_few_preds types end_of-Pred h = tt
  more_few_preds types (more_of-Pred p rest) h = (few_pred types p h.0, more_few_preds types rest h.1)

-- each leaf has few places
abbrev FewTree : LeafTree Occurrence → Type 0
FewTree (leaf o) = OccurrenceHasFewPlaces o
FewTree none = Unit {0}
FewTree (sequence tight a b) = FewTree a × FewTree b
FewTree (either a b) = FewTree a × FewTree b
FewTree (plus tight a) = FewTree a

few_at_leaves : (g : Occurrence → Occurrence) → ((o : Occurrence) → OccurrenceHasFewPlaces o → OccurrenceHasFewPlaces (g o)) → (t : LeafTree Occurrence) → FewTree t → FewTree (at_leaves g t)
few_at_leaves g keeps (leaf o) h = keeps o h
few_at_leaves g keeps none h = tt
few_at_leaves g keeps (sequence tight a b) h = (few_at_leaves g keeps a h.0, few_at_leaves g keeps b h.1)
few_at_leaves g keeps (either a b) h = (few_at_leaves g keeps a h.0, few_at_leaves g keeps b h.1)
few_at_leaves g keeps (plus tight a) h = few_at_leaves g keeps a h

few_renamed : (change : List (List ℕ) → List (List ℕ)) (t : LeafTree Occurrence) → FewTree t → FewTree (at_leaves (rename_leaf change) t)
few_renamed change = few_at_leaves (rename_leaf change) (λ o h. h)

few_more : (b : Bool) (p : Pred) (ps : List Pred) → PredHasFewPlaces p → AllByRecursion PredHasFewPlaces ps → AllByRecursion PredHasFewPlaces (cond b (p ∷ ps) ps)
few_more true p ps h hs = (h, hs)
few_more false p ps h hs = hs

mutual
  few_filtered : (types : List DeclaredType) (names : List (List ℕ)) (c : Filter) → IsCheckedFilter types names c → (t : LeafTree Occurrence) → FewTree t → FewTree (filtered c t)
  few_filtered types names (On name p) h t few =
      few_at_leaves (test_leaf name.text p) (λ o hs. few_more (lists_name o.names name.text) p o.tests (few_pred types p h.1) hs) t few
  few_filtered types names (All' s cs) h t few = few_all types names cs h t few
  few_filtered types names (Any' s cs) h t few = few_any types names cs h t few

  few_all : (types : List DeclaredType) (names : List (List ℕ)) {m : _} (row : Row_of-Filter m) → AreCheckedFilters types names row → (t : LeafTree Occurrence) → FewTree t → FewTree (filtered_by_all row t)
  few_all types names end_of-Filter h t few = absurd h
  few_all types names (more_of-Filter c rest) h t few = more_few_all types names rest h.1 (filtered c t) (few_filtered types names c h.0 t few)

  more_few_all : (types : List DeclaredType) (names : List (List ℕ)) {m : _} (row : Row_of-Filter m) → MoreFiltersChecked types names row → (t : LeafTree Occurrence) → FewTree t → FewTree (filtered_by_all row t)
  more_few_all types names end_of-Filter h t few = few
  more_few_all types names (more_of-Filter c rest) h t few = more_few_all types names rest h.1 (filtered c t) (few_filtered types names c h.0 t few)

  few_any : (types : List DeclaredType) (names : List (List ℕ)) {m : _} (row : Row_of-Filter m) → AreCheckedFilters types names row → (t : LeafTree Occurrence) → FewTree t → FewTree (filtered_by_any row t)
  few_any types names end_of-Filter h t few = absurd h
  few_any types names (more_of-Filter c rest) h t few = (few_filtered types names c h.0 t few, more_few_any types names rest h.1 t few)

  more_few_any : (types : List DeclaredType) (names : List (List ℕ)) {m : _} (row : Row_of-Filter m) → MoreFiltersChecked types names row → (t : LeafTree Occurrence) → FewTree t → FewTree (filtered_by_any row t)
  more_few_any types names end_of-Filter h t few = tt
  more_few_any types names (more_of-Filter c rest) h t few = (few_filtered types names c h.0 t few, more_few_any types names rest h.1 t few)

few_under : (types : List DeclaredType) (names : List (List ℕ)) (cs : List Filter) → AllByRecursion (IsCheckedFilter types names) cs → (t : LeafTree Occurrence) → FewTree t → FewTree (under_all cs t)
few_under types names [] h t few = few
few_under types names (c ∷ cs) h t few = few_under types names cs h.1 (filtered c t) (few_filtered types names c h.0 t few)

few_repeated : (tight : Bool) (t : LeafTree Occurrence) → FewTree t → FewTree (one_or_more tight t)
few_repeated tight (leaf l) few = few
few_repeated tight none few = few
few_repeated tight (sequence u a b) few = few
few_repeated tight (either a b) few = few
few_repeated tight (plus u a) few = few

few_postfixed : (p : Postfix) (t : LeafTree Occurrence) → FewTree t → FewTree (postfixed p t)
few_postfixed Plus t few = few_repeated false t few
few_postfixed NextPlus t few = few_repeated true t few
few_postfixed (Named name) t few = few_renamed (with_name name.text) t few
few_postfixed (Keep names) t few = few_renamed (only_names names) t few

few_all_postfixed : (ps : List Postfix) (t : LeafTree Occurrence) → FewTree t → FewTree (postfixed_by_all ps t)
few_all_postfixed [] t few = few
few_all_postfixed (p ∷ ps) t few = few_all_postfixed ps (postfixed p t) (few_postfixed p t few)

mutual
  few_expanded : (types : List DeclaredType) (f : Formula) → IsCheckedFormula types f → FewTree (expand f)
  few_expanded types (Of name) h = tt
  few_expanded types (Chain' s parts) h = few_chain types parts h
  few_expanded types (Linked' p first s links) h = few_links types (expand first) (few_expanded types first h.0) links h.1
  few_expanded types (Either' s choices) h = few_choices types choices h
  few_expanded types (Post' p base postfixes) h = few_all_postfixed postfixes.items (expand base) (few_expanded types base h.0)
  few_expanded types (Under' p base filters) h =
      few_under types (names_of base) filters.items (recursion_from_All (IsCheckedFilter types (names_of base)) filters.items h.2) (expand base) (few_expanded types base h.0)

  few_chain : (types : List DeclaredType) {m : _} (row : Row_of-Formula m) → AreCheckedFormulas types row → FewTree (expand_chain row)
  few_chain types end_of-Formula h = absurd h
  few_chain types (more_of-Formula f rest) h = few_on types (expand f) (few_expanded types f h.0) rest h.1

  few_on : (types : List DeclaredType) (t : LeafTree Occurrence) → FewTree t → {m : _} (row : Row_of-Formula m) → MoreFormulasChecked types row → FewTree (expand_on t row)
  few_on types t few end_of-Formula h = few
  few_on types t few (more_of-Formula f rest) h = few_on types (sequence false t (expand f)) (few, few_expanded types f h.0) rest h.1

  few_choices : (types : List DeclaredType) {m : _} (row : Row_of-Formula m) → AreCheckedFormulas types row → FewTree (expand_choices row)
  few_choices types end_of-Formula h = absurd h
  few_choices types (more_of-Formula f rest) h = (few_expanded types f h.0, more_few_choices types rest h.1)

  more_few_choices : (types : List DeclaredType) {m : _} (row : Row_of-Formula m) → MoreFormulasChecked types row → FewTree (expand_choices row)
  more_few_choices types end_of-Formula h = tt
  more_few_choices types (more_of-Formula f rest) h = (few_expanded types f h.0, more_few_choices types rest h.1)

  few_links : (types : List DeclaredType) (t : LeafTree Occurrence) → FewTree t → {m : _} (row : Row_of-Link m) → AreCheckedLinks types row → FewTree (expand_links t row)
  few_links types t few end_of-Link h = absurd h
  few_links types t few (more_of-Link tight next rest) h = more_few_links types (sequence tight t (expand next)) (few, few_expanded types next h.0) rest h.1

  more_few_links : (types : List DeclaredType) (t : LeafTree Occurrence) → FewTree t → {m : _} (row : Row_of-Link m) → MoreLinksChecked types row → FewTree (expand_links t row)
  more_few_links types t few end_of-Link h = few
  more_few_links types t few (more_of-Link tight next rest) h = more_few_links types (sequence tight t (expand next)) (few, few_expanded types next h.0) rest h.1

few_selected : (select : Option (List Name)) (t : LeafTree Occurrence) → FewTree t → FewTree (selected_tree select t)
few_selected None t few = few
few_selected (Some names) t few = few_renamed (only_names names) t few

recursion_append : {A : Type 0} (P : A → Type 0) (xs ys : List A) → AllByRecursion P xs → AllByRecursion P ys → AllByRecursion P (xs ++ ys)
recursion_append P [] ys h k = k
recursion_append P (x ∷ xs) ys h k = (h.0, recursion_append P xs ys h.1 k)

few_listed : (t : LeafTree Occurrence) → FewTree t → AllByRecursion OccurrenceHasFewPlaces (occurrences t)
few_listed (leaf o) few = (few, tt)
few_listed none few = tt
few_listed (sequence tight a b) few = recursion_append OccurrenceHasFewPlaces (occurrences a) (occurrences b) (few_listed a few.0) (few_listed b few.1)
few_listed (either a b) few = recursion_append OccurrenceHasFewPlaces (occurrences a) (occurrences b) (few_listed a few.0) (few_listed b few.1)
few_listed (plus tight a) few = few_listed a few

pub checked_few : (schema : Declared) (q : Query) → IsChecked schema q → AllByRecursion OccurrenceHasFewPlaces (occurrences (tree_of q))
checked_few schema q h = few_listed (tree_of q) (few_selected q.select (expand q.formula) (few_expanded (types_read schema q) q.formula h.formula))
