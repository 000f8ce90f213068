-- Lawful terms without a fault are checked.
use Rattle.std.proofs.Common.{◌≡◌, ◌≢◌, refl, ap, ◌∙◌, ℕ, zero, suc, ◌<◌, Bool, true, false, not, ◌&&◌, ◌||◌, List, [], ◌∷◌, ◌++◌, Option, None, length, arith}
use Rattle.std.specs.Prelude.{All, Any, Contains, map, bytes_eq, slice_index_or, ⊤}
use Rattle.std.proofs.lemmas.List.Folds.{Any-from_list_any}
use Rattle.std.proofs.lemmas.List.Sums.{AllPass-from_list_all}
use Rattle.std.proofs.lemmas.Slice.Eq.{bytes_eq-Decides}
use Rattle.stream_schema.specs.Types.{DeclaredType}
use Rattle.stream_schema.specs.declared.Kind.{Kind}
use Rattle.stream_schema.specs.declared.Kind.TheVariants as kind
use Rattle.stream_schema.specs.declared.Value.{Value}
use Rattle.stream_schema.specs.declared.Value.TheVariants as value
use Rattle.cel_terms.specs.declared.Name.{Name}
use Rattle.stream_schema.specs.declared.Op.{Op}
use Rattle.stream_schema.specs.declared.Op.TheVariants.{Eq, Ne, Lt, Le, Gt, Ge}
use Rattle.cel_terms.specs.declared.Pred.{Pred, Cmp, Not', All', Any', Row_of-Pred, end_of-Pred, more_of-Pred}
use Rattle.cel_terms.specs.declared.Filter.{Filter, On, Row_of-Filter, end_of-Filter, more_of-Filter}
use Rattle.cel_terms.specs.declared.Filter as filter
use Rattle.cel_terms.specs.declared.Postfix.{Postfix}
use Rattle.cel_terms.specs.declared.Postfix.TheVariants.{Plus, NextPlus, Named, Keep}
use Rattle.cel_terms.specs.declared.Formula.{Formula, Of, Chain', Linked', Either', Post', Under', Row_of-Formula, end_of-Formula, more_of-Formula, Row_of-Link, end_of-Link, more_of-Link}
use Rattle.cel_terms.specs.Meaning.{lists_name}
use Rattle.cel_terms.specs.Checked.{IsTypeName, IsAttr, SomeHasAttr, EachHasAttr, IsCheckedComparison, IsCheckedPred, AreCheckedPreds, MorePredsChecked, IsCheckedFilter, AreCheckedFilters, MoreFiltersChecked, names_of, AreNamesOf, ArePostfixesChecked, IsCheckedFormula, AreCheckedFormulas, MoreFormulasChecked, AreCheckedLinks, MoreLinksChecked}
use Rattle.ceql_grammar.specs.declared.faults.QueryFault.TheVariants.{NameTaken, UnknownType, UnknownName, NeverKind, NoOrder}
use Rattle.ceql_grammar.specs.declared.faults.QueryError.{QueryError}
use Rattle.stream_schema.specs.Comparing.{kind_of, are_alike, AreComparable, TakesLiteral, HasFewPlaces}
use Rattle.ceql_parser.specs.FirstFaults.{first_in, unless_named}
use Rattle.ceql_parser.specs.TypesAsked.{is_type_name, has_attr, some_has_attr, each_has_attr, is_flag, is_order}
use Rattle.ceql_parser.specs.FormulaFaults.{comparison_fault, pred_fault, preds_fault, name_fault, filter_fault, filters_fault, postfixes_fault, formula_fault, formulas_fault, links_fault}
use Rattle.ceql_grammar.specs.Trees.{pred_tree, pred_trees, filters, filter_tree, filter_trees, formula_tree, formula_trees, link_trees}
use Rattle.ceql_grammar.specs.LawfulTexts.{IsLawfulPred, AreLawfulPreds, MorePredsLawful, IsLawfulFilter, AreLawfulFilters, MoreFiltersLawful, KeepsSome, IsLawfulFormula, AreLawfulFormulas, MoreFormulasLawful, AreLawfulLinks, MoreLinksLawful}
use Rattle.ceql_parser.proofs.AcceptedDeclarations.{head_none, rest_none, passed}

pub any_map : {X : Type 0} (P Q : X → Type 0) (xs : List X) → ((x : X) → P x → Q x) → Any P xs → Any Q xs
any_map P Q xs f h = (h.0, h.1, h.2, h.3, f h.1 h.4)

pub all_cons : {X : Type 0} (P : X → Type 0) (x : X) (xs : List X) → P x → All P xs → All P (x ∷ xs)
all_cons P x xs p q = at
  where
    at : (k : ℕ) (d : _) → k < length (x ∷ xs) → P (slice_index_or (x ∷ xs) k d)
    at zero d h = p
    at (suc k) d h = q k d (omega arith)

pub all_nil : {X : Type 0} (P : X → Type 0) → All P []
all_nil P = λ k d h. absurd (omega (arith, h))

pub all_first : {X : Type 0} (P : X → Type 0) (x : X) (xs : List X) → All P (x ∷ xs) → P x
all_first P x xs a = a 0 x (omega arith)

pub all_later : {X : Type 0} (P : X → Type 0) (x : X) (xs : List X) → All P (x ∷ xs) → All P xs
all_later P x xs a = λ k d h. a (suc k) d (omega (arith, h))

-- each item without a fault has the property
pub all_told : {X : Type 0} (find : X → Option QueryError) (P L : X → Type 0) → ((x : X) → L x → find x ≡ None → P x) → (xs : List X) → All L xs → first_in find xs ≡ None → All P xs
all_told find P L f [] l e = all_nil P
all_told find P L f (x ∷ xs) l e = all_cons P x xs (f x (all_first L x xs l) (head_none _ _ e)) (all_told find P L f xs (all_later L x xs l) (rest_none _ _ e))

and_left : (a b : Bool) → (a && b) ≡ true → a ≡ true
and_left true b e = refl
and_left false b e = absurd cc

and_right : (a b : Bool) → (a && b) ≡ true → b ≡ true
and_right true b e = e
and_right false b e = absurd cc

has_from : (name : List ℕ) (passes : Kind → Bool) (Passes : Kind → Type 0) → ((k : Kind) → passes k ≡ true → Passes k) → (t : DeclaredType) → has_attr name passes t ≡ true → Any (IsAttr name Passes) t.attrs
has_from name passes Passes f t e =
    any_map (λ a. (bytes_eq a.name name && passes a.kind) ≡ true) (IsAttr name Passes) t.attrs
    (λ a h. ((bytes_eq-Decides a.name name).0 (and_left (bytes_eq a.name name) (passes a.kind) h), f a.kind (and_right (bytes_eq a.name name) (passes a.kind) h)))
    (Any-from_list_any (λ a. bytes_eq a.name name && passes a.kind) t.attrs e)

pub some_from : (types : List DeclaredType) (name : List ℕ) (passes : Kind → Bool) (Passes : Kind → Type 0) → ((k : Kind) → passes k ≡ true → Passes k) → some_has_attr types name passes ≡ true → SomeHasAttr types name Passes
some_from types name passes Passes f e =
    any_map (λ t. has_attr name passes t ≡ true) (λ t. Any (IsAttr name Passes) t.attrs) types (has_from name passes Passes f) (Any-from_list_any (has_attr name passes) types e)

pub each_from : (types : List DeclaredType) (name : List ℕ) (passes : Kind → Bool) (Passes : Kind → Type 0) → ((k : Kind) → passes k ≡ true → Passes k) → each_has_attr types name passes ≡ true → EachHasAttr types name Passes
each_from types name passes Passes f e = λ k d h. has_from name passes Passes f (slice_index_or types k d) (AllPass-from_list_all (has_attr name passes) types e k d h)

type_from : (types : List DeclaredType) (name : List ℕ) → is_type_name types name ≡ true → IsTypeName types name
type_from types name e = any_map (λ t. bytes_eq t.name name ≡ true) (λ t. t.name ≡ name) types (λ t h. (bytes_eq-Decides t.name name).0 h) (Any-from_list_any (λ t. bytes_eq t.name name) types e)

type_to : (types : List DeclaredType) (name : List ℕ) → IsTypeName types name → is_type_name types name ≡ true
type_to [] name h = absurd (let k = h.2 in omega (arith, k))
type_to (t ∷ ts) name (zero, x, h, at, p) = front (bytes_eq t.name name) _ ((bytes_eq-Decides t.name name).1 (ap (λ (y : DeclaredType). y.name) at ∙ p))
  where
    front : (a b : Bool) → a ≡ true → (a || b) ≡ true
    front true b e = refl
    front false b e = absurd cc
type_to (t ∷ ts) name (suc k, x, h, at, p) = later (bytes_eq t.name name) _ (type_to ts name (k, x, omega (arith, h), at, p))
  where
    later : (a b : Bool) → b ≡ true → (a || b) ≡ true
    later true b e = refl
    later false b e = e

-- a name that is listed
pub listed_from : (names : List (List ℕ)) (name : List ℕ) → lists_name names name ≡ true → Contains names name
listed_from [] name e = absurd cc
listed_from (n ∷ ns) name e = here_or n ns name (bytes_eq n name) refl e (λ f. listed_from ns name f)
  where
    here_or : (n : List ℕ) (ns : List (List ℕ)) (name : List ℕ) (b : Bool) → bytes_eq n name ≡ b → (b || lists_name ns name) ≡ true → (lists_name ns name ≡ true → Contains ns name) → Contains (n ∷ ns) name
    here_or n ns name true is e later = (0, omega arith, (bytes_eq-Decides n name).0 is)
    here_or n ns name false is e later = let h = later e in (suc h.0, (let k = h.1 in omega (arith, k)), h.2)

pub name_from : (names : List (List ℕ)) (n : Name) → name_fault names n ≡ None → Contains names n.text
name_from names n e = listed_from names n.text (passed (lists_name names n.text) (UnknownName n.text) n.place e)

takes : (op : Op) (literal : Value) → not (is_order op && is_flag literal) ≡ true → TakesLiteral op literal
takes Eq v e = tt
takes Ne v e = tt
takes Lt (value.Flag b) e = absurd cc
takes Le (value.Flag b) e = absurd cc
takes Gt (value.Flag b) e = absurd cc
takes Ge (value.Flag b) e = absurd cc
takes Lt (value.Int n) e = tt
takes Le (value.Int n) e = tt
takes Gt (value.Int n) e = tt
takes Ge (value.Int n) e = tt
takes Lt (value.Text n) e = tt
takes Le (value.Text n) e = tt
takes Gt (value.Text n) e = tt
takes Ge (value.Text n) e = tt
takes Lt (value.Dec n p) e = tt
takes Le (value.Dec n p) e = tt
takes Gt (value.Dec n p) e = tt
takes Ge (value.Dec n p) e = tt

comparison_checked : (types : List DeclaredType) (name : Name) (op : Op) (literal : Value) → HasFewPlaces literal → comparison_fault types name op literal ≡ None → IsCheckedComparison types name op literal
comparison_checked types name op literal few e =
    let e1 = rest_none _ _ e in
    let e2 = rest_none _ _ e1 in
    record {
      comparable = some_from types name.text (are_alike (kind_of literal)) (AreComparable literal) (λ k e. e) (passed _ (NeverKind name.text (kind_of literal)) name.place (head_none _ _ e1));
      operator = takes op literal (passed _ NoOrder name.place (head_none _ _ e2));
      places = few;
    }

mutual
  pub pred_checked : (types : List DeclaredType) (p : Pred) → IsLawfulPred (pred_tree p) → pred_fault types p ≡ None → IsCheckedPred types p
  pred_checked types (Cmp name op literal) l e = comparison_checked types name op literal l e
  pred_checked types (Not' s p) l e = pred_checked types p l e
  pred_checked types (All' s row) l e = preds_checked types row l e
  pred_checked types (Any' s row) l e = preds_checked types row l e

  preds_checked : (types : List DeclaredType) {m : _} → (row : Row_of-Pred m) → AreLawfulPreds (pred_trees row) → preds_fault types row ≡ None → AreCheckedPreds types row
  preds_checked types end_of-Pred l e = absurd l
  preds_checked types (more_of-Pred p rest) l e = (pred_checked types p l.0 (head_none _ _ e), more_preds types rest l.1 (rest_none _ _ e))

  more_preds : (types : List DeclaredType) {m : _} → (row : Row_of-Pred m) → MorePredsLawful (pred_trees row) → preds_fault types row ≡ None → MorePredsChecked types row
  more_preds types end_of-Pred l e = tt
  more_preds types (more_of-Pred p rest) l e = (pred_checked types p l.0 (head_none _ _ e), more_preds types rest l.1 (rest_none _ _ e))

mutual
  pub filter_checked : (types : List DeclaredType) (names : List (List ℕ)) (f : Filter) → IsLawfulFilter (filter_tree f) → filter_fault types names f ≡ None → IsCheckedFilter types names f
  filter_checked types names (On name p) l e = (name_from names name (head_none _ _ e), pred_checked types p l (rest_none _ _ e))
  filter_checked types names (filter.All' s row) l e = filters_checked types names row l e
  filter_checked types names (filter.Any' s row) l e = filters_checked types names row l e

  filters_checked : (types : List DeclaredType) (names : List (List ℕ)) {m : _} → (row : Row_of-Filter m) → AreLawfulFilters (filter_trees row) → filters_fault types names row ≡ None → AreCheckedFilters types names row
  filters_checked types names end_of-Filter l e = absurd l
  filters_checked types names (more_of-Filter f rest) l e = (filter_checked types names f l.0 (head_none _ _ e), more_filters types names rest l.1 (rest_none _ _ e))

  more_filters : (types : List DeclaredType) (names : List (List ℕ)) {m : _} → (row : Row_of-Filter m) → MoreFiltersLawful (filter_trees row) → filters_fault types names row ≡ None → MoreFiltersChecked types names row
  more_filters types names end_of-Filter l e = tt
  more_filters types names (more_of-Filter f rest) l e = (filter_checked types names f l.0 (head_none _ _ e), more_filters types names rest l.1 (rest_none _ _ e))

new_name : (types : List DeclaredType) (n : Name) → unless_named (not (is_type_name types n.text)) NameTaken n ≡ None → IsTypeName types n.text → ⊥
new_name types n e h = clash (is_type_name types n.text) (type_to types n.text h) (passed (not (is_type_name types n.text)) (NameTaken n.text) n.place e)
  where
    clash : (b : Bool) → b ≡ true → not b ≡ true → ⊥
    clash true p q = absurd cc
    clash false p q = absurd cc

pub names_from : (names : List (List ℕ)) (listed : List Name) → listed ≢ [] → first_in (name_fault names) listed ≡ None → AreNamesOf names listed
names_from names listed some e = record { some = some; known = all_told (name_fault names) (λ n. Contains names n.text) (λ n. ⊤) (λ n l h. name_from names n h) listed (λ k d h. tt) e }

postfixes_checked : (types : List DeclaredType) (names : List (List ℕ)) (ps : List Postfix) → All KeepsSome ps → postfixes_fault types names ps ≡ None → ArePostfixesChecked types names ps
postfixes_checked types names [] l e = tt
postfixes_checked types names (Plus ∷ ps) l e = postfixes_checked types names ps (all_later KeepsSome Plus ps l) e
postfixes_checked types names (NextPlus ∷ ps) l e = postfixes_checked types names ps (all_later KeepsSome NextPlus ps l) e
postfixes_checked types names (Named n ∷ ps) l e = (new_name types n (head_none _ _ e), postfixes_checked types (names ++ n.text ∷ []) ps (all_later KeepsSome (Named n) ps l) (rest_none _ _ e))
postfixes_checked types names (Keep listed ∷ ps) l e = (names_from names listed (all_first KeepsSome (Keep listed) ps l) (head_none _ _ e), postfixes_checked types (map (λ n. n.text) listed) ps (all_later KeepsSome (Keep listed) ps l) (rest_none _ _ e))

some_filters : (cs : List Filter) → AreLawfulFilters (filters (map filter_tree cs)) → cs ≢ []
some_filters [] l = absurd l
some_filters (c ∷ cs) l = λ e. absurd cc

later_filters : (cs : List Filter) → MoreFiltersLawful (filters (map filter_tree cs)) → All (λ c. IsLawfulFilter (filter_tree c)) cs
later_filters [] l = all_nil (λ c. IsLawfulFilter (filter_tree c))
later_filters (c ∷ cs) l = all_cons (λ c. IsLawfulFilter (filter_tree c)) c cs l.0 (later_filters cs l.1)

each_filter : (cs : List Filter) → AreLawfulFilters (filters (map filter_tree cs)) → All (λ c. IsLawfulFilter (filter_tree c)) cs
each_filter [] l = absurd l
each_filter (c ∷ cs) l = all_cons (λ c. IsLawfulFilter (filter_tree c)) c cs l.0 (later_filters cs l.1)

mutual
  pub formula_checked : (types : List DeclaredType) (f : Formula) → IsLawfulFormula (formula_tree f) → formula_fault types f ≡ None → IsCheckedFormula types f
  formula_checked types (Of name) l e = type_from types name.text (passed (is_type_name types name.text) (UnknownType name.text) name.place e)
  formula_checked types (Chain' s row) l e = formulas_checked types row l e
  formula_checked types (Linked' p first s links) l e = (formula_checked types first l.0 (head_none _ _ e), links_checked types links l.1 (rest_none _ _ e))
  formula_checked types (Either' s row) l e = formulas_checked types row l e
  formula_checked types (Post' p base postfixes) l e = (formula_checked types base l.0 (head_none _ _ e), l.1.0, postfixes_checked types (names_of base) postfixes.items l.1.1 (rest_none _ _ e))
  formula_checked types (Under' p base cs) l e = (formula_checked types base l.0 (head_none _ _ e), some_filters cs.items l.1, all_told (filter_fault types (names_of base)) (IsCheckedFilter types (names_of base)) (λ c. IsLawfulFilter (filter_tree c)) (filter_checked types (names_of base)) cs.items (each_filter cs.items l.1) (rest_none _ _ e))

  formulas_checked : (types : List DeclaredType) {m : _} → (row : Row_of-Formula m) → AreLawfulFormulas (formula_trees row) → formulas_fault types row ≡ None → AreCheckedFormulas types row
  formulas_checked types end_of-Formula l e = absurd l
  formulas_checked types (more_of-Formula f rest) l e = (formula_checked types f l.0 (head_none _ _ e), more_formulas types rest l.1 (rest_none _ _ e))

  more_formulas : (types : List DeclaredType) {m : _} → (row : Row_of-Formula m) → MoreFormulasLawful (formula_trees row) → formulas_fault types row ≡ None → MoreFormulasChecked types row
  more_formulas types end_of-Formula l e = tt
  more_formulas types (more_of-Formula f rest) l e = (formula_checked types f l.0 (head_none _ _ e), more_formulas types rest l.1 (rest_none _ _ e))

  links_checked : (types : List DeclaredType) {m : _} → (row : Row_of-Link m) → AreLawfulLinks (link_trees row) → links_fault types row ≡ None → AreCheckedLinks types row
  links_checked types end_of-Link l e = absurd l
  links_checked types (more_of-Link tight f rest) l e = (formula_checked types f l.0 (head_none _ _ e), more_links types rest l.1 (rest_none _ _ e))

  more_links : (types : List DeclaredType) {m : _} → (row : Row_of-Link m) → MoreLinksLawful (link_trees row) → links_fault types row ≡ None → MoreLinksChecked types row
  more_links types end_of-Link l e = tt
  more_links types (more_of-Link tight f rest) l e = (formula_checked types f l.0 (head_none _ _ e), more_links types rest l.1 (rest_none _ _ e))
