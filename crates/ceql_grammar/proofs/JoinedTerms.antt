-- What a list of terms in one node says, and a list with one member.
use Rattle.std.proofs.Common.{◌≡◌, ◌≢◌, refl, sym, ◌∙◌, ap, ◌<◌, List, [], ◌∷◌, ◌++◌, length, map, arith}
use Rattle.std.specs.Prelude.{Vec, Box, Bool, true, false, ◌||◌, if◌then◌else◌}
use Rattle.std.specs.declared.alloc.Global.{Global}
use Rattle.cel_terms.specs.declared.Pred.{Pred, All, All', Any, Any', Row_of-Pred, end_of-Pred, more_of-Pred, items-the_row-Pred, items_hidden-the_row-Pred-0}
use Rattle.cel_terms.specs.declared.Filter.{Filter, Row_of-Filter, end_of-Filter, more_of-Filter, items-the_row-Filter, items_hidden-the_row-Filter-0}
use Rattle.cel_terms.specs.declared.Filter as term
use Rattle.cel_terms.specs.declared.Link.{Link}
use Rattle.cel_terms.specs.declared.Formula.{Formula, Chain, Chain', Linked, Linked', Either, Either', Row_of-Formula, end_of-Formula, more_of-Formula, items-the_row-Formula, items_hidden-the_row-Formula-0, Row_of-Link, end_of-Link, more_of-Link, items-the_row-Link, items_hidden-the_row-Link-1}
use Rattle.ceql_grammar.specs.Trees.{pred_then, filter_then, formula_then, link_then, every_pred, some_pred, preds, pred_tree, pred_trees, every_filter, some_filter, filters, filter_tree, filter_trees, FormulaTree, chain, linked, either, formulas, links, formula_tree, formula_trees, link_trees}
use Rattle.ceql_grammar.specs.MemberLists.{all_preds_of, any_pred_of, all_filters_of, any_filter_of, any_formula_of}
use Rattle.std.specs.List.{list_any}
use Rattle.ceql_grammar.specs.Formulas.{chain_tree}
use Rattle.ceql_grammar.specs.LinkViews.{link_view, next_of, tight_of}

preds_listed : (n : _) (row : Row_of-Pred n) → pred_trees row ≡ preds (map pred_tree (items-the_row-Pred n row))
preds_listed n end_of-Pred = refl
preds_listed n (more_of-Pred p rest) = ap (λ ps. pred_then (pred_tree p) ps) (preds_listed _ rest)

abbrev row_in : Pred → (n : _) × Row_of-Pred n
row_in (All' _ row) = (_, row)
row_in (Any' _ row) = (_, row)
row_in _ = (_, end_of-Pred)

pub all_is : (v : Vec Pred Global) → pred_tree (All v) ≡ every_pred (preds (map pred_tree v.items))
all_is v = let row = row_in (All v) in ap every_pred (preds_listed row.0 row.1 ∙ ap (λ ps. preds (map pred_tree ps)) (items_hidden-the_row-Pred-0 v))

pub any_is : (v : Vec Pred Global) → pred_tree (Any v) ≡ some_pred (preds (map pred_tree v.items))
any_is v = let row = row_in (Any v) in ap some_pred (preds_listed row.0 row.1 ∙ ap (λ ps. preds (map pred_tree ps)) (items_hidden-the_row-Pred-0 v))

filters_listed : (n : _) (row : Row_of-Filter n) → filter_trees row ≡ filters (map filter_tree (items-the_row-Filter n row))
filters_listed n end_of-Filter = refl
filters_listed n (more_of-Filter p rest) = ap (λ ps. filter_then (filter_tree p) ps) (filters_listed _ rest)

abbrev filter_row_in : Filter → (n : _) × Row_of-Filter n
filter_row_in (term.All' _ row) = (_, row)
filter_row_in (term.Any' _ row) = (_, row)
filter_row_in _ = (_, end_of-Filter)

pub all_filters_is : (v : Vec Filter Global) → filter_tree (term.All v) ≡ every_filter (filters (map filter_tree v.items))
all_filters_is v = let row = filter_row_in (term.All v) in ap every_filter (filters_listed row.0 row.1 ∙ ap (λ ps. filters (map filter_tree ps)) (items_hidden-the_row-Filter-0 v))

pub any_filter_is : (v : Vec Filter Global) → filter_tree (term.Any v) ≡ some_filter (filters (map filter_tree v.items))
any_filter_is v = let row = filter_row_in (term.Any v) in ap some_filter (filters_listed row.0 row.1 ∙ ap (λ ps. filters (map filter_tree ps)) (items_hidden-the_row-Filter-0 v))

formulas_listed : (n : _) (row : Row_of-Formula n) → formula_trees row ≡ formulas (map formula_tree (items-the_row-Formula n row))
formulas_listed n end_of-Formula = refl
formulas_listed n (more_of-Formula f rest) = ap (λ fs. formula_then (formula_tree f) fs) (formulas_listed _ rest)

links_listed : (n : _) (row : Row_of-Link n) → link_trees row ≡ links (map link_view (items-the_row-Link n row))
links_listed n end_of-Link = refl
links_listed n (more_of-Link tight next rest) = ap (λ ls. link_then tight (formula_tree next) ls) (links_listed _ rest)

abbrev formula_row_in : Formula → (n : _) × Row_of-Formula n
formula_row_in (Chain' _ row) = (_, row)
formula_row_in (Either' _ row) = (_, row)
formula_row_in _ = (_, end_of-Formula)

abbrev link_row_in : Formula → (n : _) × Row_of-Link n
link_row_in (Linked' _ _ _ row) = (_, row)
link_row_in _ = (_, end_of-Link)

pub either_is : (v : Vec Formula Global) → formula_tree (Either v) ≡ either (formulas (map formula_tree v.items))
either_is v = let row = formula_row_in (Either v) in ap either (formulas_listed row.0 row.1 ∙ ap (λ fs. formulas (map formula_tree fs)) (items_hidden-the_row-Formula-0 v))

pub chain_is : (v : Vec Formula Global) → formula_tree (Chain v) ≡ chain (formulas (map formula_tree v.items))
chain_is v = let row = formula_row_in (Chain v) in ap chain (formulas_listed row.0 row.1 ∙ ap (λ fs. formulas (map formula_tree fs)) (items_hidden-the_row-Formula-0 v))

pub linked_is : (first : Box Formula Global) (v : Vec Link Global) → formula_tree (Linked first v) ≡ linked (formula_tree first.value) (links (map link_view v.items))
linked_is first v = let row = link_row_in (Linked first v) in ap (linked (formula_tree first.value)) (links_listed row.0 row.1 ∙ ap (λ ls. links (map link_view ls)) (items_hidden-the_row-Link-1 v))

-- LISTS WITH ONE MEMBER AND WITH MORE

every_many : (v : List Pred) → 0 < length v → length v ≢ 1 → every_pred (preds (map pred_tree v)) ≡ all_preds_of (map pred_tree v)
every_many [] l e = absurd (omega arith)
every_many (p ∷ []) l e = absurd (e refl)
every_many (p ∷ q ∷ ps) l e = refl

some_many : (v : List Pred) → 0 < length v → length v ≢ 1 → some_pred (preds (map pred_tree v)) ≡ any_pred_of (map pred_tree v)
some_many [] l e = absurd (omega arith)
some_many (p ∷ []) l e = absurd (e refl)
some_many (p ∷ q ∷ ps) l e = refl

pub all_many : (v : Vec Pred Global) → 0 < length v.items → length v.items ≢ 1 → pred_tree (All v) ≡ all_preds_of (map pred_tree v.items)
all_many v l e = all_is v ∙ every_many v.items l e

pub any_many : (v : Vec Pred Global) → 0 < length v.items → length v.items ≢ 1 → pred_tree (Any v) ≡ any_pred_of (map pred_tree v.items)
any_many v l e = any_is v ∙ some_many v.items l e

every_filters_many : (v : List Filter) → 0 < length v → length v ≢ 1 → every_filter (filters (map filter_tree v)) ≡ all_filters_of (map filter_tree v)
every_filters_many [] l e = absurd (omega arith)
every_filters_many (p ∷ []) l e = absurd (e refl)
every_filters_many (p ∷ q ∷ ps) l e = refl

some_filters_many : (v : List Filter) → 0 < length v → length v ≢ 1 → some_filter (filters (map filter_tree v)) ≡ any_filter_of (map filter_tree v)
some_filters_many [] l e = absurd (omega arith)
some_filters_many (p ∷ []) l e = absurd (e refl)
some_filters_many (p ∷ q ∷ ps) l e = refl

pub all_filters_many : (v : Vec Filter Global) → 0 < length v.items → length v.items ≢ 1 → filter_tree (term.All v) ≡ all_filters_of (map filter_tree v.items)
all_filters_many v l e = all_filters_is v ∙ every_filters_many v.items l e

pub any_filter_many : (v : Vec Filter Global) → 0 < length v.items → length v.items ≢ 1 → filter_tree (term.Any v) ≡ any_filter_of (map filter_tree v.items)
any_filter_many v l e = any_filter_is v ∙ some_filters_many v.items l e

either_formulas_many : (v : List Formula) → 0 < length v → length v ≢ 1 → either (formulas (map formula_tree v)) ≡ any_formula_of (map formula_tree v)
either_formulas_many [] l e = absurd (omega arith)
either_formulas_many (p ∷ []) l e = absurd (e refl)
either_formulas_many (p ∷ q ∷ ps) l e = refl

pub either_many : (v : Vec Formula Global) → 0 < length v.items → length v.items ≢ 1 → formula_tree (Either v) ≡ any_formula_of (map formula_tree v.items)
either_many v l e = either_is v ∙ either_formulas_many v.items l e

-- the only item of a list of one
pub only_item : {X : Type 0} (xs ys : List X) (x : X) → length xs ≡ 1 → xs ≡ ys ++ x ∷ [] → xs ≡ x ∷ []
only_item xs [] x l e = e
only_item xs (y ∷ []) x l e = let k = ap length e in absurd (omega arith)
only_item xs (y ∷ z ∷ ys) x l e = let k = ap length e in absurd (omega arith)

-- FORMULAS IN SEQUENCE

tight_same : (ls : List Link) → list_any (λ l. l.0) (map link_view ls) ≡ list_any tight_of ls
tight_same [] = refl
tight_same (l ∷ ls) = ap (λ b. tight_of l || b) (tight_same ls)

next_same : (ls : List Link) → map formula_tree (map next_of ls) ≡ map (λ l. l.1) (map link_view ls)
next_same [] = refl
next_same (l ∷ ls) = ap (λ fs. formula_tree l.next ∷ fs) (next_same ls)

abbrev linked_or_chain : FormulaTree → List (Bool × FormulaTree) → Bool → FormulaTree
linked_or_chain f ls b = if b then linked f (links ls) else chain (formulas (f ∷ map (λ l. l.1) ls))

-- linked where one follows tightly
pub linked_many : (f : FormulaTree) (ls : List Link) → list_any tight_of ls ≡ true → linked f (links (map link_view ls)) ≡ chain_tree f (map link_view ls)
linked_many f [] e = cc
linked_many f (l ∷ ls) e = sym (ap (linked_or_chain f (map link_view (l ∷ ls))) (tight_same (l ∷ ls) ∙ e))

-- a chain where none does
pub chain_many : (f : Formula) (ls : List Link) → length ls ≢ 0 → list_any tight_of ls ≡ false → chain (formulas (map formula_tree (f ∷ map next_of ls))) ≡ chain_tree (formula_tree f) (map link_view ls)
chain_many f [] k e = absurd (k refl)
chain_many f (l ∷ ls) k e =
    ap (λ fs. chain (formulas (formula_tree f ∷ fs))) (next_same (l ∷ ls))
    ∙ sym (ap (linked_or_chain (formula_tree f) (map link_view (l ∷ ls))) (tight_same (l ∷ ls) ∙ e))
