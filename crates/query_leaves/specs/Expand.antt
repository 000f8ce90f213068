-- The tree of leaves of a formula: filters and names are carried to the types that they speak of. After "CORE: a Complex Event Recognition Engine" (PVLDB 2022).
use Rattle.std.specs.Prelude.{ℕ, Bool, true, false, ◌&&◌, cond, List, [], ◌∷◌, Option, Some, None}
use Rattle.cel_terms.specs.declared.Name.{Name}
use Rattle.cel_terms.specs.declared.Pred.{Pred}
use Rattle.cel_terms.specs.declared.Postfix.{Postfix}
use Rattle.cel_terms.specs.declared.Postfix.TheVariants.{Plus, NextPlus, Named, Keep}
use Rattle.cel_terms.specs.declared.Filter.{Filter, On, All', Any', Row_of-Filter, end_of-Filter, more_of-Filter}
use Rattle.cel_terms.specs.declared.Formula.{Formula, Of, Chain', Linked', Either', Post', Under', Row_of-Formula, end_of-Formula, more_of-Formula, Row_of-Link, end_of-Link, more_of-Link}
use Rattle.cel_terms.specs.declared.Query.{Query}
use Rattle.cel_terms.specs.Meaning.{lists_name, with_name, only_names}
use Rattle.query_leaves.specs.LeafTree.{LeafTree, leaf, none, sequence, either, plus}

-- An occurrence of a type: what it asks of an event, and the names whose sets have its position in the end.
pub record Occurrence : Type 0 where
  pub type : List ℕ
  pub tests : List Pred
  pub names : List (List ℕ)

-- the change is made at each leaf
abbrev pub at_leaves : (Occurrence → Occurrence) → LeafTree Occurrence → LeafTree Occurrence
at_leaves change (leaf l) = leaf (change l)
at_leaves change none = none
at_leaves change (sequence tight a b) = sequence tight (at_leaves change a) (at_leaves change b)
at_leaves change (either a b) = either (at_leaves change a) (at_leaves change b)
at_leaves change (plus tight a) = plus tight (at_leaves change a)

abbrev pub rename_leaf : (List (List ℕ) → List (List ℕ)) → Occurrence → Occurrence
rename_leaf change l = record { type = l.type; tests = l.tests; names = change l.names }

-- one more test where the name holds the leaf's position
abbrev pub test_leaf : List ℕ → Pred → Occurrence → Occurrence
test_leaf name pred l = record { type = l.type; tests = cond (lists_name l.names name) (pred ∷ l.tests) l.tests; names = l.names }

-- An alternative in a filter makes a choice between two copies.
abbrev mutual
  pub filtered : Filter → LeafTree Occurrence → LeafTree Occurrence
  filtered (On name pred) t = at_leaves (test_leaf name.text pred) t
  filtered (All' s filters) t = filtered_by_all filters t
  filtered (Any' s filters) t = filtered_by_any filters t

  pub filtered_by_all : {m : _} → Row_of-Filter m → LeafTree Occurrence → LeafTree Occurrence
  filtered_by_all end_of-Filter t = t
  filtered_by_all (more_of-Filter filter filters) t = filtered_by_all filters (filtered filter t)

  pub filtered_by_any : {m : _} → Row_of-Filter m → LeafTree Occurrence → LeafTree Occurrence
  filtered_by_any end_of-Filter t = none
  filtered_by_any (more_of-Filter filter filters) t = either (filtered filter t) (filtered_by_any filters t)

abbrev pub under_all : List Filter → LeafTree Occurrence → LeafTree Occurrence
under_all [] t = t
under_all (f ∷ fs) t = under_all fs (filtered f t)

-- One or more of a tree. A tree that repeats already repeats no further, and is tight where both are.
abbrev pub one_or_more : Bool → LeafTree Occurrence → LeafTree Occurrence
one_or_more tight (leaf l) = plus tight (leaf l)
one_or_more tight none = plus tight none
one_or_more tight (sequence u a b) = plus tight (sequence u a b)
one_or_more tight (either a b) = plus tight (either a b)
one_or_more tight (plus u a) = plus (tight && u) a

abbrev pub postfixed : Postfix → LeafTree Occurrence → LeafTree Occurrence
postfixed Plus t = one_or_more false t
postfixed NextPlus t = one_or_more true t
postfixed (Named name) t = at_leaves (rename_leaf (with_name name.text)) t
postfixed (Keep names) t = at_leaves (rename_leaf (only_names names)) t

abbrev pub postfixed_by_all : List Postfix → LeafTree Occurrence → LeafTree Occurrence
postfixed_by_all [] t = t
postfixed_by_all (p ∷ ps) t = postfixed_by_all ps (postfixed p t)

-- The tree of a formula.
abbrev mutual
  pub expand : Formula → LeafTree Occurrence
  expand (Of name) = leaf (record { type = name.text; tests = []; names = name.text ∷ [] })
  expand (Chain' s parts) = expand_chain parts
  expand (Linked' p first s links) = expand_links (expand first) links
  expand (Either' s choices) = expand_choices choices
  expand (Post' p base postfixes) = postfixed_by_all postfixes.items (expand base)
  expand (Under' p base filters) = under_all filters.items (expand base)

  pub expand_chain : {m : _} → Row_of-Formula m → LeafTree Occurrence
  expand_chain end_of-Formula = none
  expand_chain (more_of-Formula f rest) = expand_on (expand f) rest

  pub expand_on : {m : _} → LeafTree Occurrence → Row_of-Formula m → LeafTree Occurrence
  expand_on before end_of-Formula = before
  expand_on before (more_of-Formula f rest) = expand_on (sequence false before (expand f)) rest

  pub expand_links : {m : _} → LeafTree Occurrence → Row_of-Link m → LeafTree Occurrence
  expand_links before end_of-Link = before
  expand_links before (more_of-Link tight next rest) = expand_links (sequence tight before (expand next)) rest

  pub expand_choices : {m : _} → Row_of-Formula m → LeafTree Occurrence
  expand_choices end_of-Formula = none
  expand_choices (more_of-Formula f rest) = either (expand f) (expand_choices rest)

abbrev pub selected_tree : Option (List Name) → LeafTree Occurrence → LeafTree Occurrence
selected_tree None t = t
selected_tree (Some names) t = at_leaves (rename_leaf (only_names names)) t

-- the query's tree of leaves
abbrev pub tree_of : Query → LeafTree Occurrence
tree_of q = selected_tree q.select (expand q.formula)
