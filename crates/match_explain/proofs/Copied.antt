-- The names of the leaves of a formula, by the lists in it, and that they are those of its tree.
use Rattle.std.proofs.Common.{◌≡◌, refl, sym, ap, ap₂, ◌∙◌, ℕ, true, false, Bool, List, [], ◌∷◌, ◌++◌, map, append_assoc, append-nil}
use Rattle.std.specs.Prelude.{Vec, Box, fold}
use Rattle.std.specs.List.{flat_map}
use Rattle.std.specs.declared.alloc.Global.{Global}
use Rattle.std.proofs.lemmas.List.{map-append}
use Rattle.cel_terms.specs.declared.Link.{Link}
use Rattle.cel_terms.specs.declared.Postfix.{Postfix}
use Rattle.cel_terms.specs.declared.Postfix.TheVariants.{Plus, NextPlus, Named, Keep}
use Rattle.cel_terms.specs.declared.Formula.{Formula, Of, Chain, Chain', Linked, Linked', Either, Either', Post', Under', Row_of-Formula, end_of-Formula, more_of-Formula, items-the_row-Formula, items_hidden-the_row-Formula-0, Row_of-Link, end_of-Link, more_of-Link, items-the_row-Link, items_hidden-the_row-Link-1}
use Rattle.cel_terms.specs.declared.Filter.{Filter, On, All, All', Any, Any', Row_of-Filter, end_of-Filter, more_of-Filter, items-the_row-Filter, items_hidden-the_row-Filter-0}
use Rattle.cel_lists.specs.Lists.{change}
use Rattle.query_leaves.specs.LeafTree.{LeafTree, leaf, none, sequence, either, plus}
use Rattle.query_leaves.specs.Expand.{Occurrence, at_leaves, rename_leaf, test_leaf, filtered, filtered_by_all, filtered_by_any, under_all, one_or_more, postfixed, postfixed_by_all, expand, expand_chain, expand_on, expand_links, expand_choices}
use Rattle.query_leaves.specs.Leaves.{occurrences}
use Rattle.match_explain.specs.LeafNames.{LeafNames, changed_leaves, copies, copies_of_all, copies_of_any, leaf_names, leaf_names_of_all, leaf_names_of_links, leaf_names_listed, leaf_names_linked}

all_listed : (ls : LeafNames) (n : _) (row : Row_of-Filter n) → copies_of_all row ls ≡ fold (λ ls c. copies c ls) ls (items-the_row-Filter n row)
all_listed ls n end_of-Filter = refl
all_listed ls n (more_of-Filter c rest) = all_listed (copies c ls) _ rest

any_listed : (ls : LeafNames) (n : _) (row : Row_of-Filter n) → copies_of_any row ls ≡ flat_map (λ c. copies c ls) (items-the_row-Filter n row)
any_listed ls n end_of-Filter = refl
any_listed ls n (more_of-Filter c rest) = ap (λ x. copies c ls ++ x) (any_listed ls _ rest)

abbrev filters_of : Filter → (n : _) × Row_of-Filter n
filters_of (All' _ row) = (_, row)
filters_of (Any' _ row) = (_, row)
filters_of _ = (_, end_of-Filter)

pub copies_all_is : (ls : LeafNames) (filters : Vec Filter Global) → copies (All filters) ls ≡ fold (λ ls c. copies c ls) ls filters.items
copies_all_is ls filters =
    let row = filters_of (All filters) in
    all_listed ls row.0 row.1 ∙ ap (fold (λ ls c. copies c ls) ls) (items_hidden-the_row-Filter-0 filters)

pub copies_any_is : (ls : LeafNames) (filters : Vec Filter Global) → copies (Any filters) ls ≡ flat_map (λ c. copies c ls) filters.items
copies_any_is ls filters =
    let row = filters_of (Any filters) in
    any_listed ls row.0 row.1 ∙ ap (flat_map (λ c. copies c ls)) (items_hidden-the_row-Filter-0 filters)

formulas_listed : (n : _) (row : Row_of-Formula n) → leaf_names_of_all row ≡ leaf_names_listed (items-the_row-Formula n row)
formulas_listed n end_of-Formula = refl
formulas_listed n (more_of-Formula f rest) = ap (λ x. leaf_names f ++ x) (formulas_listed _ rest)

links_listed : (n : _) (row : Row_of-Link n) → leaf_names_of_links row ≡ leaf_names_linked (items-the_row-Link n row)
links_listed n end_of-Link = refl
links_listed n (more_of-Link tight next rest) = ap (λ x. leaf_names next ++ x) (links_listed _ rest)

abbrev row_of : Formula → (n : _) × Row_of-Formula n
row_of (Chain' _ row) = (_, row)
row_of (Either' _ row) = (_, row)
row_of _ = (_, end_of-Formula)

abbrev links_in : Formula → (n : _) × Row_of-Link n
links_in (Linked' _ _ _ row) = (_, row)
links_in _ = (_, end_of-Link)

pub chain_is : (parts : Vec Formula Global) → leaf_names (Chain parts) ≡ leaf_names_listed parts.items
chain_is parts =
    let row = row_of (Chain parts) in
    formulas_listed row.0 row.1 ∙ ap leaf_names_listed (items_hidden-the_row-Formula-0 parts)

pub choices_are : (choices : Vec Formula Global) → leaf_names (Either choices) ≡ leaf_names_listed choices.items
choices_are choices =
    let row = row_of (Either choices) in
    formulas_listed row.0 row.1 ∙ ap leaf_names_listed (items_hidden-the_row-Formula-0 choices)

pub links_are : (first : Box Formula Global) (links : Vec Link Global) → leaf_names (Linked first links) ≡ leaf_names first.value ++ leaf_names_linked links.items
links_are first links =
    let row = links_in (Linked first links) in
    ap (λ x. leaf_names first.value ++ x) (links_listed row.0 row.1 ∙ ap leaf_names_linked (items_hidden-the_row-Link-1 links))

-- the names of a tree's leaves
abbrev pub names_of : LeafTree Occurrence → LeafNames
names_of t = map (λ (o : Occurrence). o.names) (occurrences t)

joined : (a b : LeafTree Occurrence) → map (λ (o : Occurrence). o.names) (occurrences a ++ occurrences b) ≡ names_of a ++ names_of b
joined a b = map-append (λ (o : Occurrence). o.names) (occurrences a) (occurrences b)

-- a change of each leaf that changes its names so
at_leaves_names : (g : Occurrence → Occurrence) (h : List (List ℕ) → List (List ℕ)) → ((o : Occurrence) → (g o).names ≡ h o.names) → (t : LeafTree Occurrence) → names_of (at_leaves g t) ≡ map h (names_of t)
at_leaves_names g h same (leaf o) = ap (λ n. n ∷ []) (same o)
at_leaves_names g h same none = refl
at_leaves_names g h same (sequence u a b) = joined (at_leaves g a) (at_leaves g b) ∙ (ap₂ (λ x y. x ++ y) (at_leaves_names g h same a) (at_leaves_names g h same b) ∙ (sym (map-append h (names_of a) (names_of b)) ∙ ap (map h) (sym (joined a b))))
at_leaves_names g h same (either a b) = joined (at_leaves g a) (at_leaves g b) ∙ (ap₂ (λ x y. x ++ y) (at_leaves_names g h same a) (at_leaves_names g h same b) ∙ (sym (map-append h (names_of a) (names_of b)) ∙ ap (map h) (sym (joined a b))))
at_leaves_names g h same (plus u a) = at_leaves_names g h same a

map_same : (ls : LeafNames) → map (λ n. n) ls ≡ ls
map_same [] = refl
map_same (l ∷ ls) = ap (λ x. l ∷ x) (map_same ls)

mutual
  filtered_names : (c : Filter) (t : LeafTree Occurrence) → names_of (filtered c t) ≡ copies c (names_of t)
  filtered_names (On name pred) t = at_leaves_names (test_leaf name.text pred) (λ n. n) (λ o. refl) t ∙ map_same (names_of t)
  filtered_names (All' s filters) t = all_names filters t
  filtered_names (Any' s filters) t = any_names filters t

  all_names : {m : _} (row : Row_of-Filter m) (t : LeafTree Occurrence) → names_of (filtered_by_all row t) ≡ copies_of_all row (names_of t)
  all_names end_of-Filter t = refl
  all_names (more_of-Filter c rest) t = all_names rest (filtered c t) ∙ ap (copies_of_all rest) (filtered_names c t)

  any_names : {m : _} (row : Row_of-Filter m) (t : LeafTree Occurrence) → names_of (filtered_by_any row t) ≡ copies_of_any row (names_of t)
  any_names end_of-Filter t = refl
  any_names (more_of-Filter c rest) t = joined (filtered c t) (filtered_by_any rest t) ∙ ap₂ (λ x y. x ++ y) (filtered_names c t) (any_names rest t)

under_names : (cs : List Filter) (t : LeafTree Occurrence) → names_of (under_all cs t) ≡ fold (λ ls c. copies c ls) (names_of t) cs
under_names [] t = refl
under_names (c ∷ cs) t = under_names cs (filtered c t) ∙ ap (λ ls. fold (λ ls c. copies c ls) ls cs) (filtered_names c t)

more_names : (u : Bool) (t : LeafTree Occurrence) → names_of (one_or_more u t) ≡ names_of t
more_names u (leaf o) = refl
more_names u none = refl
more_names u (sequence v a b) = refl
more_names u (either a b) = refl
more_names u (plus v a) = refl

postfix_names : (p : Postfix) (t : LeafTree Occurrence) → names_of (postfixed p t) ≡ changed_leaves (names_of t) p
postfix_names Plus t = more_names false t ∙ sym (map_same (names_of t))
postfix_names NextPlus t = more_names true t ∙ sym (map_same (names_of t))
postfix_names (Named name) t = at_leaves_names (rename_leaf (change (Named name))) (change (Named name)) (λ o. refl) t
postfix_names (Keep names) t = at_leaves_names (rename_leaf (change (Keep names))) (change (Keep names)) (λ o. refl) t

postfixes_names : (ps : List Postfix) (t : LeafTree Occurrence) → names_of (postfixed_by_all ps t) ≡ fold changed_leaves (names_of t) ps
postfixes_names [] t = refl
postfixes_names (p ∷ ps) t = postfixes_names ps (postfixed p t) ∙ ap (λ ls. fold changed_leaves ls ps) (postfix_names p t)

-- The names of the leaves of a formula's tree.
mutual
  pub expand_names : (f : Formula) → names_of (expand f) ≡ leaf_names f
  expand_names (Of name) = refl
  expand_names (Chain' s parts) = chain_names parts
  expand_names (Linked' p first s links) = links_names (expand first) links ∙ ap (λ x. x ++ leaf_names_of_links links) (expand_names first)
  expand_names (Either' s choices) = choices_names choices
  expand_names (Post' p base postfixes) = postfixes_names postfixes.items (expand base) ∙ ap (λ ls. fold changed_leaves ls postfixes.items) (expand_names base)
  expand_names (Under' p base filters) = under_names filters.items (expand base) ∙ ap (λ ls. fold (λ ls c. copies c ls) ls filters.items) (expand_names base)

  chain_names : {m : _} (row : Row_of-Formula m) → names_of (expand_chain row) ≡ leaf_names_of_all row
  chain_names end_of-Formula = refl
  chain_names (more_of-Formula f rest) = on_names (expand f) rest ∙ ap (λ x. x ++ leaf_names_of_all rest) (expand_names f)

  on_names : {m : _} (t : LeafTree Occurrence) (row : Row_of-Formula m) → names_of (expand_on t row) ≡ names_of t ++ leaf_names_of_all row
  on_names t end_of-Formula = sym (append-nil (names_of t))
  on_names t (more_of-Formula f rest) = on_names (sequence false t (expand f)) rest ∙ (ap (λ x. x ++ leaf_names_of_all rest) (joined t (expand f) ∙ ap (λ x. names_of t ++ x) (expand_names f)) ∙ append_assoc (names_of t) (leaf_names f) (leaf_names_of_all rest))

  links_names : {m : _} (t : LeafTree Occurrence) (row : Row_of-Link m) → names_of (expand_links t row) ≡ names_of t ++ leaf_names_of_links row
  links_names t end_of-Link = sym (append-nil (names_of t))
  links_names t (more_of-Link tight next rest) = links_names (sequence tight t (expand next)) rest ∙ (ap (λ x. x ++ leaf_names_of_links rest) (joined t (expand next) ∙ ap (λ x. names_of t ++ x) (expand_names next)) ∙ append_assoc (names_of t) (leaf_names next) (leaf_names_of_links rest))

  choices_names : {m : _} (row : Row_of-Formula m) → names_of (expand_choices row) ≡ leaf_names_of_all row
  choices_names end_of-Formula = refl
  choices_names (more_of-Formula f rest) = joined (expand f) (expand_choices rest) ∙ ap₂ (λ x y. x ++ y) (expand_names f) (choices_names rest)
