-- The names of the leaves of a formula, from left to right, as lists.
-- Nobody needs to believe these; the public contracts speak of the meaning alone.
use Rattle.std.specs.Prelude.{ℕ, List, [], ◌∷◌, ◌++◌, map, fold}
use Rattle.std.specs.List.{flat_map}
use Rattle.cel_terms.specs.declared.Filter.{Filter, On, All', Any', Row_of-Filter, end_of-Filter, more_of-Filter}
use Rattle.cel_terms.specs.declared.Formula.{Formula, Of, Chain', Linked', Either', Post', Under', Row_of-Formula, end_of-Formula, more_of-Formula, Row_of-Link, end_of-Link, more_of-Link}
use Rattle.cel_terms.specs.declared.Postfix.{Postfix}
use Rattle.cel_terms.specs.declared.Link.{Link, out-Link}
use Rattle.cel_lists.specs.Lists.{change}

-- for each leaf its names
abbrev pub LeafNames : Type 0
LeafNames = List (List (List ℕ))

-- a postfix changes the names of each leaf
abbrev pub changed_leaves : LeafNames → Postfix → LeafNames
changed_leaves leaves p = map (change p) leaves

-- an alternative in a filter makes a copy of the leaves for each of its members
abbrev mutual
  pub copies : Filter → LeafNames → LeafNames
  copies (On name pred) leaves = leaves
  copies (All' s filters) leaves = copies_of_all filters leaves
  copies (Any' s filters) leaves = copies_of_any filters leaves

  pub copies_of_all : {m : _} → Row_of-Filter m → LeafNames → LeafNames
  copies_of_all end_of-Filter leaves = leaves
  copies_of_all (more_of-Filter c rest) leaves = copies_of_all rest (copies c leaves)

  pub copies_of_any : {m : _} → Row_of-Filter m → LeafNames → LeafNames
  copies_of_any end_of-Filter leaves = []
  copies_of_any (more_of-Filter c rest) leaves = copies c leaves ++ copies_of_any rest leaves

abbrev mutual
  pub leaf_names : Formula → LeafNames
  leaf_names (Of name) = (name.text ∷ []) ∷ []
  leaf_names (Chain' s parts) = leaf_names_of_all parts
  leaf_names (Linked' p first s links) = leaf_names first ++ leaf_names_of_links links
  leaf_names (Either' s choices) = leaf_names_of_all choices
  leaf_names (Post' p base postfixes) = fold changed_leaves (leaf_names base) postfixes.items
  leaf_names (Under' p base filters) = fold (λ leaves c. copies c leaves) (leaf_names base) filters.items

  pub leaf_names_of_all : {m : _} → Row_of-Formula m → LeafNames
  leaf_names_of_all end_of-Formula = []
  leaf_names_of_all (more_of-Formula f rest) = leaf_names f ++ leaf_names_of_all rest

  pub leaf_names_of_links : {m : _} → Row_of-Link m → LeafNames
  leaf_names_of_links end_of-Link = []
  leaf_names_of_links (more_of-Link tight next rest) = leaf_names next ++ leaf_names_of_links rest

-- those of each formula
abbrev pub leaf_names_listed : List Formula → LeafNames
leaf_names_listed = flat_map leaf_names

-- those of what each link goes on with
abbrev pub leaf_names_linked : List Link → LeafNames
leaf_names_linked = flat_map (λ l. leaf_names (out-Link l).next)
