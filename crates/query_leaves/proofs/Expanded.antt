-- What a formula and a filter expand to, by the lists in them.
use Rattle.std.proofs.Common.{◌≡◌, refl, ap, ◌∙◌, false, List, [], ◌∷◌, map}
use Rattle.std.specs.Prelude.{Vec, Box, fold}
use Rattle.std.specs.declared.alloc.Global.{Global}
use Rattle.cel_terms.specs.declared.Link.{Link}
use Rattle.cel_terms.specs.declared.Postfix.{Postfix}
use Rattle.cel_terms.specs.declared.Formula.{Formula, Chain, Chain', Linked, Linked', Either, Either', Row_of-Formula, end_of-Formula, more_of-Formula, items-the_row-Formula, items_hidden-the_row-Formula-0, Row_of-Link, end_of-Link, more_of-Link, items-the_row-Link, items_hidden-the_row-Link-1}
use Rattle.cel_terms.specs.declared.Filter.{Filter, All, All', Any, Any', Row_of-Filter, end_of-Filter, more_of-Filter, items-the_row-Filter, items_hidden-the_row-Filter-0}
use Rattle.query_leaves.specs.LeafTree.{LeafTree, sequence, either, linked_to, chain_of, choice_of}
use Rattle.query_leaves.specs.Expand.{Occurrence, filtered, filtered_by_all, filtered_by_any, under_all, postfixed, postfixed_by_all, expand, expand_chain, expand_on, expand_links, expand_choices}
use Rattle.query_leaves.specs.Drafts.{part_of, link_of}

all_listed : (t : LeafTree Occurrence) (n : _) (row : Row_of-Filter n) → filtered_by_all row t ≡ fold (λ t c. filtered c t) t (items-the_row-Filter n row)
all_listed t n end_of-Filter = refl
all_listed t n (more_of-Filter c rest) = all_listed (filtered c t) _ rest

any_listed : (t : LeafTree Occurrence) (n : _) (row : Row_of-Filter n) → filtered_by_any row t ≡ choice_of (map (λ c. filtered c t) (items-the_row-Filter n row))
any_listed t n end_of-Filter = refl
any_listed t n (more_of-Filter c rest) = ap (λ x. either (filtered c t) x) (any_listed t _ rest)

abbrev filters_of : Filter → (n : _) × Row_of-Filter n
filters_of (All' _ row) = (_, row)
filters_of (Any' _ row) = (_, row)
filters_of _ = (_, end_of-Filter)

pub all_is : (t : LeafTree Occurrence) (filters : Vec Filter Global) → filtered (All filters) t ≡ fold (λ t c. filtered c t) t filters.items
all_is t filters =
    let row = filters_of (All filters) in
    all_listed t row.0 row.1 ∙ ap (fold (λ t c. filtered c t) t) (items_hidden-the_row-Filter-0 filters)

pub any_is : (t : LeafTree Occurrence) (filters : Vec Filter Global) → filtered (Any filters) t ≡ choice_of (map (λ c. filtered c t) filters.items)
any_is t filters =
    let row = filters_of (Any filters) in
    any_listed t row.0 row.1 ∙ ap (λ cs. choice_of (map (λ c. filtered c t) cs)) (items_hidden-the_row-Filter-0 filters)

pub under_is : (t : LeafTree Occurrence) (filters : List Filter) → under_all filters t ≡ fold (λ t c. filtered c t) t filters
under_is t [] = refl
under_is t (c ∷ cs) = under_is (filtered c t) cs

pub postfixed_is : (t : LeafTree Occurrence) (postfixes : List Postfix) → postfixed_by_all postfixes t ≡ fold (λ t p. postfixed p t) t postfixes
postfixed_is t [] = refl
postfixed_is t (p ∷ ps) = postfixed_is (postfixed p t) ps

on_listed : (t : LeafTree Occurrence) (n : _) (row : Row_of-Formula n) → expand_on t row ≡ linked_to t (map part_of (items-the_row-Formula n row))
on_listed t n end_of-Formula = refl
on_listed t n (more_of-Formula f rest) = on_listed (sequence false t (expand f)) _ rest

chain_listed : (n : _) (row : Row_of-Formula n) → expand_chain row ≡ chain_of (map part_of (items-the_row-Formula n row))
chain_listed n end_of-Formula = refl
chain_listed n (more_of-Formula f rest) = on_listed (expand f) _ rest

choices_listed : (n : _) (row : Row_of-Formula n) → expand_choices row ≡ choice_of (map expand (items-the_row-Formula n row))
choices_listed n end_of-Formula = refl
choices_listed n (more_of-Formula f rest) = ap (λ x. either (expand f) x) (choices_listed _ rest)

links_listed : (t : LeafTree Occurrence) (n : _) (row : Row_of-Link n) → expand_links t row ≡ linked_to t (map link_of (items-the_row-Link n row))
links_listed t n end_of-Link = refl
links_listed t n (more_of-Link tight next rest) = links_listed (sequence tight t (expand next)) _ rest

abbrev row_of : Formula → (n : _) × Row_of-Formula n
row_of (Chain' _ row) = (_, row)
row_of (Either' _ row) = (_, row)
row_of _ = (_, end_of-Formula)

abbrev links_in : Formula → (n : _) × Row_of-Link n
links_in (Linked' _ _ _ row) = (_, row)
links_in _ = (_, end_of-Link)

pub chain_is : (parts : Vec Formula Global) → expand (Chain parts) ≡ chain_of (map part_of parts.items)
chain_is parts =
    let row = row_of (Chain parts) in
    chain_listed row.0 row.1 ∙ ap (λ fs. chain_of (map part_of fs)) (items_hidden-the_row-Formula-0 parts)

pub choices_are : (choices : Vec Formula Global) → expand (Either choices) ≡ choice_of (map expand choices.items)
choices_are choices =
    let row = row_of (Either choices) in
    choices_listed row.0 row.1 ∙ ap (λ fs. choice_of (map expand fs)) (items_hidden-the_row-Formula-0 choices)

pub links_are : (first : Box Formula Global) (links : Vec Link Global) → expand (Linked first links) ≡ linked_to (expand first.value) (map link_of links.items)
links_are first links =
    let row = links_in (Linked first links) in
    links_listed (expand first.value) row.0 row.1 ∙ ap (λ ls. linked_to (expand first.value) (map link_of ls)) (items_hidden-the_row-Link-1 links)
