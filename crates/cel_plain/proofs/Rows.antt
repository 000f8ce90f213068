-- What a formula computes of the formulas in it, as lists.
use Rattle.std.proofs.Common.{◌≡◌, refl, ap, ◌∙◌, ℕ, false, List, ◌++◌}
use Rattle.std.specs.Prelude.{Vec, Box, fold}
use Rattle.std.specs.declared.alloc.Global.{Global}
use Rattle.stream_schema.specs.Types.{Declared}
use Rattle.stream_schema.specs.declared.Event.{Event}
use Rattle.cel_terms.specs.declared.Link.{Link}
use Rattle.cel_terms.specs.declared.Formula.{Formula, Chain, Chain', Linked, Linked', Either, Either', Row_of-Formula, end_of-Formula, more_of-Formula, items-the_row-Formula, items_hidden-the_row-Formula-0, Row_of-Link, end_of-Link, more_of-Link, items-the_row-Link, items_hidden-the_row-Link-1}
use Rattle.cel_lists.specs.declared.Match.{Match}
use Rattle.cel_lists.specs.Lists.{in_sequence, matches_of, matches_of_first, matches_of_chain, matches_of_links, matches_of_choices, listed_chain, listed_links, listed_choices}

chain_listed : (schema : Declared) (events : List Event) (positions : List ℕ) (before : List Match) (n : _) (row : Row_of-Formula n) → matches_of_chain schema events positions before row ≡ fold (λ b g. in_sequence positions false b (matches_of schema events positions g)) before (items-the_row-Formula n row)
chain_listed schema events positions before n end_of-Formula = refl
chain_listed schema events positions before n (more_of-Formula f rest) = chain_listed schema events positions (in_sequence positions false before (matches_of schema events positions f)) _ rest

first_listed : (schema : Declared) (events : List Event) (positions : List ℕ) (n : _) (row : Row_of-Formula n) → matches_of_first schema events positions row ≡ listed_chain schema events positions (items-the_row-Formula n row)
first_listed schema events positions n end_of-Formula = refl
first_listed schema events positions n (more_of-Formula f rest) = chain_listed schema events positions (matches_of schema events positions f) _ rest

choices_listed : (schema : Declared) (events : List Event) (positions : List ℕ) (n : _) (row : Row_of-Formula n) → matches_of_choices schema events positions row ≡ listed_choices schema events positions (items-the_row-Formula n row)
choices_listed schema events positions n end_of-Formula = refl
choices_listed schema events positions n (more_of-Formula f rest) = ap (λ ms. matches_of schema events positions f ++ ms) (choices_listed schema events positions _ rest)

links_listed : (schema : Declared) (events : List Event) (positions : List ℕ) (before : List Match) (n : _) (row : Row_of-Link n) → matches_of_links schema events positions before row ≡ listed_links schema events positions before (items-the_row-Link n row)
links_listed schema events positions before n end_of-Link = refl
links_listed schema events positions before n (more_of-Link tight next rest) = links_listed schema events positions (in_sequence positions tight before (matches_of schema events positions next)) _ rest

abbrev row_of : Formula → (n : _) × Row_of-Formula n
row_of (Chain' _ row) = (_, row)
row_of (Either' _ row) = (_, row)
row_of _ = (_, end_of-Formula)

abbrev links_in : Formula → (n : _) × Row_of-Link n
links_in (Linked' _ _ _ row) = (_, row)
links_in _ = (_, end_of-Link)

pub chain_is : (schema : Declared) (events : List Event) (positions : List ℕ) (parts : Vec Formula Global) → matches_of schema events positions (Chain parts) ≡ listed_chain schema events positions parts.items
chain_is schema events positions parts =
    let row = row_of (Chain parts) in
    first_listed schema events positions row.0 row.1 ∙ ap (listed_chain schema events positions) (items_hidden-the_row-Formula-0 parts)

pub choices_are : (schema : Declared) (events : List Event) (positions : List ℕ) (choices : Vec Formula Global) → matches_of schema events positions (Either choices) ≡ listed_choices schema events positions choices.items
choices_are schema events positions choices =
    let row = row_of (Either choices) in
    choices_listed schema events positions row.0 row.1 ∙ ap (listed_choices schema events positions) (items_hidden-the_row-Formula-0 choices)

pub links_are : (schema : Declared) (events : List Event) (positions : List ℕ) (first : Box Formula Global) (links : Vec Link Global) → matches_of schema events positions (Linked first links) ≡ listed_links schema events positions (matches_of schema events positions first.value) links.items
links_are schema events positions first links =
    let row = links_in (Linked first links) in
    links_listed schema events positions (matches_of schema events positions first.value) row.0 row.1 ∙ ap (listed_links schema events positions (matches_of schema events positions first.value)) (items_hidden-the_row-Link-1 links)
