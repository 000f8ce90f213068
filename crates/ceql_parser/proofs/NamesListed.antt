-- The names of a formula, one part of it after the other.
use Rattle.std.proofs.Common.{◌≡◌, refl, sym, ap, ◌∙◌, ℕ, Bool, true, false, ◌||◌, List, [], ◌∷◌, ◌++◌}
use Rattle.std.specs.Prelude.{Vec, Box, bytes_eq, flat_map}
use Rattle.std.specs.declared.alloc.Global.{Global}
use Rattle.cel_terms.specs.declared.Link.{Link}
use Rattle.cel_terms.specs.declared.Formula.{Formula, Chain, Linked, Either, Row_of-Formula, end_of-Formula, more_of-Formula, items-the_row-Formula, items_hidden-the_row-Formula-0, Row_of-Link, end_of-Link, more_of-Link, items-the_row-Link, items_hidden-the_row-Link-1}
use Rattle.cel_terms.specs.Meaning.{lists_name}
use Rattle.cel_terms.specs.Checked.{names_of, names_of_all, names_of_links}
use Rattle.ceql_parser.specs.NameSets.{names_of_link}
use Rattle.ceql_parser.proofs.TermRows.{row_of, links_in}

or_or : (a b c : Bool) → ((a || b) || c) ≡ (a || (b || c))
or_or true b c = refl
or_or false b c = refl

pub lists_append : (xs ys : List (List ℕ)) (name : List ℕ) → lists_name (xs ++ ys) name ≡ (lists_name xs name || lists_name ys name)
lists_append [] ys name = refl
lists_append (x ∷ xs) ys name = ap (λ b. bytes_eq x name || b) (lists_append xs ys name) ∙ sym (or_or (bytes_eq x name) (lists_name xs name) (lists_name ys name))

all_listed : (n : _) (row : Row_of-Formula n) → names_of_all row ≡ flat_map names_of (items-the_row-Formula n row)
all_listed n end_of-Formula = refl
all_listed n (more_of-Formula f rest) = ap (λ ns. names_of f ++ ns) (all_listed _ rest)

links_listed : (n : _) (row : Row_of-Link n) → names_of_links row ≡ flat_map names_of_link (items-the_row-Link n row)
links_listed n end_of-Link = refl
links_listed n (more_of-Link tight next rest) = ap (λ ns. names_of next ++ ns) (links_listed _ rest)

pub chain_names : (parts : Vec Formula Global) → names_of (Chain parts) ≡ flat_map names_of parts.items
chain_names parts =
    let row = row_of (Chain parts) in
    all_listed row.0 row.1 ∙ ap (flat_map names_of) (items_hidden-the_row-Formula-0 parts)

pub choice_names : (choices : Vec Formula Global) → names_of (Either choices) ≡ flat_map names_of choices.items
choice_names choices =
    let row = row_of (Either choices) in
    all_listed row.0 row.1 ∙ ap (flat_map names_of) (items_hidden-the_row-Formula-0 choices)

pub linked_names : (first : Box Formula Global) (links : Vec Link Global) → names_of (Linked first links) ≡ names_of first.value ++ flat_map names_of_link links.items
linked_names first links =
    let row = links_in (Linked first links) in
    ap (λ ns. names_of first.value ++ ns) (links_listed row.0 row.1 ∙ ap (flat_map names_of_link) (items_hidden-the_row-Link-1 links))
