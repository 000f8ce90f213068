-- The first fault of the terms in a list of terms.
use Rattle.std.proofs.Common.{◌≡◌, refl, sym, ap, ◌∙◌, ℕ, List, None}
use Rattle.std.specs.Prelude.{Vec, Box}
use Rattle.std.specs.Option.{option_or}
use Rattle.std.specs.declared.alloc.Global.{Global}
use Rattle.stream_schema.specs.Types.{DeclaredType}
use Rattle.cel_terms.specs.declared.Pred.{Pred, All, Any, All', Any', Row_of-Pred, end_of-Pred, more_of-Pred, items-the_row-Pred, items_hidden-the_row-Pred-0}
use Rattle.cel_terms.specs.declared.Filter.{Filter, Row_of-Filter, end_of-Filter, more_of-Filter, items-the_row-Filter, items_hidden-the_row-Filter-0}
use Rattle.cel_terms.specs.declared.Filter as filter
use Rattle.cel_terms.specs.declared.Link.{Link}
use Rattle.cel_terms.specs.declared.Formula.{Formula, Chain, Linked, Either, Row_of-Formula, end_of-Formula, more_of-Formula, items-the_row-Formula, items_hidden-the_row-Formula-0, Row_of-Link, end_of-Link, more_of-Link, items-the_row-Link, items_hidden-the_row-Link-1}
use Rattle.ceql_parser.specs.FirstFaults.{first_in}
use Rattle.ceql_parser.specs.FormulaFaults.{pred_fault, preds_fault, filter_fault, filters_fault, formula_fault, formulas_fault, links_fault}
use Rattle.ceql_parser.specs.LinksAndCounts.{link_fault}
use Rattle.ceql_parser.proofs.TermRows.{row_of, links_in, filters_in}

preds_listed : (types : List DeclaredType) (n : _) (row : Row_of-Pred n) → preds_fault types row ≡ first_in (pred_fault types) (items-the_row-Pred n row)
preds_listed types n end_of-Pred = refl
preds_listed types n (more_of-Pred p rest) = ap (option_or (pred_fault types p)) (preds_listed types _ rest)

abbrev preds_in : Pred → (n : _) × Row_of-Pred n
preds_in (All' _ row) = (_, row)
preds_in (Any' _ row) = (_, row)
preds_in _ = (_, end_of-Pred)

pub all_preds : (types : List DeclaredType) (preds : Vec Pred Global) → pred_fault types (All preds) ≡ first_in (pred_fault types) preds.items
all_preds types preds =
    let row = preds_in (All preds) in
    preds_listed types row.0 row.1 ∙ ap (first_in (pred_fault types)) (items_hidden-the_row-Pred-0 preds)

pub any_preds : (types : List DeclaredType) (preds : Vec Pred Global) → pred_fault types (Any preds) ≡ first_in (pred_fault types) preds.items
any_preds types preds =
    let row = preds_in (Any preds) in
    preds_listed types row.0 row.1 ∙ ap (first_in (pred_fault types)) (items_hidden-the_row-Pred-0 preds)

filters_listed : (types : List DeclaredType) (names : List (List ℕ)) (n : _) (row : Row_of-Filter n) → filters_fault types names row ≡ first_in (filter_fault types names) (items-the_row-Filter n row)
filters_listed types names n end_of-Filter = refl
filters_listed types names n (more_of-Filter f rest) = ap (option_or (filter_fault types names f)) (filters_listed types names _ rest)

pub all_filters : (types : List DeclaredType) (names : List (List ℕ)) (filters : Vec Filter Global) → filter_fault types names (filter.All filters) ≡ first_in (filter_fault types names) filters.items
all_filters types names filters =
    let row = filters_in (filter.All filters) in
    filters_listed types names row.0 row.1 ∙ ap (first_in (filter_fault types names)) (items_hidden-the_row-Filter-0 filters)

pub any_filters : (types : List DeclaredType) (names : List (List ℕ)) (filters : Vec Filter Global) → filter_fault types names (filter.Any filters) ≡ first_in (filter_fault types names) filters.items
any_filters types names filters =
    let row = filters_in (filter.Any filters) in
    filters_listed types names row.0 row.1 ∙ ap (first_in (filter_fault types names)) (items_hidden-the_row-Filter-0 filters)

formulas_listed : (types : List DeclaredType) (n : _) (row : Row_of-Formula n) → formulas_fault types row ≡ first_in (formula_fault types) (items-the_row-Formula n row)
formulas_listed types n end_of-Formula = refl
formulas_listed types n (more_of-Formula f rest) = ap (option_or (formula_fault types f)) (formulas_listed types _ rest)

links_listed : (types : List DeclaredType) (n : _) (row : Row_of-Link n) → links_fault types row ≡ first_in (link_fault types) (items-the_row-Link n row)
links_listed types n end_of-Link = refl
links_listed types n (more_of-Link tight next rest) = ap (option_or (formula_fault types next)) (links_listed types _ rest)

pub chain_faults : (types : List DeclaredType) (parts : Vec Formula Global) → formula_fault types (Chain parts) ≡ first_in (formula_fault types) parts.items
chain_faults types parts =
    let row = row_of (Chain parts) in
    formulas_listed types row.0 row.1 ∙ ap (first_in (formula_fault types)) (items_hidden-the_row-Formula-0 parts)

pub choice_faults : (types : List DeclaredType) (choices : Vec Formula Global) → formula_fault types (Either choices) ≡ first_in (formula_fault types) choices.items
choice_faults types choices =
    let row = row_of (Either choices) in
    formulas_listed types row.0 row.1 ∙ ap (first_in (formula_fault types)) (items_hidden-the_row-Formula-0 choices)

pub linked_faults : (types : List DeclaredType) (first : Box Formula Global) (links : Vec Link Global) → formula_fault types (Linked first links) ≡ option_or (formula_fault types first.value) (first_in (link_fault types) links.items)
linked_faults types first links =
    let row = links_in (Linked first links) in
    ap (option_or (formula_fault types first.value)) (links_listed types row.0 row.1 ∙ ap (first_in (link_fault types)) (items_hidden-the_row-Link-1 links))
