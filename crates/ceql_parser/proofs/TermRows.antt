-- The terms in a list of a formula or a filter, as the row that the list is kept in.
use Rattle.cel_terms.specs.declared.Formula.{Formula, Chain', Linked', Either', Row_of-Formula, end_of-Formula, Row_of-Link, end_of-Link}
use Rattle.cel_terms.specs.declared.Filter.{Filter, Row_of-Filter, end_of-Filter}
use Rattle.cel_terms.specs.declared.Filter as filter

abbrev pub row_of : Formula → (n : _) × Row_of-Formula n
row_of (Chain' _ row) = (_, row)
row_of (Either' _ row) = (_, row)
row_of _ = (_, end_of-Formula)

abbrev pub links_in : Formula → (n : _) × Row_of-Link n
links_in (Linked' _ _ _ row) = (_, row)
links_in _ = (_, end_of-Link)

abbrev pub filters_in : Filter → (n : _) × Row_of-Filter n
filters_in (filter.All' _ row) = (_, row)
filters_in (filter.Any' _ row) = (_, row)
filters_in _ = (_, end_of-Filter)
