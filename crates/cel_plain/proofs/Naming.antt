-- Whether a list has a name, and what holds of each filter in a list.
use Rattle.std.proofs.Common.{◌≡◌, refl, ap, ◌∙◌, ℕ, ◌&&◌, ◌||◌, List, [], ◌∷◌, map}
use Rattle.std.specs.List.{list_all, list_any}
use Rattle.std.specs.Prelude.{Vec, bytes_eq}
use Rattle.std.specs.declared.alloc.Global.{Global}
use Rattle.stream_schema.specs.Types.{Declared}
use Rattle.stream_schema.specs.declared.Event.{Event}
use Rattle.cel_terms.specs.declared.Name.{Name}
use Rattle.cel_terms.specs.declared.Filter.{Filter, All, Any, All', Any', Row_of-Filter, end_of-Filter, more_of-Filter, items-the_row-Filter, items_hidden-the_row-Filter-0}
use Rattle.cel_terms.specs.Meaning.{Valuation, lists_name}
use Rattle.cel_lists.specs.Lists.{meets, meets_all, meets_any}

pub lists_is : (names : List (List ℕ)) (name : List ℕ) → lists_name names name ≡ list_any (λ n. bytes_eq n name) names
lists_is [] name = refl
lists_is (n ∷ ns) name = ap (λ b. bytes_eq n name || b) (lists_is ns name)

pub listed_is : (listed : List Name) (name : List ℕ) → lists_name (map (λ n. n.text) listed) name ≡ list_any (λ n. bytes_eq n.text name) listed
listed_is [] name = refl
listed_is (n ∷ ns) name = ap (λ b. bytes_eq n.text name || b) (listed_is ns name)

meets_all_listed : (schema : Declared) (events : List Event) (v : Valuation) (n : _) (row : Row_of-Filter n) → meets_all schema events row v ≡ list_all (λ c. meets schema events c v) (items-the_row-Filter n row)
meets_all_listed schema events v n end_of-Filter = refl
meets_all_listed schema events v n (more_of-Filter c rest) = ap (λ b. meets schema events c v && b) (meets_all_listed schema events v _ rest)

meets_any_listed : (schema : Declared) (events : List Event) (v : Valuation) (n : _) (row : Row_of-Filter n) → meets_any schema events row v ≡ list_any (λ c. meets schema events c v) (items-the_row-Filter n row)
meets_any_listed schema events v n end_of-Filter = refl
meets_any_listed schema events v n (more_of-Filter c rest) = ap (λ b. meets schema events c v || b) (meets_any_listed schema events v _ rest)

abbrev row_of : Filter → (n : _) × Row_of-Filter n
row_of (All' _ row) = (_, row)
row_of (Any' _ row) = (_, row)
row_of _ = (_, end_of-Filter)

pub meets_all_is : (schema : Declared) (events : List Event) (v : Valuation) (filters : Vec Filter Global) → meets schema events (All filters) v ≡ list_all (λ c. meets schema events c v) filters.items
meets_all_is schema events v filters =
    let row = row_of (All filters) in
    meets_all_listed schema events v row.0 row.1 ∙ ap (list_all (λ c. meets schema events c v)) (items_hidden-the_row-Filter-0 filters)

pub meets_any_is : (schema : Declared) (events : List Event) (v : Valuation) (filters : Vec Filter Global) → meets schema events (Any filters) v ≡ list_any (λ c. meets schema events c v) filters.items
meets_any_is schema events v filters =
    let row = row_of (Any filters) in
    meets_any_listed schema events v row.0 row.1 ∙ ap (list_any (λ c. meets schema events c v)) (items_hidden-the_row-Filter-0 filters)
