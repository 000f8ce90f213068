-- What holds of each predicate in a list.
use Rattle.std.proofs.Common.{◌≡◌, refl, ap, ◌∙◌, ◌&&◌, ◌||◌}
use Rattle.std.specs.List.{list_all, list_any}
use Rattle.std.specs.Prelude.{Vec}
use Rattle.std.specs.declared.alloc.Global.{Global}
use Rattle.stream_schema.specs.Types.{Declared}
use Rattle.stream_schema.specs.declared.Event.{Event}
use Rattle.cel_terms.specs.declared.Pred.{Pred, All, Any, All', Any', Row_of-Pred, end_of-Pred, more_of-Pred, items-the_row-Pred, items_hidden-the_row-Pred-0}
use Rattle.cel_terms.specs.Predicate.{holds, all_hold, any_holds}

all_hold_listed : (schema : Declared) (event : Event) (n : _) (row : Row_of-Pred n) → all_hold schema row event ≡ list_all (λ p. holds schema p event) (items-the_row-Pred n row)
all_hold_listed schema event n end_of-Pred = refl
all_hold_listed schema event n (more_of-Pred p rest) = ap (λ b. holds schema p event && b) (all_hold_listed schema event _ rest)

any_holds_listed : (schema : Declared) (event : Event) (n : _) (row : Row_of-Pred n) → any_holds schema row event ≡ list_any (λ p. holds schema p event) (items-the_row-Pred n row)
any_holds_listed schema event n end_of-Pred = refl
any_holds_listed schema event n (more_of-Pred p rest) = ap (λ b. holds schema p event || b) (any_holds_listed schema event _ rest)

abbrev row_of : Pred → (n : _) × Row_of-Pred n
row_of (All' _ row) = (_, row)
row_of (Any' _ row) = (_, row)
row_of _ = (_, end_of-Pred)

pub holds_all : (schema : Declared) (event : Event) (preds : Vec Pred Global) → holds schema (All preds) event ≡ list_all (λ p. holds schema p event) preds.items
holds_all schema event preds =
    let row = row_of (All preds) in
    all_hold_listed schema event row.0 row.1 ∙ ap (list_all (λ p. holds schema p event)) (items_hidden-the_row-Pred-0 preds)

pub holds_any : (schema : Declared) (event : Event) (preds : Vec Pred Global) → holds schema (Any preds) event ≡ list_any (λ p. holds schema p event) preds.items
holds_any schema event preds =
    let row = row_of (Any preds) in
    any_holds_listed schema event row.0 row.1 ∙ ap (list_any (λ p. holds schema p event)) (items_hidden-the_row-Pred-0 preds)
