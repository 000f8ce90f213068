-- What a walk over numbers of types and over names finds.
use Rattle.std.proofs.Common.{◌≡◌, refl, sym, ap, ◌∙◌, ℕ, zero, suc, ◌+◌, ◌++◌, ◌<◌, length, take, get_or, arith, append_assoc, add-one, cond, Bool, true, false, ◌&&◌, ◌||◌, List, [], ◌∷◌, Option, Some, None}
use Rattle.std.specs.Prelude.{bytes_eq, slice_get, option_map, option_and_then, is_some}
use Rattle.std.specs.List.{list_any, list_all, filter_map, cons_option, position_from}
use Rattle.std.specs.Option.{option_map_or}
use Rattle.stream_schema.specs.Types.{Declared, DeclaredType, DeclaredStream}
use Rattle.cel_terms.specs.declared.Name.{Name}
use Rattle.stream_schema.specs.Names.{type_number, stream_types}
use Rattle.cel_terms.specs.Answers.{types_of_stream, query_types}

any_step : {Y : Type 0} (passes : Y → Bool) (o : Option Y) (ys : List Y) → list_any passes (cons_option o ys) ≡ (option_map_or passes o false || list_any passes ys)
any_step passes None ys = refl
any_step passes (Some y) ys = refl

pub any_found : {X Y : Type 0} (find : X → Option Y) (passes : Y → Bool) (xs : List X) → list_any passes (filter_map find xs) ≡ list_any (λ x. option_map_or passes (find x) false) xs
any_found find passes [] = refl
any_found find passes (x ∷ xs) = any_step passes (find x) (filter_map find xs) ∙ ap (λ b. option_map_or passes (find x) false || b) (any_found find passes xs)

all_step : {Y : Type 0} (passes : Y → Bool) (o : Option Y) (ys : List Y) → list_all passes (cons_option o ys) ≡ (option_map_or passes o true && list_all passes ys)
all_step passes None ys = refl
all_step passes (Some y) ys = refl

pub all_found : {X Y : Type 0} (find : X → Option Y) (passes : Y → Bool) (xs : List X) → list_all passes (filter_map find xs) ≡ list_all (λ x. option_map_or passes (find x) true) xs
all_found find passes [] = refl
all_found find passes (x ∷ xs) = all_step passes (find x) (filter_map find xs) ∙ ap (λ b. option_map_or passes (find x) true && b) (all_found find passes xs)

position_found : {X : Type 0} (passes : X → Bool) (i : ℕ) (xs : List X) → is_some (position_from passes i xs) ≡ list_any passes xs
position_found passes i [] = refl
position_found passes i (x ∷ xs) = step (passes x) i (position_from passes (i + 1) xs) ∙ ap (λ b. passes x || b) (position_found passes (i + 1) xs)
  where
    step : (b : Bool) (i : ℕ) (o : Option ℕ) → is_some (cond b (Some i) o) ≡ (b || is_some o)
    step true i o = refl
    step false i o = refl

-- a type has the name where it has a number
pub type_found : (types : List DeclaredType) (name : List ℕ) → is_some (type_number types name) ≡ list_any (λ t. bytes_eq t.name name) types
type_found types name = position_found (λ t. bytes_eq t.name name) 0 types

-- a stream has the name where the look-up finds its types
pub stream_found : (streams : List DeclaredStream) (name : List ℕ) → is_some (stream_types streams name) ≡ list_any (λ s. bytes_eq s.name name) streams
stream_found [] name = refl
stream_found (s ∷ ss) name = step (bytes_eq s.name name) s.types (stream_types ss name) ∙ ap (λ b. bytes_eq s.name name || b) (stream_found ss name)
  where
    step : (b : Bool) (types : List ℕ) (o : Option (List ℕ)) → is_some (cond b (Some types) o) ≡ (b || is_some o)
    step true types o = refl
    step false types o = refl

append_none : (xs : List ℕ) → xs ++ [] ≡ xs
append_none [] = refl
append_none (x ∷ xs) = ap (λ ys. x ∷ ys) (append_none xs)

more_types : (schema : Declared) (names : List Name) (i : ℕ) (d : Name) → i < length names → query_types schema (take (suc i) names) ≡ query_types schema (take i names) ++ types_of_stream schema.streams (get_or names i d).text
more_types schema [] i d h = absurd (omega (arith, h))
more_types schema (n ∷ ns) zero d h = append_none (types_of_stream schema.streams n.text)
more_types schema (n ∷ ns) (suc i) d h =
    ap (λ ts. types_of_stream schema.streams n.text ++ ts) (more_types schema ns i d (omega arith))
    ∙ sym (append_assoc (types_of_stream schema.streams n.text) (query_types schema (take i ns)) (types_of_stream schema.streams (get_or ns i d).text))

-- one stream more
pub types_more : (schema : Declared) (names : List Name) (i : ℕ) (d : Name) → i < length names → query_types schema (take (i + 1) names) ≡ query_types schema (take i names) ++ types_of_stream schema.streams (get_or names i d).text
types_more schema names i d h = rw add-one (more_types schema names i d h)
