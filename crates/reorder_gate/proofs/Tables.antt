-- The table of the clock's places tells the clock of every event.
use Rattle.std.proofs.Common.{◌≡◌, ℕ, zero, suc, ◌+◌, ◌<◌, true, false, ◌&&◌, List, [], ◌∷◌, ◌++◌, map, take, length, refl, sym, ap, ◌∙◌, Option, None, slice_get, slice_index_or, arith, add-one}
use Rattle.std.specs.Prelude.{option_and_then}
use Rattle.std.specs.List.{list_all}
use Rattle.std.proofs.Math.Path.{fun_ext}
use Rattle.std.proofs.lemmas.Bool.{and_right, and_from, and_parts}
use Rattle.stream_schema.specs.Types.{Declared, DeclaredType}
use Rattle.stream_schema.specs.Names.{attr_index, attr_among}
use Rattle.stream_schema.proofs.AttributePlaces.{value_there}
use Rattle.reorder_gate.specs.AttributeClock.{is_some_int, has_clock, whole, IsClock}

pub table_tells : (schema : Declared) (name : List ℕ) (places : List (Option ℕ)) → places ≡ map (λ (t : DeclaredType). attr_index name t.attrs) schema.types → IsClock schema name places
table_tells schema name places e = record {
  clock = fun_ext (λ event. ap whole (value_there schema name places event e));
}

-- the type of this number has the clock, or not
pub fails_at : (name : List ℕ) (types : List DeclaredType) (ty : ℕ) → ty < length types → is_some_int (option_and_then (λ t. attr_among t.attrs name) (slice_get types ty)) ≡ false → list_all (has_clock name) types ≡ false
fails_at name [] ty l e = absurd (omega arith)
fails_at name (t ∷ ts) zero l e = ap (λ b. b && list_all (has_clock name) ts) e
fails_at name (t ∷ ts) (suc ty) l e = and_right (has_clock name t) (list_all (has_clock name) ts) (fails_at name ts ty (omega arith) e)

one_more : (name : List ℕ) (types : List DeclaredType) (ty : ℕ) → ty < length types → list_all (has_clock name) (take ty types) ≡ true → is_some_int (option_and_then (λ t. attr_among t.attrs name) (slice_get types ty)) ≡ true → list_all (has_clock name) (take (suc ty) types) ≡ true
one_more name [] ty l all e = absurd (omega arith)
one_more name (t ∷ ts) zero l all e = and_from (has_clock name t) true e refl
one_more name (t ∷ ts) (suc ty) l all e =
    let parts = and_parts (has_clock name t) (list_all (has_clock name) (take ty ts)) all in
    and_from (has_clock name t) (list_all (has_clock name) (take (suc ty) ts)) parts.0 (one_more name ts ty (omega arith) parts.1 e)

pub fits_more : (name : List ℕ) (types : List DeclaredType) (ty : ℕ) → ty < length types → list_all (has_clock name) (take ty types) ≡ true → is_some_int (option_and_then (λ t. attr_among t.attrs name) (slice_get types ty)) ≡ true → list_all (has_clock name) (take (ty + 1) types) ≡ true
fits_more name types ty l all e = rw (add-one ty) (one_more name types ty l all e)
