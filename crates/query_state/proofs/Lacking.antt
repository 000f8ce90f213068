-- An event whose key is not there changes no list, where it begins no match.
use Rattle.std.proofs.Common.{◌≡◌, ◌∙◌, refl, sym, ap, ℕ, inr, Bool, true, false, ◌&&◌, List, [], ◌∷◌, Contains, Option, Some, None, slice_get, slice_index_or}
use Rattle.std.specs.Prelude.{option_map, option_and_then}
use Rattle.std.proofs.lemmas.Option.{slice_get_within, get_or_from_slice_get}
use Rattle.cer_base.specs.Bits.{has}
use Rattle.stream_schema.specs.declared.Event.{Event}
use Rattle.stream_schema.specs.declared.Value.{Value}
use Rattle.stream_schema.specs.Equality.{same_value, Decides-value}
use Rattle.partition_table.specs.Keys.{is_at, are_at}
use Rattle.query_state.specs.KeyPlaces.{values_there, key_there}
use Rattle.query_state.specs.Matches.{OpenMatches, Stays}

-- the values at the places are those of the key, where they make it up
key_at : (places : List ℕ) (values key : List Value) → values_there places values ≡ Some key → are_at key places values ≡ true
key_at [] values [] e = refl
key_at [] values (k ∷ ks) e = absurd cc
key_at (p ∷ ps) values key e = go (λ vs more. key_at ps values vs more) (slice_get values p) refl (values_there ps values) refl
  where
    joined : Option Value → Option (List Value) → Option (List Value)
    joined o rest = option_and_then (λ v. option_map (λ vs. v ∷ vs) rest) o

    shown : (v : Value) (vs ks : List Value) → v ∷ vs ≡ ks → slice_get values p ≡ Some v → are_at vs ps values ≡ true → are_at ks (p ∷ ps) values ≡ true
    shown v vs [] e at later = absurd cc
    shown v vs (k ∷ ks) e at later =
        let one : k ≡ v = cc in
        let more : ks ≡ vs = cc in
        let here : is_at k (slice_get values p) ≡ true = ap (is_at k) at ∙ (Decides-value k v).1 one in
        let rest : are_at ks ps values ≡ true = ap (λ z. are_at z ps values) more ∙ later in
        ap (λ b. b && are_at ks ps values) here ∙ rest

    go : ((vs : List Value) → values_there ps values ≡ Some vs → are_at vs ps values ≡ true) → (o : Option Value) → slice_get values p ≡ o → (r : Option (List Value)) → values_there ps values ≡ r → are_at key (p ∷ ps) values ≡ true
    go later None at r more = absurd (let none : joined None (values_there ps values) ≡ Some key = ap (λ z. joined z (values_there ps values)) (sym at) ∙ e in cc)
    go later (Some v) at None more = absurd (let none : joined (Some v) None ≡ Some key = ap (joined (Some v)) (sym more) ∙ (ap (λ z. joined z (values_there ps values)) (sym at) ∙ e) in cc)
    go later (Some v) at (Some vs) more =
        let some : joined (Some v) (Some vs) ≡ Some key = ap (joined (Some v)) (sym more) ∙ (ap (λ z. joined z (values_there ps values)) (sym at) ∙ e) in
        let same : v ∷ vs ≡ key = cc in
        shown v vs key same at (later vs more)

pub lacking_stays : (h : OpenMatches) (table : List (Option (List ℕ))) (event : Event) (first bits : List Bool) (skip_insensitive : Bool) (places : List ℕ) → slice_index_or table event.ty None ≡ Some places → ((k : ℕ) → has first k && has bits k ≡ false) → ((key : List Value) → are_at key places event.values ≡ true → Contains h.keys key → ⊥) → Stays h (key_there table event) first bits skip_insensitive
lacking_stays h table event first bits skip_insensitive places here begins none = inr (inr (inr (inr (record {
  begins = begins;
  empty = λ key own distinct number rows numbered at. absurd (none key (key_at places event.values key (sym (ap (option_and_then (λ ps. values_there ps event.values)) here) ∙ own)) (number, slice_get_within h.keys number key numbered, get_or_from_slice_get h.keys number key key numbered));
}))))
