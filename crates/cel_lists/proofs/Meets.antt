-- Whether a valuation meets a filter is what the test says.
use Rattle.std.proofs.Common.{◌≡◌, refl, subst, ℕ, inl, inr, Bool, true, false, not, ◌||◌, List, [], ◌∷◌, Option, Some, None, IsTrue}
use Rattle.std.specs.Prelude.{slice_get}
use Rattle.std.specs.List.{list_all}
use Rattle.std.specs.Option.{option_map_or}
use Rattle.stream_schema.specs.Types.{Declared}
use Rattle.stream_schema.specs.declared.Event.{Event}
use Rattle.cel_terms.specs.declared.Pred.{Pred}
use Rattle.cel_terms.specs.declared.Filter.{Filter, On, All', Any', Row_of-Filter, end_of-Filter, more_of-Filter}
use Rattle.cel_terms.specs.Predicate.{holds}
use Rattle.cel_terms.specs.Meaning.{Valuation, lists_name, AllHold, Meets, MeetsAll, MeetsAny}
use Rattle.cel_terms.specs.MeaningLaws.{stream_of}
use Rattle.cel_lists.specs.Lists.{passes, meets, meets_all, meets_any}
use Rattle.cel_lists.proofs.Members.{or_here, or_later, or_cases}
use Rattle.cel_lists.proofs.Sequences.{and_from, and_to}

passes_from : (test : Event → Bool) (named : Bool) (found : Option Event) → (not named || option_map_or test found true) ≡ true → named ≡ true → (event : Event) → found ≡ Some event → IsTrue (test event)
passes_from test false found e n event is = absurd cc
passes_from test true None e n event is = absurd cc
passes_from test true (Some x) e n event is = let same : x ≡ event = cc in subst (λ (y : Event). test y ≡ true) same e

passes_to : (test : Event → Bool) (named : Bool) (found : Option Event) → (named ≡ true → (event : Event) → found ≡ Some event → IsTrue (test event)) → (not named || option_map_or test found true) ≡ true
passes_to test false found h = refl
passes_to test true None h = refl
passes_to test true (Some x) h = h refl x refl

all_from : (schema : Declared) (events : List Event) (positions : List ℕ) (name : List ℕ) (pred : Pred) (v : Valuation) → list_all (passes schema events name pred) v ≡ true → AllHold (stream_of schema events positions) name (holds schema pred) v
all_from schema events positions name pred [] e = tt
all_from schema events positions name pred (b ∷ v) e =
    let s = and_from (passes schema events name pred b) (list_all (passes schema events name pred) v) e in
    (passes_from (holds schema pred) (lists_name b.names name) (slice_get events b.position) s.0, all_from schema events positions name pred v s.1)

all_to : (schema : Declared) (events : List Event) (positions : List ℕ) (name : List ℕ) (pred : Pred) (v : Valuation) → AllHold (stream_of schema events positions) name (holds schema pred) v → list_all (passes schema events name pred) v ≡ true
all_to schema events positions name pred [] h = refl
all_to schema events positions name pred (b ∷ v) h =
    and_to (passes schema events name pred b) (list_all (passes schema events name pred) v)
    (passes_to (holds schema pred) (lists_name b.names name) (slice_get events b.position) h.0)
    (all_to schema events positions name pred v h.1)

mutual
  pub meets_from : (schema : Declared) (events : List Event) (positions : List ℕ) (c : Filter) (v : Valuation) → meets schema events c v ≡ true → Meets (stream_of schema events positions) c v
  meets_from schema events positions (On name pred) v e = all_from schema events positions name.text pred v e
  meets_from schema events positions (All' s filters) v e = meets_all_from schema events positions filters v e
  meets_from schema events positions (Any' s filters) v e = meets_any_from schema events positions filters v e

  meets_all_from : (schema : Declared) (events : List Event) (positions : List ℕ) {m : _} → (row : Row_of-Filter m) (v : Valuation) → meets_all schema events row v ≡ true → MeetsAll (stream_of schema events positions) row v
  meets_all_from schema events positions end_of-Filter v e = tt
  meets_all_from schema events positions (more_of-Filter c rest) v e =
      let s = and_from (meets schema events c v) (meets_all schema events rest v) e in
      (meets_from schema events positions c v s.0, meets_all_from schema events positions rest v s.1)

  meets_any_from : (schema : Declared) (events : List Event) (positions : List ℕ) {m : _} → (row : Row_of-Filter m) (v : Valuation) → meets_any schema events row v ≡ true → MeetsAny (stream_of schema events positions) row v
  meets_any_from schema events positions end_of-Filter v e = absurd cc
  meets_any_from schema events positions (more_of-Filter c rest) v e =
      elim (or_cases (meets schema events c v) (meets_any schema events rest v) e) [
        | inl h ↦ inl (meets_from schema events positions c v h)
        | inr h ↦ inr (meets_any_from schema events positions rest v h)
      ]

mutual
  pub meets_to : (schema : Declared) (events : List Event) (positions : List ℕ) (c : Filter) (v : Valuation) → Meets (stream_of schema events positions) c v → meets schema events c v ≡ true
  meets_to schema events positions (On name pred) v h = all_to schema events positions name.text pred v h
  meets_to schema events positions (All' s filters) v h = meets_all_to schema events positions filters v h
  meets_to schema events positions (Any' s filters) v h = meets_any_to schema events positions filters v h

  meets_all_to : (schema : Declared) (events : List Event) (positions : List ℕ) {m : _} → (row : Row_of-Filter m) (v : Valuation) → MeetsAll (stream_of schema events positions) row v → meets_all schema events row v ≡ true
  meets_all_to schema events positions end_of-Filter v h = refl
  meets_all_to schema events positions (more_of-Filter c rest) v h =
      and_to (meets schema events c v) (meets_all schema events rest v) (meets_to schema events positions c v h.0) (meets_all_to schema events positions rest v h.1)

  meets_any_to : (schema : Declared) (events : List Event) (positions : List ℕ) {m : _} → (row : Row_of-Filter m) (v : Valuation) → MeetsAny (stream_of schema events positions) row v → meets_any schema events row v ≡ true
  meets_any_to schema events positions end_of-Filter v h = absurd h
  meets_any_to schema events positions (more_of-Filter c rest) v (inl h) = or_here (meets schema events c v) (meets_any schema events rest v) (meets_to schema events positions c v h)
  meets_any_to schema events positions (more_of-Filter c rest) v (inr h) = or_later (meets schema events c v) (meets_any schema events rest v) (meets_any_to schema events positions rest v h)
