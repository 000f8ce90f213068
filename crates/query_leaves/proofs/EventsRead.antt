-- Which events a leaf reads that is made of an occurrence.
use Rattle.std.proofs.Common.{◌≡◌, refl, sym, ap, ap₂, ◌∙◌, ℕ, Bool, true, false, ◌&&◌, eqb, List, [], ◌∷◌, Option, Some, None, bytes_eq, option_map}
use Rattle.std.proofs.lemmas.Slice.Eq.{bytes_eq-Decides}
use Rattle.std.proofs.lemmas.Bool.Decides.{Decides-eqb}
use Rattle.stream_schema.specs.Types.{Declared, DeclaredType, name_of_type}
use Rattle.stream_schema.specs.Names.{type_number}
use Rattle.stream_schema.specs.declared.Event.{Event}
use Rattle.cel_terms.specs.declared.Pred.{Pred}
use Rattle.query_leaves.specs.declared.Test.{Test}
use Rattle.cel_terms.specs.Meaning.{event_type_name}
use Rattle.cel_terms.specs.Answers.{is_bound}
use Rattle.query_leaves.specs.Expand.{Occurrence}
use Rattle.query_leaves.specs.Leaves.{is_typed, all_hold}
use Rattle.query_leaves.specs.Shapes.{each_holds}
use Rattle.query_leaves.specs.Tests.{AreTestsOf, IsMadeOf, HoldNever}
use Rattle.query_leaves.proofs.FirstPlace.{found}
use Rattle.query_leaves.proofs.Tested.{few_places}

both_true : (a b : Bool) → (a ≡ true → b ≡ true) → (b ≡ true → a ≡ true) → a ≡ b
both_true true true f g = refl
both_true true false f g = sym (f refl)
both_true false true f g = g refl
both_true false false f g = refl

and_same : (a b x y : Bool) → a ≡ b → (a ≡ true → x ≡ y) → (a && x) ≡ (b && y)
and_same true true x y e same = same refl
and_same true false x y e same = absurd cc
and_same false true x y e same = absurd cc
and_same false false x y e same = refl

-- the type of the event has the name
name_is : (o : Option (List ℕ)) (name : List ℕ) → is_typed o name ≡ true → o ≡ Some name
name_is None name e = absurd cc
name_is (Some n) name e = ap (λ x. Some x) ((bytes_eq-Decides n name).0 e)

is_name : (o : Option (List ℕ)) (name : List ℕ) → o ≡ Some name → is_typed o name ≡ true
is_name None name e = absurd cc
is_name (Some n) name e = let s : n ≡ name = cc in (bytes_eq-Decides n name).1 s

number_named : (types : List DeclaredType) (name : List ℕ) (ty : ℕ) → Some ty ≡ type_number types name → name_of_type types ty ≡ Some name
number_named types name ty e =
    let r = found (λ t. bytes_eq t.name name) types ty (sym e) in
    ap (option_map (λ (t : DeclaredType). t.name)) r.1 ∙ ap (λ n. Some n) ((bytes_eq-Decides r.0.name name).0 r.2)

typed_is : (schema : Declared) (name : List ℕ) (ty : ℕ) (event : Event) → Some ty ≡ type_number schema.types name → ((k : ℕ) → name_of_type schema.types k ≡ Some name → Some ty ≡ Some k) → eqb ty event.ty ≡ is_typed (event_type_name schema event) name
typed_is schema name ty event e only = both_true (eqb ty event.ty) (is_typed (event_type_name schema event) name)
    (λ same. is_name (event_type_name schema event) name (ap (name_of_type schema.types) (sym ((Decides-eqb ty event.ty).0 same)) ∙ number_named schema.types name ty e))
    (λ named. let k : Some ty ≡ Some event.ty = only event.ty (name_is (event_type_name schema event) name named) in (Decides-eqb ty event.ty).1 cc)

tests_same : (schema : Declared) (ty : ℕ) (event : Event) → event.ty ≡ ty → (ps : List Pred) (ts : List Test) → AreTestsOf schema ty ps ts → each_holds ts event ≡ all_hold schema ps event
tests_same schema ty event at [] [] are = refl
tests_same schema ty event at [] (t ∷ ts) are = absurd are
tests_same schema ty event at (p ∷ ps) [] are = absurd are
tests_same schema ty event at (p ∷ ps) (t ∷ ts) are = ap₂ (λ a b. a && b) (are.0.holds event at) (tests_same schema ty event at ps ts are.1)

pub leaf_made : (schema : Declared) (o : Occurrence) (ty : ℕ) (tests : List Test) (marked : Bool) → marked ≡ is_bound o.names → Some ty ≡ type_number schema.types o.type → ((k : ℕ) → name_of_type schema.types k ≡ Some o.type → Some ty ≡ Some k) → AreTestsOf schema ty o.tests tests → IsMadeOf schema o (record { ty = ty; tests = tests; marked = marked })
leaf_made schema o ty tests marked m e only are = record {
  leaf = record {
    marked = m;
    reads = λ event.
        and_same (eqb ty event.ty) (is_typed (event_type_name schema event) o.type) (each_holds tests event) (all_hold schema o.tests event)
        (typed_is schema o.type ty event e only)
        (λ same. tests_same schema ty event (sym ((Decides-eqb ty event.ty).0 same)) o.tests tests are);
  };
  places = few_places schema ty o.tests tests are;
}

never_typed : (b : Bool) → (b ≡ true → ⊥) → b ≡ false
never_typed true h = absurd (h refl)
never_typed false h = refl

and_false : (a b : Bool) → b ≡ false → (a && b) ≡ false
and_false true b e = e
and_false false b e = refl

-- the leaf of an occurrence whose type is not declared
pub nothing_made : (schema : Declared) (o : Occurrence) (ty : ℕ) (tests : List Test) (marked : Bool) → marked ≡ is_bound o.names → HoldNever tests → ((k : ℕ) → name_of_type schema.types k ≡ Some o.type → None ≡ Some k) → IsMadeOf schema o (record { ty = ty; tests = tests; marked = marked })
nothing_made schema o ty tests marked m never only = record {
  leaf = record {
    marked = m;
    reads = λ event.
        let untyped = never_typed (is_typed (event_type_name schema event) o.type) (λ named. let k = only event.ty (name_is (event_type_name schema event) o.type named) in cc) in
        and_false (eqb ty event.ty) (each_holds tests event) (never.never event) ∙ sym (ap (λ b. b && all_hold schema o.tests event) untyped);
  };
  places = λ h. never.places;
}
