-- What the test of a predicate says.
use Rattle.std.proofs.Common.{◌≡◌, refl, sym, ap, ap₂, subst, ◌∙◌, ℕ, ◌&&◌, ◌||◌, List, [], ◌∷◌, Option, Some, None, bytes_eq, slice_get, option_map, option_and_then}
use Rattle.std.specs.List.{list_all, list_any, AllByRecursion}
use Rattle.std.specs.Prelude.{Vec}
use Rattle.std.specs.declared.alloc.Global.{Global}
use Rattle.stream_schema.specs.Types.{Declared, DeclaredType}
use Rattle.stream_schema.specs.Names.{attr_index, attr_at, attr_of}
use Rattle.stream_schema.specs.declared.Attr.{Attr}
use Rattle.stream_schema.specs.declared.AttrAt.{AttrAt}
use Rattle.stream_schema.specs.declared.Event.{Event}
use Rattle.stream_schema.specs.declared.Op.{Op}
use Rattle.stream_schema.specs.declared.Value.{Value}
use Rattle.cel_terms.specs.declared.Name.{Name}
use Rattle.cel_terms.specs.declared.Pred.{Pred, Cmp, All, Any, All', Any', Row_of-Pred, end_of-Pred, more_of-Pred, items-the_row-Pred, items_hidden-the_row-Pred-0}
use Rattle.query_leaves.specs.declared.Test.{Test, Row_of-Test, end_of-Test, more_of-Test, items-the_row-Test, items_hidden-the_row-Test-0}
use Rattle.query_leaves.specs.declared.Test as test
use Rattle.query_leaves.proofs.FirstPlace.{found}
use Rattle.cel_terms.specs.Predicate.{attr_value, some_meets, holds, all_hold, any_holds}
use Rattle.query_leaves.specs.Shapes.{test_holds, all_tests_hold, any_test_holds}
use Rattle.query_leaves.specs.Lawful.{TestHasFewPlaces, TestsHaveFewPlaces}
use Rattle.query_leaves.specs.Tests.{PredHasFewPlaces, PredsHaveFewPlaces, IsTestOf, AreTestsOf}

abbrev at : ℕ → Attr → AttrAt
at i a = record { index = i; kind = a.kind }

-- the place of the attribute in the type
abbrev place_in : List ℕ → DeclaredType → Option AttrAt
place_in name t = option_and_then (λ i. option_map (λ a. record { index = i; kind = a.kind }) (slice_get t.attrs i)) (attr_index name t.attrs)

abbrev place_of : DeclaredType → Option ℕ → Option AttrAt
place_of t = option_and_then (λ i. option_map (λ a. record { index = i; kind = a.kind }) (slice_get t.attrs i))

-- where the type has no such attribute, the event has no value of it
no_value : (type : Option DeclaredType) (name : List ℕ) (values : List Value) → None ≡ option_and_then (place_in name) type → option_and_then (λ t. option_and_then (λ i. slice_get values i) (attr_index name t.attrs)) type ≡ None
no_value None name values e = refl
no_value (Some t) name values e = step (attr_index name t.attrs) refl e
  where
    step : (o : Option ℕ) → attr_index name t.attrs ≡ o → None ≡ place_of t o → option_and_then (λ i. slice_get values i) o ≡ None
    step None f e = refl
    step (Some k) f e =
        let r = found (λ a. bytes_eq a.name name) t.attrs k f in
        let h : None ≡ option_map (λ (a : Attr). at k a) (Some r.0) = e ∙ ap (option_map (at k)) r.1 in
        absurd cc

lacks : (schema : Declared) (ty : ℕ) (name : List ℕ) (event : Event) → None ≡ attr_at schema ty name → event.ty ≡ ty → attr_value schema event name ≡ None
lacks schema ty name event e at = no_value (slice_get schema.types event.ty) name event.values (e ∙ ap (λ n. attr_at schema n name) (sym at))

-- where it has, the event has the value that stands there
abbrev index_in : Option AttrAt → ℕ
index_in None = 0
index_in (Some a) = a.index

has_value : (type : Option DeclaredType) (name : List ℕ) (values : List Value) (a : AttrAt) → Some a ≡ option_and_then (place_in name) type → option_and_then (λ t. option_and_then (λ i. slice_get values i) (attr_index name t.attrs)) type ≡ slice_get values a.index
has_value None name values a e = absurd cc
has_value (Some t) name values a e = step (attr_index name t.attrs) refl e
  where
    step : (o : Option ℕ) → attr_index name t.attrs ≡ o → Some a ≡ place_of t o → option_and_then (λ i. slice_get values i) o ≡ slice_get values a.index
    step None f e = absurd cc
    step (Some k) f e =
        let r = found (λ b. bytes_eq b.name name) t.attrs k f in
        ap (slice_get values) (sym (ap index_in (e ∙ ap (option_map (at k)) r.1)))

-- the tests of a comparison
pub compared : (schema : Declared) (ty : ℕ) (name : Name) (op : Op) (literal : Value) (a : AttrAt) → Some a ≡ attr_at schema ty name.text → IsTestOf schema ty (Cmp name op literal) (test.Cmp a.index op literal)
compared schema ty name op literal a e = record {
  holds = λ event same. ap (λ v. some_meets op v literal) (sym (has_value (slice_get schema.types event.ty) name.text event.values a (e ∙ ap (λ n. attr_at schema n name.text) (sym same))));
  places = λ h. h;
}

pub not_compared : (schema : Declared) (ty : ℕ) (name : Name) (op : Op) (literal : Value) → None ≡ attr_at schema ty name.text → IsTestOf schema ty (Cmp name op literal) test.No
not_compared schema ty name op literal e = record {
  holds = λ event same. sym (ap (λ v. some_meets op v literal) (lacks schema ty name.text event e same));
  places = λ h. tt;
}

preds_listed : (schema : Declared) (event : Event) (n : _) (row : Row_of-Pred n) → all_hold schema row event ≡ list_all (λ p. holds schema p event) (items-the_row-Pred n row)
preds_listed schema event n end_of-Pred = refl
preds_listed schema event n (more_of-Pred p rest) = ap (λ b. holds schema p event && b) (preds_listed schema event _ rest)

some_pred_listed : (schema : Declared) (event : Event) (n : _) (row : Row_of-Pred n) → any_holds schema row event ≡ list_any (λ p. holds schema p event) (items-the_row-Pred n row)
some_pred_listed schema event n end_of-Pred = refl
some_pred_listed schema event n (more_of-Pred p rest) = ap (λ b. holds schema p event || b) (some_pred_listed schema event _ rest)

tests_listed : (event : Event) (n : _) (row : Row_of-Test n) → all_tests_hold row event ≡ list_all (λ t. test_holds t event) (items-the_row-Test n row)
tests_listed event n end_of-Test = refl
tests_listed event n (more_of-Test t rest) = ap (λ b. test_holds t event && b) (tests_listed event _ rest)

some_test_listed : (event : Event) (n : _) (row : Row_of-Test n) → any_test_holds row event ≡ list_any (λ t. test_holds t event) (items-the_row-Test n row)
some_test_listed event n end_of-Test = refl
some_test_listed event n (more_of-Test t rest) = ap (λ b. test_holds t event || b) (some_test_listed event _ rest)

few_preds_listed : (n : _) (row : Row_of-Pred n) → PredsHaveFewPlaces row → AllByRecursion PredHasFewPlaces (items-the_row-Pred n row)
few_preds_listed n end_of-Pred h = tt
few_preds_listed n (more_of-Pred p rest) h = (h.0, few_preds_listed _ rest h.1)

few_tests_listed : (n : _) (row : Row_of-Test n) → AllByRecursion TestHasFewPlaces (items-the_row-Test n row) → TestsHaveFewPlaces row
few_tests_listed n end_of-Test h = tt
few_tests_listed n (more_of-Test t rest) h = (h.0, few_tests_listed _ rest h.1)

abbrev preds_of : Pred → (n : _) × Row_of-Pred n
preds_of (All' _ row) = (_, row)
preds_of (Any' _ row) = (_, row)
preds_of _ = (_, end_of-Pred)

abbrev tests_in : Test → (n : _) × Row_of-Test n
tests_in (test.All' _ row) = (_, row)
tests_in (test.Any' _ row) = (_, row)
tests_in _ = (_, end_of-Test)

both_all : (schema : Declared) (ty : ℕ) (ps : List Pred) (ts : List Test) (event : Event) → event.ty ≡ ty → AreTestsOf schema ty ps ts → list_all (λ t. test_holds t event) ts ≡ list_all (λ p. holds schema p event) ps
both_all schema ty [] [] event at are = refl
both_all schema ty [] (t ∷ ts) event at are = absurd are
both_all schema ty (p ∷ ps) [] event at are = absurd are
both_all schema ty (p ∷ ps) (t ∷ ts) event at are = ap₂ (λ a b. a && b) (are.0.holds event at) (both_all schema ty ps ts event at are.1)

both_any : (schema : Declared) (ty : ℕ) (ps : List Pred) (ts : List Test) (event : Event) → event.ty ≡ ty → AreTestsOf schema ty ps ts → list_any (λ t. test_holds t event) ts ≡ list_any (λ p. holds schema p event) ps
both_any schema ty [] [] event at are = refl
both_any schema ty [] (t ∷ ts) event at are = absurd are
both_any schema ty (p ∷ ps) [] event at are = absurd are
both_any schema ty (p ∷ ps) (t ∷ ts) event at are = ap₂ (λ a b. a || b) (are.0.holds event at) (both_any schema ty ps ts event at are.1)

pub few_places : (schema : Declared) (ty : ℕ) (ps : List Pred) (ts : List Test) → AreTestsOf schema ty ps ts → AllByRecursion PredHasFewPlaces ps → AllByRecursion TestHasFewPlaces ts
few_places schema ty [] [] are h = tt
few_places schema ty [] (t ∷ ts) are h = absurd are
few_places schema ty (p ∷ ps) [] are h = absurd are
few_places schema ty (p ∷ ps) (t ∷ ts) are h = (are.0.places h.0, few_places schema ty ps ts are.1 h.1)

pub all_tested : (schema : Declared) (ty : ℕ) (preds : Vec Pred Global) (tests : Vec Test Global) → AreTestsOf schema ty preds.items tests.items → IsTestOf schema ty (All preds) (test.All tests)
all_tested schema ty preds tests are =
    let row = preds_of (All preds) in
    let made = tests_in (test.All tests) in
    record {
      holds = λ event at.
          tests_listed event made.0 made.1 ∙ ap (list_all (λ t. test_holds t event)) (items_hidden-the_row-Test-0 tests)
          ∙ both_all schema ty preds.items tests.items event at are
          ∙ sym (preds_listed schema event row.0 row.1 ∙ ap (list_all (λ p. holds schema p event)) (items_hidden-the_row-Pred-0 preds));
      places = λ h.
          few_tests_listed made.0 made.1 (subst (AllByRecursion TestHasFewPlaces) (sym (items_hidden-the_row-Test-0 tests))
          (few_places schema ty preds.items tests.items are (subst (AllByRecursion PredHasFewPlaces) (items_hidden-the_row-Pred-0 preds) (few_preds_listed row.0 row.1 h))));
    }

pub any_tested : (schema : Declared) (ty : ℕ) (preds : Vec Pred Global) (tests : Vec Test Global) → AreTestsOf schema ty preds.items tests.items → IsTestOf schema ty (Any preds) (test.Any tests)
any_tested schema ty preds tests are =
    let row = preds_of (Any preds) in
    let made = tests_in (test.Any tests) in
    record {
      holds = λ event at.
          some_test_listed event made.0 made.1 ∙ ap (list_any (λ t. test_holds t event)) (items_hidden-the_row-Test-0 tests)
          ∙ both_any schema ty preds.items tests.items event at are
          ∙ sym (some_pred_listed schema event row.0 row.1 ∙ ap (list_any (λ p. holds schema p event)) (items_hidden-the_row-Pred-0 preds));
      places = λ h.
          few_tests_listed made.0 made.1 (subst (AllByRecursion TestHasFewPlaces) (sym (items_hidden-the_row-Test-0 tests))
          (few_places schema ty preds.items tests.items are (subst (AllByRecursion PredHasFewPlaces) (items_hidden-the_row-Pred-0 preds) (few_preds_listed row.0 row.1 h))));
    }

-- the attribute that is found by its type's number and its place
pub attr_found : (types : List DeclaredType) (ty i : ℕ) (attrs : List Attr) (a : Attr) → Some attrs ≡ option_map (λ (t : DeclaredType). t.attrs) (slice_get types ty) → slice_get attrs i ≡ Some a → attr_of types ty i ≡ Some a
attr_found types ty i attrs a at is = by (slice_get types ty) at
  where
    by : (o : Option DeclaredType) → Some attrs ≡ option_map (λ (t : DeclaredType). t.attrs) o → option_and_then (λ (t : DeclaredType). slice_get t.attrs i) o ≡ Some a
    by None e = absurd cc
    by (Some t) e = let same : attrs ≡ t.attrs = cc in ap (λ xs. slice_get xs i) (sym same) ∙ is
