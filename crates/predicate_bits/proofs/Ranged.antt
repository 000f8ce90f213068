-- What is left of a range where tests hold.
use Rattle.std.proofs.Common.{◌≡◌, refl, sym, ap, subst, ◌∙◌, ℕ, ◌+◌, ◌<◌, ℤ, ◌≤ℤ◌, Bool, true, List, [], ◌∷◌, length, take, get_or, Some, slice_get}
use Rattle.std.specs.List.{list_all}
use Rattle.std.proofs.lemmas.Bool.{and_parts}
use Rattle.std.proofs.lemmas.List.Folds.{list_all_more}
use Rattle.stream_schema.specs.declared.Event.{Event}
use Rattle.stream_schema.specs.declared.Op.{Op}
use Rattle.stream_schema.specs.declared.Value.{Value}
use Rattle.stream_schema.specs.declared.Value.TheVariants as value
use Rattle.stream_schema.specs.Comparing.{value_meets}
use Rattle.cel_terms.specs.Predicate.{some_meets}
use Rattle.query_leaves.specs.declared.Test.{Test, Cmp}
use Rattle.query_leaves.specs.Shapes.{test_holds, each_holds}
use Rattle.predicate_bits.specs.declared.ranges.Range.{Range}
use Rattle.predicate_bits.specs.Ranges.{IsWide, IsIn, Narrows, AsksFor}

pub narrows_none : (r : Range) (holds : Event → Bool) → Narrows r r holds
narrows_none r holds = record { place = refl; narrow = λ event v wide h at is_in. is_in }

-- one test more
pub narrows_next : {A : Type 0} (holds : A → Event → Bool) (xs : List A) (k : ℕ) (x : A) (old mid new : Range) → k < length xs → x ≡ get_or xs k x → Narrows old mid (λ event. list_all (λ y. holds y event) (take k xs)) → Narrows mid new (holds x) → Narrows old new (λ event. list_all (λ y. holds y event) (take (k + 1) xs))
narrows_next holds xs k x old mid new inside at done here = record {
  place = here.place ∙ done.place;
  narrow = λ event v wide h there is_in.
      let parts = and_parts (list_all (λ y. holds y event) (take k xs)) (holds (get_or xs k x) event) (sym (list_all_more (λ y. holds y event) xs k x inside) ∙ h) in
      let one : holds x event ≡ true = ap (λ y. holds y event) at ∙ parts.1 in
      here.narrow event v wide one (ap (slice_get event.values) done.place ∙ there) (done.narrow event v wide parts.0 there is_in);
}

-- what is asked of all numbers
pub asks_whole : (all r : Range) (holds : Event → Bool) → ((v : ℤ) → IsWide v → IsIn all v) → Narrows all r holds → AsksFor r holds
asks_whole all r holds wide narrows event v is_wide h at = narrows.narrow event v is_wide h (ap (slice_get event.values) (sym narrows.place) ∙ at) (wide v is_wide)

-- and by tests that hold where these do
pub asks_more : (r : Range) (holds more : Event → Bool) → ((event : Event) → more event ≡ true → holds event ≡ true) → AsksFor r holds → AsksFor r more
asks_more r holds more implies asks event v wide h at = asks event v wide (implies event h) at

-- a comparison with a whole number, of a number that is there
cmp_holds : (test : Test) (place wanted : ℕ) (op : Op) (literal : Value) (n v : ℤ) (event : Event) → test ≡ Cmp place op literal → literal ≡ value.Int n → place ≡ wanted → slice_get event.values wanted ≡ Some (value.Int v) → test_holds test event ≡ true → value_meets op (value.Int v) (value.Int n) ≡ true
cmp_holds test place wanted op literal n v event is literal_is same at h =
    let told : some_meets op (slice_get event.values place) literal ≡ true = sym (ap (λ t. test_holds t event) is) ∙ h in
    let there : slice_get event.values place ≡ Some (value.Int v) = ap (slice_get event.values) same ∙ at in
    let met : value_meets op (value.Int v) literal ≡ true = sym (ap (λ o. some_meets op o literal) there) ∙ told in
    sym (ap (λ l. value_meets op (value.Int v) l) literal_is) ∙ met

-- a range that is narrowed from both ends by a comparison
pub ends_moved : (old : Range) (test : Test) (place : ℕ) (op : Op) (literal : Value) (n least most low high : ℤ) → test ≡ Cmp place op literal → literal ≡ value.Int n → place ≡ old.place
    → ((v : ℤ) → IsWide v → value_meets op (value.Int v) (value.Int n) ≡ true → least ≤ℤ v) → ((v : ℤ) → IsWide v → value_meets op (value.Int v) (value.Int n) ≡ true → v ≤ℤ most)
    → ((v : ℤ) → old.low ≤ℤ v → least ≤ℤ v → low ≤ℤ v) → ((v : ℤ) → v ≤ℤ old.high → v ≤ℤ most → v ≤ℤ high) → Narrows old (record { place = place; low = low; high = high }) (test_holds test)
ends_moved old test place op literal n least most low high is literal_is same from upto above below = record {
  place = same;
  narrow = λ event v wide h at is_in.
      let met = cmp_holds test place old.place op literal n v event is literal_is same at h in
      (above v is_in.0 (from v wide met), below v is_in.1 (upto v wide met));
}

pub first_holds : (tests : List Test) (t : Test) → slice_get tests 0 ≡ Some t → (event : Event) → each_holds tests event ≡ true → test_holds t event ≡ true
first_holds [] t at event h = absurd cc
first_holds (x ∷ xs) t at event h = let same : x ≡ t = cc in subst (λ z. test_holds z event ≡ true) same (and_parts (test_holds x event) (each_holds xs event) h).0
