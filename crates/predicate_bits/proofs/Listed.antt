-- What holds of each test in a list.
use Rattle.std.proofs.Common.{◌≡◌, refl, sym, ap, ◌∙◌, ℕ, zero, suc, ◌<◌, Bool, true, false, ◌&&◌, ◌||◌, List, [], ◌∷◌, length, take, get_or}
use Rattle.std.specs.List.{list_all, list_any}
use Rattle.std.specs.Prelude.{Vec}
use Rattle.std.proofs.lemmas.Bool.{false≢true}
use Rattle.std.proofs.lemmas.List.Sums.{AllPass-from_list_all}
use Rattle.std.specs.declared.alloc.Global.{Global}
use Rattle.stream_schema.specs.declared.Event.{Event}
use Rattle.query_leaves.specs.declared.Test.{Test, All, Any, All', Any', Row_of-Test, end_of-Test, more_of-Test, items-the_row-Test, items_hidden-the_row-Test-0}
use Rattle.query_leaves.specs.Shapes.{test_holds, all_tests_hold, any_test_holds, each_holds}

all_listed : (event : Event) (n : _) (row : Row_of-Test n) → all_tests_hold row event ≡ list_all (λ t. test_holds t event) (items-the_row-Test n row)
all_listed event n end_of-Test = refl
all_listed event n (more_of-Test t rest) = ap (λ b. test_holds t event && b) (all_listed event _ rest)

any_listed : (event : Event) (n : _) (row : Row_of-Test n) → any_test_holds row event ≡ list_any (λ t. test_holds t event) (items-the_row-Test n row)
any_listed event n end_of-Test = refl
any_listed event n (more_of-Test t rest) = ap (λ b. test_holds t event || b) (any_listed event _ rest)

abbrev row_of : Test → (n : _) × Row_of-Test n
row_of (All' _ row) = (_, row)
row_of (Any' _ row) = (_, row)
row_of _ = (_, end_of-Test)

pub holds_all : (event : Event) (tests : Vec Test Global) → test_holds (All tests) event ≡ list_all (λ t. test_holds t event) tests.items
holds_all event tests =
    let row = row_of (All tests) in
    all_listed event row.0 row.1 ∙ ap (list_all (λ t. test_holds t event)) (items_hidden-the_row-Test-0 tests)

pub holds_any : (event : Event) (tests : Vec Test Global) → test_holds (Any tests) event ≡ list_any (λ t. test_holds t event) tests.items
holds_any event tests =
    let row = row_of (Any tests) in
    any_listed event row.0 row.1 ∙ ap (list_any (λ t. test_holds t event)) (items_hidden-the_row-Test-0 tests)

pub each_listed : (event : Event) (tests : List Test) → list_all (λ t. test_holds t event) tests ≡ each_holds tests event
each_listed event [] = refl
each_listed event (t ∷ ts) = ap (λ b. test_holds t event && b) (each_listed event ts)

-- where one test fails, not all hold
pub one_fails : (event : Event) (tests : List Test) (k : ℕ) (test : Test) → k < length tests → test ≡ get_or tests k test → test_holds test event ≡ false → each_holds tests event ≡ false
one_fails event tests k test inside is none = cases (each_holds tests event) refl
  where
    cases : (b : Bool) → each_holds tests event ≡ b → b ≡ false
    cases false e = refl
    cases true e = absurd (false≢true (sym none ∙ (ap (λ t. test_holds t event) is ∙ AllPass-from_list_all (λ t. test_holds t event) tests (each_listed event tests ∙ e) k test inside)))

-- what fails of the first ones fails of all
pub fewer_hold : (event : Event) (n : ℕ) (tests : List Test) → each_holds (take n tests) event ≡ false → each_holds tests event ≡ false
fewer_hold event zero tests fails = absurd cc
fewer_hold event (suc n) [] fails = absurd cc
fewer_hold event (suc n) (t ∷ ts) fails = step (test_holds t event) (fewer_hold event n ts) fails
  where
    step : (b : Bool) → (each_holds (take n ts) event ≡ false → each_holds ts event ≡ false) → (b && each_holds (take n ts) event) ≡ false → (b && each_holds ts event) ≡ false
    step true more e = more e
    step false more e = refl
