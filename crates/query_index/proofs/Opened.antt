-- What tests that ask for a text ask to open with.
use Rattle.std.proofs.Common.{◌≡◌, refl, sym, ap, subst, ◌∙◌, ℕ, ◌<◌, Bool, true, List, length, get_or, Option, Some, None, IfSome, Vec, Less, Equal, Greater, slice_get}
use Rattle.std.specs.declared.alloc.Global.{Global}
use Rattle.std.specs.List.{list_all}
use Rattle.std.specs.declared.cmp.Ordering.{Ordering}
use Rattle.std.specs.Cmp.Lexicographic.{slice_cmp}
use Rattle.std.specs.Ordering.{nat_cmp, is_eq}
use Rattle.std.proofs.lemmas.Map.Lookups.{exact_bytes}
use Rattle.std.proofs.lemmas.List.Sums.{AllPass-from_list_all}
use Rattle.stream_schema.specs.declared.Event.{Event}
use Rattle.stream_schema.specs.declared.Op.{Op}
use Rattle.stream_schema.specs.declared.Op.TheVariants.{Eq}
use Rattle.stream_schema.specs.declared.Value.{Value}
use Rattle.stream_schema.specs.declared.Value.TheVariants as value
use Rattle.cel_terms.specs.Predicate.{some_meets}
use Rattle.query_leaves.specs.declared.Test.{Test, Cmp, All}
use Rattle.query_leaves.specs.Shapes.{test_holds, each_holds}
use Rattle.predicate_bits.proofs.Listed.{holds_all, each_listed}
use Rattle.query_index.specs.declared.text_prefilters.TextPrefilter.{TextPrefilter}
use Rattle.query_index.specs.TextPrefilters.{opens, AsksToOpen}

-- texts that compare as equal are one
same_text : (a b : List ℕ) → is_eq (slice_cmp nat_cmp a b) ≡ true → a ≡ b
same_text a b h = exact_bytes a b (equal (slice_cmp nat_cmp a b) h)
  where
    equal : (o : Ordering) → is_eq o ≡ true → o ≡ Equal
    equal Less e = absurd cc
    equal Equal e = refl
    equal Greater e = absurd cc

-- a comparison that asks for a text asks to open with it
pub asks_text : (o : TextPrefilter) (place : ℕ) (op : Op) (literal : Value) (wanted : List ℕ) → op ≡ Eq → literal ≡ value.Text wanted → o.place ≡ place → opens o wanted ≡ true → AsksToOpen o (test_holds (Cmp place op literal))
asks_text o place op literal wanted equals is same told_so event text within h there =
    let told : some_meets Eq (slice_get event.values place) (value.Text wanted) ≡ true = subst (λ p. some_meets p (slice_get event.values place) (value.Text wanted) ≡ true) equals (subst (λ l. some_meets op (slice_get event.values place) l ≡ true) is h) in
    let at : slice_get event.values place ≡ Some (value.Text text) = subst (λ p. slice_get event.values p ≡ Some (value.Text text)) same there in
    let met : some_meets Eq (Some (value.Text text)) (value.Text wanted) ≡ true = subst (λ v. some_meets Eq v (value.Text wanted) ≡ true) at told in
    ap (opens o) (same_text text wanted met) ∙ told_so

-- and so do tests that hold only where such a one does
asks_more : (o : TextPrefilter) (holds more : Event → Bool) → ((event : Event) → more event ≡ true → holds event ≡ true) → AsksToOpen o holds → AsksToOpen o more
asks_more o holds more implies asks event text within h there = asks event text within (implies event h) there

-- tests that are joined
pub asks_joined : (asked : Option TextPrefilter) (test : Test) (tests : Vec Test Global) (list : List Test) → test ≡ All tests → list ≡ tests.items → IfSome asked (λ o. AsksToOpen o (λ event. list_all (λ t. test_holds t event) list)) → IfSome asked (λ o. AsksToOpen o (test_holds test))
asks_joined None test tests list is read asks = asks
asks_joined (Some o) test tests list is read asks = asks_more o (λ event. list_all (λ t. test_holds t event) list) (test_holds test) (λ event h. ap (list_all (λ t. test_holds t event)) read ∙ (sym (holds_all event tests) ∙ (ap (λ t. test_holds t event) (sym is) ∙ h))) asks

-- and one of a leaf's tests
pub asks_one : (o : TextPrefilter) (tests : List Test) (k : ℕ) (test : Test) → k < length tests → test ≡ get_or tests k test → AsksToOpen o (test_holds test) → AsksToOpen o (each_holds tests)
asks_one o tests k test inside is = asks_more o (test_holds test) (each_holds tests) (λ event h. ap (λ t. test_holds t event) is ∙ AllPass-from_list_all (λ t. test_holds t event) tests (each_listed event tests ∙ h) k test inside)
