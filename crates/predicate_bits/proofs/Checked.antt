-- What is left to test where a number is in the range: check by check, and test by test.
use Rattle.std.proofs.Common.{◌≡◌, refl, sym, ap, subst, ◌∙◌, ℕ, ◌+◌, ◌<◌, ◌≤◌, ◌&&◌, Bool, true, false, List, [], ◌∷◌, ◌++◌, length, take, get_or, Vec, take_all, Result, Ok, Err, IfOk, zero, suc, Some, slice_get, slice_index_or, arith}
use Rattle.std.specs.List.{list_all}
use Rattle.std.specs.declared.alloc.Global.{Global}
use Rattle.std.proofs.lemmas.Option.{slice_get-get_or}
use Rattle.std.proofs.lemmas.List.{take_more}
use Rattle.std.proofs.lemmas.List.Folds.{list_all-append, list_all_more}
use Rattle.std.proofs.Math.Bool.{and_assoc, and-true}
use Rattle.cer_base.specs.declared.Memory.{Memory}
use Rattle.stream_schema.specs.declared.Value.{Value}
use Rattle.stream_schema.specs.declared.Op.{Op}
use Rattle.query_leaves.specs.declared.Leaf.{Leaf}
use Rattle.query_leaves.specs.declared.Test.{Test, Cmp, All}
use Rattle.query_leaves.specs.Shapes.{test_holds, each_holds}
use Rattle.predicate_bits.specs.declared.ranges.Range.{Range}
use Rattle.predicate_bits.specs.declared.checks.Check.{Check}
use Rattle.predicate_bits.specs.declared.checks.Sieve.{Sieve}
use Rattle.predicate_bits.specs.Ranges.{Settles}
use Rattle.predicate_bits.specs.Checks.{check_holds, all_checks_hold, ComesTo, Adds, IsSieve, AreSieves}
use Rattle.predicate_bits.proofs.Listed.{each_listed, holds_all}

-- a check that the range settles is left out
pub settled_out : (range : Range) (place : ℕ) (op : Op) (literal : Value) (negated : Bool) (cs : List Check) → negated ≡ false → Settles range (test_holds (Cmp place op literal)) → Adds range (check_holds (record { place = place; op = op; literal = literal; negated = negated })) cs cs
settled_out range place op literal negated cs plain settles = record {
  same = λ event v at is_in.
      let holds : check_holds (record { place = place; op = op; literal = literal; negated = negated }) event ≡ true = subst (λ b. check_holds (record { place = place; op = op; literal = literal; negated = b }) event ≡ true) (sym plain) (settles event v at is_in) in
      ap (λ b. all_checks_hold cs event && b) holds ∙ and-true (all_checks_hold cs event);
}

-- one that is put in last
pub put_in : (range : Range) (c : Check) (cs new : List Check) → new ≡ cs ++ c ∷ [] → Adds range (check_holds c) cs new
put_in range c cs new is = record {
  same = λ event v at is_in. sym (
      ap (λ xs. all_checks_hold xs event) is
      ∙ (list_all-append (λ x. check_holds x event) cs (c ∷ []) ∙ ap (λ b. all_checks_hold cs event && b) (and-true (check_holds c event)))
      );
}

-- no test, and one test more
pub adds_none : (range : Range) (cs : List Check) → Adds range (λ event. true) cs cs
adds_none range cs = record { same = λ event v at is_in. and-true (all_checks_hold cs event) }

pub adds_next : (range : Range) (tests : List Test) (k : ℕ) (x : Test) (old mid new : List Check) → k < length tests → x ≡ get_or tests k x → Adds range (λ event. list_all (λ t. test_holds t event) (take k tests)) old mid → Adds range (test_holds x) mid new → Adds range (λ event. list_all (λ t. test_holds t event) (take (k + 1) tests)) old new
adds_next range tests k x old mid new inside is done here = record {
  same = λ event v at is_in.
      let more : list_all (λ t. test_holds t event) (take (k + 1) tests) ≡ (list_all (λ t. test_holds t event) (take k tests) && test_holds (get_or tests k x) event) = list_all_more (λ t. test_holds t event) tests k x inside in
      let one : test_holds (get_or tests k x) event ≡ test_holds x event = ap (λ t. test_holds t event) (sym is) in
      ap (λ b. all_checks_hold old event && b) (more ∙ ap (λ b. list_all (λ t. test_holds t event) (take k tests) && b) one)
      ∙ (sym (and_assoc (all_checks_hold old event) (list_all (λ t. test_holds t event) (take k tests)) (test_holds x event))
      ∙ (ap (λ b. b && test_holds x event) (done.same event v at is_in) ∙ here.same event v at is_in));
}

pub adds_all : (range : Range) (tests : List Test) (k : ℕ) (old new : List Check) → length tests ≤ k → Adds range (λ event. list_all (λ t. test_holds t event) (take k tests)) old new → Adds range (λ event. list_all (λ t. test_holds t event) tests) old new
adds_all range tests k old new end h = subst (λ ts. Adds range (λ event. list_all (λ t. test_holds t event) ts) old new) (take_all k tests end) h

-- of a leaf's tests, from no check on
pub comes_to : (range : Range) (tests : List Test) (new : List Check) → Adds range (λ event. list_all (λ t. test_holds t event) tests) [] new → ComesTo range (each_holds tests) (all_checks_hold new)
comes_to range tests new h = record { same = λ event v at is_in. sym (each_listed event tests) ∙ h.same event v at is_in }

-- those that a test joins
pub adds_joined : (range : Range) (test : Test) (tests : Vec Test Global) (read : List Test) (old new : List Check) → test ≡ All tests → read ≡ tests.items → Adds range (λ event. list_all (λ t. test_holds t event) read) old new → Adds range (test_holds test) old new
adds_joined range test tests read old new is same h = record {
  same = λ event v at is_in.
      let one : test_holds test event ≡ list_all (λ t. test_holds t event) read = ap (λ t. test_holds t event) is ∙ (holds_all event tests ∙ ap (list_all (λ t. test_holds t event)) (sym same)) in
      ap (λ b. all_checks_hold old event && b) one ∙ h.same event v at is_in;
}

pub taken_on : {A B : Type 0} (result : Result Bool Memory) → (A → B) → IfOk result (λ taken. taken ≡ true → A) → IfOk result (λ taken. taken ≡ true → B)
taken_on (Ok taken) next h = λ is. next (h is)
taken_on (Err refused) next h = h

-- what is known of the tests of a leaf that is there
sieve_there : (list : List Leaf) (sieves : List Sieve) (k : ℕ) (d : Sieve) (l : Leaf) (tests : List Test) → AreSieves list sieves → k < length list → slice_get list k ≡ Some l → tests ≡ l.tests → IsSieve tests (slice_index_or sieves k d)
sieve_there list sieves k d l tests are inside at read = let same = are.count in subst (λ ts. IsSieve ts (slice_index_or sieves k d)) (sym read) (are.each k l (slice_index_or sieves k d) at (slice_get-get_or sieves k d (omega arith)))

-- as the code reads them
pub sieve_read : (list : List Leaf) (sieves : List Sieve) (k : ℕ) (d : Leaf) (s : Sieve) (tests : List Test) → AreSieves list sieves → k < length list → tests ≡ (slice_index_or list k d).tests → s ≡ slice_index_or sieves k s → IsSieve tests s
sieve_read list sieves k d s tests are inside read is = subst (IsSieve tests) (sym is) (sieve_there list sieves k s (slice_index_or list k d) tests are inside (slice_get-get_or list k d inside) read)

each_more : (P : Leaf → Sieve → Type 0) (xs : List Leaf) (rs : List Sieve) (l : Leaf) (r : Sieve) → length rs ≡ length xs → ((k : ℕ) (m : Leaf) (q : Sieve) → slice_get xs k ≡ Some m → slice_get rs k ≡ Some q → P m q) → P l r → (k : ℕ) (m : Leaf) (q : Sieve) → slice_get (xs ++ l ∷ []) k ≡ Some m → slice_get (rs ++ r ∷ []) k ≡ Some q → P m q
each_more P [] [] l r long each here zero m q a b = let e : l ≡ m = cc in let f : r ≡ q = cc in subst (λ z. P z q) e (subst (λ z. P l z) f here)
each_more P [] [] l r long each here (suc k) m q a b = absurd cc
each_more P [] (y ∷ ys) l r long each here k m q a b = absurd (omega arith)
each_more P (x ∷ xs) [] l r long each here k m q a b = absurd (omega arith)
each_more P (x ∷ xs) (y ∷ ys) l r long each here zero m q a b = each 0 m q a b
each_more P (x ∷ xs) (y ∷ ys) l r long each here (suc k) m q a b = each_more P xs ys l r (omega arith) (λ i n p c d. each (suc i) n p c d) here k m q a b

one_longer : {X : Type 0} (xs : List X) (x : X) → length (xs ++ x ∷ []) ≡ length xs + 1
one_longer [] x = refl
one_longer (y ∷ ys) x = let rest = one_longer ys x in omega arith

-- of one leaf more
pub sieves_more : (list : List Leaf) (sieves after : List Sieve) (k : ℕ) (l : Leaf) (s : Sieve) (tests : List Test) → k < length list → l ≡ get_or list k l → tests ≡ l.tests → AreSieves (take k list) sieves → IsSieve tests s → after ≡ sieves ++ s ∷ [] → AreSieves (take (k + 1) list) after
sieves_more list sieves after k l s tests inside at read are one is =
    let first = take k list in
    let both : AreSieves (first ++ l ∷ []) (sieves ++ s ∷ []) = record {
      count = (let a = one_longer sieves s in let b = one_longer first l in let e = are.count in omega arith);
      each = each_more (λ m q. IsSieve m.tests q) first sieves l s are.count are.each (subst (λ ts. IsSieve ts s) read one);
    } in
    let more : take (k + 1) list ≡ first ++ l ∷ [] = take_more list k l inside ∙ ap (λ x. first ++ x ∷ []) (sym at) in
    subst (λ xs. AreSieves xs after) (sym more) (subst (AreSieves (first ++ l ∷ [])) (sym is) both)
