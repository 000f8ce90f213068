-- Whether the clock of a query falls, and the last clocks with one event more.
use Rattle.std.proofs.Common.{◌≡◌, ℕ, zero, suc, ◌+◌, ℤ, ◌||◌, List, [], ◌∷◌, ◌++◌, map, length, drop, Option, Some, None, refl, sym, ap, ◌∙◌, add-one, slice_get, replicate}
use Rattle.std.specs.Prelude.{fold}
use Rattle.stream_schema.specs.Types.{Declared}
use Rattle.cel_terms.specs.declared.Query.{Query}
use Rattle.checkpoint_text.specs.declared.history.EventAt.{EventAt}
use Rattle.checkpoint_text.specs.QueryClocks.{clock_at, later_clock, last_clock, is_back, falls_with, some_falls}
use Rattle.checkpoint_text.specs.LastClocks.{last_clocks, any_back, fall_of, fall_or, first_back, next_clocks}

pub lasts_long : (schema : Declared) (queries : List Query) (events : List EventAt) → length (last_clocks schema queries events) ≡ length queries
lasts_long schema [] events = refl
lasts_long schema (q ∷ queries) events = ap suc (lasts_long schema queries events)

pub any_back_is : (schema : Declared) (queries : List Query) (events : List EventAt) (e : EventAt) → any_back schema queries (last_clocks schema queries events) e ≡ some_falls schema queries events e
any_back_is schema [] events e = refl
any_back_is schema (q ∷ queries) events e = ap (λ b. falls_with schema events e q || b) (any_back_is schema queries events e)

pub folded : {A B : Type 0} (f : B → A → B) (b : B) (xs : List A) (x : A) → fold f b (xs ++ x ∷ []) ≡ f (fold f b xs) x
folded f b [] x = refl
folded f b (y ∷ xs) x = folded f (f b y) xs x

pub next_are : (schema : Declared) (queries : List Query) (events : List EventAt) (e : EventAt) → next_clocks schema queries (last_clocks schema queries events) e ≡ last_clocks schema queries (events ++ e ∷ [])
next_are schema [] events e = refl
next_are schema (q ∷ queries) events e =
    ap (λ c. c ∷ next_clocks schema queries (last_clocks schema queries events) e) (sym (folded (λ last x. later_clock last (clock_at schema q x)) None events e))
    ∙ ap (λ l. last_clock schema q (events ++ e ∷ []) ∷ l) (next_are schema queries events e)

one_some : {A : Type 0} (x y : A) → Some x ≡ Some y → x ≡ y
one_some x y e = cc

-- a list from one of its places on
pub from_place : {A : Type 0} (xs : List A) (k : ℕ) (x : A) → slice_get xs k ≡ Some x → drop k xs ≡ x ∷ drop (suc k) xs
from_place [] k x e = absurd cc
from_place (y ∷ xs) zero x e = ap (λ z. z ∷ xs) (one_some y x e)
from_place (y ∷ xs) (suc k) x e = from_place xs k x e

-- one query more
pub back_step : (schema : Declared) (queries : List Query) (lasts : List (Option ℤ)) (e : EventAt) (k : ℕ) (q : Query) (last : Option ℤ) → slice_get queries k ≡ Some q → slice_get lasts k ≡ Some last →
    any_back schema (drop k queries) (drop k lasts) e ≡ (is_back last (clock_at schema q e) || any_back schema (drop (k + 1) queries) (drop (k + 1) lasts) e)
back_step schema queries lasts e k q last at here =
    rw (add-one k) (ap (λ qs. any_back schema qs (drop k lasts) e) (from_place queries k q at) ∙ ap (λ ls. any_back schema (q ∷ drop (suc k) queries) ls e) (from_place lasts k last here))

pub first_step : (schema : Declared) (queries : List Query) (lasts : List (Option ℤ)) (e : EventAt) (n k : ℕ) (q : Query) (last : Option ℤ) → slice_get queries k ≡ Some q → slice_get lasts k ≡ Some last →
    first_back schema n (drop k queries) (drop k lasts) e ≡ fall_or (fall_of n last (clock_at schema q e)) (first_back schema (n + 1) (drop (k + 1) queries) (drop (k + 1) lasts) e)
first_step schema queries lasts e n k q last at here =
    rw (add-one k) (ap (λ qs. first_back schema n qs (drop k lasts) e) (from_place queries k q at) ∙ ap (λ ls. first_back schema n (q ∷ drop (suc k) queries) ls e) (from_place lasts k last here))

pub next_step : (schema : Declared) (queries : List Query) (lasts : List (Option ℤ)) (e : EventAt) (k : ℕ) (q : Query) (last : Option ℤ) → slice_get queries k ≡ Some q → slice_get lasts k ≡ Some last →
    next_clocks schema (drop k queries) (drop k lasts) e ≡ later_clock last (clock_at schema q e) ∷ next_clocks schema (drop (k + 1) queries) (drop (k + 1) lasts) e
next_step schema queries lasts e k q last at here =
    rw (add-one k) (ap (λ qs. next_clocks schema qs (drop k lasts) e) (from_place queries k q at) ∙ ap (λ ls. next_clocks schema (q ∷ drop (suc k) queries) ls e) (from_place lasts k last here))

all_none : (queries : List Query) → replicate {A = Option ℤ} (length queries) None ≡ map (λ q. None) queries
all_none [] = refl
all_none (q ∷ queries) = ap (λ l. None ∷ l) (all_none queries)

-- no clock yet
pub none_yet : (queries : List Query) (clocks : List (Option ℤ)) → clocks ≡ replicate (length queries) None → clocks ≡ map (λ q. None) queries
none_yet queries clocks e = e ∙ all_none queries
