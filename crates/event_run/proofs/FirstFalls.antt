-- Which query's clock falls first is one thing, and computed.
use Rattle.std.proofs.Common.{◌≡◌, ℕ, ◌-◌, ◌⊎◌, inl, inr, ℤ, List, Option, Some, None, slice_get, refl, sym, ◌∙◌, subst, arith}
use Rattle.std.proofs.lemmas.Bool.{cases_lt}
use Rattle.stream_schema.specs.Types.{Declared}
use Rattle.stream_schema.specs.declared.Event.{Event}
use Rattle.stream_schema.specs.declared.Value.{Value}
use Rattle.stream_schema.specs.declared.Value.TheVariants as value
use Rattle.cel_terms.specs.declared.Query.{Query}
use Rattle.cel_terms.specs.declared.Window.{Window}
use Rattle.cel_terms.specs.declared.Window.TheVariants.{Free, Events, Clock}
use Rattle.cel_terms.specs.Answers.{HasClock}
use Rattle.query_engine.specs.declared.falls.FallOf.{FallOf}
use Rattle.query_engine.specs.Clocks.{FallsBack, NoneFallsBack, IsFirstToFall}
use Rattle.query_engine.specs.Falls.{last_clock, first_fall}
use Rattle.query_engine.proofs.Fallen.{is_last_clock, first_to_fall, none_to_fall}

-- some query is the first whose clock falls, or none's does
pub falls_or_none : (schema : Declared) (queries : List Query) (events : List Event) (event : Event) →
    NoneFallsBack schema queries events event ⊎ ((f : FallOf) × IsFirstToFall schema queries events event f.query f.before f.now)
falls_or_none schema queries events event = go (first_fall schema events event 1 queries) refl
  where
    go : (o : Option FallOf) → first_fall schema events event 1 queries ≡ o → NoneFallsBack schema queries events event ⊎ ((f : FallOf) × IsFirstToFall schema queries events event f.query f.before f.now)
    go None e = inl (none_to_fall schema events event 1 queries e)
    go (Some f) e = inr (f, first_to_fall schema events event queries f e)

-- not both
pub not_both : (schema : Declared) (queries : List Query) (events : List Event) (event : Event) (query : ℕ) (before now : ℤ) →
    NoneFallsBack schema queries events event → IsFirstToFall schema queries events event query before now → ⊥
not_both schema queries events event query before now none first = none (query - 1) first.falling before now first.at first.falls

-- a clock falls in one way
one_before : (schema : Declared) (q : Query) (events : List Event) (event : Event) (b n c m : ℤ) → FallsBack schema q events event b n → FallsBack schema q events event c m → b ≡ c
one_before schema q events event b n c m one other =
    let first : last_clock schema q events ≡ Some b = is_last_clock schema q events b one.last in
    let second : last_clock schema q events ≡ Some c = is_last_clock schema q events c other.last in
    let same : ◌≡◌ {A = Option ℤ} (Some b) (Some c) = sym first ∙ second in
    cc

same_clock : (schema : Declared) (w : Window) (event : Event) (p : ℕ) (c m : ℤ) → HasClock schema w event p c → HasClock schema w event p m → c ≡ m
same_clock schema Free event p c m one other = one ∙ sym other
same_clock schema (Events n) event p c m one other = one ∙ sym other
same_clock schema (Clock name n) event p c m one other =
    let same : ◌≡◌ {A = Option Value} (Some (value.Int c)) (Some (value.Int m)) = sym one ∙ other in cc

one_now : (schema : Declared) (q : Query) (events : List Event) (event : Event) (b n c m : ℤ) → FallsBack schema q events event b n → FallsBack schema q events event c m → n ≡ m
one_now schema q events event b n c m one other =
    same_clock schema q.window event _ n m one.now_is other.now_is

-- The query and both clocks are the same.
pub record AreSameFall (query again : ℕ) (before then now later : ℤ) : Type 0 where
  pub query_is : query ≡ again
  pub before_is : before ≡ then
  pub now_is : now ≡ later

at_one_place : (schema : Declared) (queries : List Query) (events : List Event) (event : Event) (query again : ℕ) (before then now later : ℤ) →
    (one : IsFirstToFall schema queries events event query before now) → (other : IsFirstToFall schema queries events event again then later) → query - 1 ≡ again - 1 →
    AreSameFall query again before then now later
at_one_place schema queries events event query again before then now later one other place =
    let there : slice_get queries (query - 1) ≡ Some other.falling = subst (λ k. slice_get queries k ≡ Some other.falling) (sym place) other.at in
    let two : ◌≡◌ {A = Option Query} (Some one.falling) (Some other.falling) = sym one.at ∙ there in
    let same : other.falling ≡ one.falling = cc in
    let falls = subst (λ q. FallsBack schema q events event then later) same other.falls in
    record {
      query_is = let a = one.numbered in let b = other.numbered in omega arith;
      before_is = one_before schema one.falling events event before now then later one.falls falls;
      now_is = one_now schema one.falling events event before now then later one.falls falls;
    }

-- the first to fall is one, with one pair of clocks
pub one_first : (schema : Declared) (queries : List Query) (events : List Event) (event : Event) (query again : ℕ) (before then now later : ℤ) →
    IsFirstToFall schema queries events event query before now → IsFirstToFall schema queries events event again then later → AreSameFall query again before then now later
one_first schema queries events event query again before then now later one other =
    elim (cases_lt (query - 1) (again - 1)) [
      | inl less ↦ absurd (other.first (query - 1) one.falling before now less one.at one.falls)
      | inr rest ↦ elim (cases_lt (again - 1) (query - 1)) [
        | inl more ↦ absurd (one.first (again - 1) other.falling then later more other.at other.falls)
        | inr same ↦ at_one_place schema queries events event query again before then now later one other (omega (arith, rest, same))
      ]
    ]
