-- Query states with their queries' clocks, and without.
use Rattle.std.proofs.Common.{◌≡◌, refl, sym, ap, ap₂, subst, ◌∙◌, ℕ, zero, suc, ◌<◌, ℤ, List, [], ◌∷◌, length, map, drop, All, Option, Some, None, slice_get, slice_index_or, slice_set, arith}
use Rattle.std.specs.Prelude.{sum_by}
use Rattle.std.specs.List.{AllZip}
use Rattle.std.proofs.lemmas.Option.{slice_get-get_or}
use Rattle.std.proofs.lemmas.List.Elements.{All-nil, All-cons, All-head, All-tail}
use Rattle.std.proofs.lemmas.List.Sums.{sum_by-cons}
use Rattle.stream_schema.specs.Types.{Declared}
use Rattle.stream_schema.specs.declared.Event.{Event}
use Rattle.cel_terms.specs.declared.Query.{Query}
use Rattle.query_standing.specs.Kept.{QueryState, roots_at, roots_for}
use Rattle.query_standing.specs.Dormancy.{IsClockOf}
use Rattle.query_standing.proofs.Dormancy.{clock_is_given}
use Rattle.all_or_none.specs.Phases.{Phase, IsIdle, HasNoAnswer, StandsAt, InTime, CanPrepare, HasGrown, MayAnswer, MeetsAtMost, AreBounded}
use Rattle.query_engine.specs.Times.{with_clock, with_clocks, IsAfter, AreClocksOf}
use Rattle.query_engine.proofs.Standing.{map_at, mapped, all_at, all_by}

clock_on : (clocks : List (Option ℤ)) (k : ℕ) → slice_index_or (drop 1 clocks) k None ≡ slice_index_or clocks (suc k) None
clock_on [] k = refl
clock_on (c ∷ clocks) k = refl

drop_on : (clocks : List (Option ℤ)) (k : ℕ) → drop k (drop 1 clocks) ≡ drop (suc k) clocks
drop_on [] zero = refl
drop_on [] (suc k) = refl
drop_on (c ∷ clocks) k = refl

-- AT A PLACE

pub clocked_length : (query_states : List Phase) (clocks : List (Option ℤ)) → length (with_clocks query_states clocks) ≡ length query_states
clocked_length [] clocks = refl
clocked_length (p ∷ query_states) clocks = ap suc (clocked_length query_states (drop 1 clocks))

pub clocked_at : (query_states : List Phase) (clocks : List (Option ℤ)) (k : ℕ) (p : Phase) → slice_get query_states k ≡ Some p → slice_get (with_clocks query_states clocks) k ≡ Some (with_clock (slice_index_or clocks k None) p)
clocked_at [] clocks k p at = absurd cc
clocked_at (x ∷ query_states) clocks zero p at = let same : x ≡ p = cc in ap (λ (z : Phase). Some (with_clock (slice_index_or clocks 0 None) z)) same
clocked_at (x ∷ query_states) clocks (suc k) p at = clocked_at query_states (drop 1 clocks) k p at ∙ ap (λ c. Some (with_clock c p)) (clock_on clocks k)

pub clocked_back : (query_states : List Phase) (clocks : List (Option ℤ)) (k : ℕ) (x : Phase) → slice_get (with_clocks query_states clocks) k ≡ Some x → (p : Phase) × (slice_get query_states k ≡ Some p) × (with_clock (slice_index_or clocks k None) p ≡ x)
clocked_back [] clocks k x at = absurd cc
clocked_back (p ∷ query_states) clocks zero x at = (p, refl, cc)
clocked_back (p ∷ query_states) clocks (suc k) x at =
    let r = clocked_back query_states (drop 1 clocks) k x at in
    (r.0, r.1, ap (λ c. with_clock c r.0) (sym (clock_on clocks k)) ∙ r.2)

pub clocked_set : (query_states : List Phase) (clocks : List (Option ℤ)) (k : ℕ) (v : Phase) → with_clocks (slice_set query_states k v) clocks ≡ slice_set (with_clocks query_states clocks) k (with_clock (slice_index_or clocks k None) v)
clocked_set [] clocks k v = refl
clocked_set (p ∷ query_states) clocks zero v = refl
clocked_set (p ∷ query_states) clocks (suc k) v = ap (λ ps. with_clock (slice_index_or clocks 0 None) p ∷ ps) (clocked_set query_states (drop 1 clocks) k v ∙ ap (λ c. slice_set (with_clocks query_states (drop 1 clocks)) k (with_clock c v)) (clock_on clocks k))

pub clocked_or : (query_states : List Phase) (clocks : List (Option ℤ)) (k : ℕ) (d : Phase) → slice_index_or (with_clocks query_states clocks) k (with_clock (slice_index_or clocks k None) d) ≡ with_clock (slice_index_or clocks k None) (slice_index_or query_states k d)
clocked_or [] clocks k d = refl
clocked_or (p ∷ query_states) clocks zero d = refl
clocked_or (p ∷ query_states) clocks (suc k) d = subst (λ c. slice_index_or (with_clocks query_states (drop 1 clocks)) k (with_clock c d) ≡ with_clock c (slice_index_or query_states k d)) (clock_on clocks k) (clocked_or query_states (drop 1 clocks) k d)

pub clocked_drop : (query_states : List Phase) (clocks : List (Option ℤ)) (k : ℕ) → drop k (with_clocks query_states clocks) ≡ with_clocks (drop k query_states) (drop k clocks)
clocked_drop [] clocks zero = refl
clocked_drop [] clocks (suc k) = refl
clocked_drop (p ∷ query_states) clocks zero = refl
clocked_drop (p ∷ query_states) clocks (suc k) = clocked_drop query_states (drop 1 clocks) k ∙ ap (with_clocks (drop k query_states)) (drop_on clocks k)

-- the query state at a place, with its clock
pub clocked_there : (query_states : List Phase) (clocks : List (Option ℤ)) (k : ℕ) (p : Phase) → k < length query_states → p ≡ slice_index_or query_states k p → with_clock (slice_index_or clocks k None) p ≡ slice_index_or (with_clocks query_states clocks) k (with_clock (slice_index_or clocks k None) p)
clocked_there query_states clocks k p inside here =
    let at = clocked_at query_states clocks k p (slice_get-get_or query_states k p inside ∙ ap Some (sym here)) in
    let long = clocked_length query_states clocks in
    let e = slice_get-get_or (with_clocks query_states clocks) k (with_clock (slice_index_or clocks k None) p) (omega arith) in
    (let both = sym at ∙ e in cc)

-- OF ALL

pub clocked_map : {A : Type 0} (f : Phase → A) (query_states : List Phase) (clocks : List (Option ℤ)) → ((c : Option ℤ) (p : Phase) → f (with_clock c p) ≡ f p) → map f (with_clocks query_states clocks) ≡ map f query_states
clocked_map f [] clocks same = refl
clocked_map f (p ∷ query_states) clocks same = ap₂ (λ x xs. x ∷ xs) (same (slice_index_or clocks 0 None) p) (clocked_map f query_states (drop 1 clocks) same)

pub clocked_sum : (f : Phase → ℕ) (query_states : List Phase) (clocks : List (Option ℤ)) → ((c : Option ℤ) (p : Phase) → f (with_clock c p) ≡ f p) → sum_by f (with_clocks query_states clocks) ≡ sum_by f query_states
clocked_sum f [] clocks same = refl
clocked_sum f (p ∷ query_states) clocks same =
    let rest = clocked_sum f query_states (drop 1 clocks) same in
    let head = same (slice_index_or clocks 0 None) p in
    let a = sum_by-cons f (with_clock (slice_index_or clocks 0 None) p) (with_clocks query_states (drop 1 clocks)) in
    let b = sum_by-cons f p query_states in
    omega arith

pub clocked_all : (P Q : Phase → Type 0) (query_states : List Phase) (clocks : List (Option ℤ)) → ((c : Option ℤ) (p : Phase) → P p → Q (with_clock c p)) → All P query_states → All Q (with_clocks query_states clocks)
clocked_all P Q [] clocks so h = All-nil Q
clocked_all P Q (p ∷ query_states) clocks so h =
    All-cons Q (with_clock (slice_index_or clocks 0 None) p) (with_clocks query_states (drop 1 clocks)) (so (slice_index_or clocks 0 None) p (All-head P p query_states h)) (clocked_all P Q query_states (drop 1 clocks) so (All-tail P p query_states h))

pub unclocked_all : (P Q : Phase → Type 0) (query_states : List Phase) (clocks : List (Option ℤ)) → ((c : Option ℤ) (p : Phase) → Q (with_clock c p) → P p) → All Q (with_clocks query_states clocks) → All P query_states
unclocked_all P Q [] clocks so h = All-nil P
unclocked_all P Q (p ∷ query_states) clocks so h =
    All-cons P p query_states (so (slice_index_or clocks 0 None) p (All-head Q (with_clock (slice_index_or clocks 0 None) p) (with_clocks query_states (drop 1 clocks)) h)) (unclocked_all P Q query_states (drop 1 clocks) so (All-tail Q (with_clock (slice_index_or clocks 0 None) p) (with_clocks query_states (drop 1 clocks)) h))

-- the schemas, and what is ready
pub clocked_schemas : (schema : Declared) (query_states : List Phase) (clocks : List (Option ℤ)) → All (λ (p : Phase). p.schema ≡ schema) query_states → All (λ (p : Phase). p.schema ≡ schema) (with_clocks query_states clocks)
clocked_schemas schema query_states clocks = clocked_all (λ (p : Phase). p.schema ≡ schema) (λ (p : Phase). p.schema ≡ schema) query_states clocks (λ c p h. h)

pub unclocked_schemas : (schema : Declared) (query_states : List Phase) (clocks : List (Option ℤ)) → All (λ (p : Phase). p.schema ≡ schema) (with_clocks query_states clocks) → All (λ (p : Phase). p.schema ≡ schema) query_states
unclocked_schemas schema query_states clocks = unclocked_all (λ (p : Phase). p.schema ≡ schema) (λ (p : Phase). p.schema ≡ schema) query_states clocks (λ c p h. h)

pub clocked_idle : (query_states : List Phase) (clocks : List (Option ℤ)) → All IsIdle query_states → All IsIdle (with_clocks query_states clocks)
clocked_idle query_states clocks = clocked_all IsIdle IsIdle query_states clocks (λ c p h. h)

pub unclocked_idle : (query_states : List Phase) (clocks : List (Option ℤ)) → All IsIdle (with_clocks query_states clocks) → All IsIdle query_states
unclocked_idle query_states clocks = unclocked_all IsIdle IsIdle query_states clocks (λ c p h. h)

-- no clock says where a cursor begins
pub same_roots_at : (q : Query) (query_state : QueryState) (c : Option ℤ) → roots_at q (record query_state { clock = c }) ≡ roots_at q query_state
same_roots_at q query_state c = go query_state.here
  where
    go : (here : Option ℕ) → roots_for q (record query_state { clock = c }) here ≡ roots_for q query_state here
    go None = refl
    go (Some n) = refl

pub clocked_quiet : (count : ℕ) (query_states : List Phase) (clocks : List (Option ℤ)) → All (HasNoAnswer count) query_states → All (HasNoAnswer count) (with_clocks query_states clocks)
clocked_quiet count query_states clocks = clocked_all (HasNoAnswer count) (HasNoAnswer count) query_states clocks (λ c p h stale. same_roots_at p.query p.kept c ∙ h stale)

pub unclocked_quiet : (count : ℕ) (query_states : List Phase) (clocks : List (Option ℤ)) → All (HasNoAnswer count) (with_clocks query_states clocks) → All (HasNoAnswer count) query_states
unclocked_quiet count query_states clocks = unclocked_all (HasNoAnswer count) (HasNoAnswer count) query_states clocks (λ c p h stale. sym (same_roots_at p.query p.kept c) ∙ h stale)

pub clocked_answer : (numbers : List ℕ) (query_states : List Phase) (clocks : List (Option ℤ)) → MayAnswer numbers query_states → MayAnswer numbers (with_clocks query_states clocks)
clocked_answer numbers query_states clocks h = record {
  rising = h.rising;
  within = λ n among. (let w = h.within n among in let high = w.1 in let long = clocked_length query_states clocks in (w.0, omega arith));
  others = λ k x at among. (
      let p = clocked_back query_states clocks k x at in
      subst (λ (z : Phase). roots_at z.query z.kept ≡ []) p.2 (same_roots_at p.0.query p.0.kept (slice_index_or clocks k None) ∙ h.others k p.0 p.1 among)
      );
}

-- AFTER EVENTS

-- with its clock it is after the events as it is, so it is with some clock
pub unclocked_stands : (events : List Event) (query_states : List Phase) (clocks : List (Option ℤ)) → All (IsAfter events) (with_clocks query_states clocks) → All (StandsAt events) query_states
unclocked_stands events query_states clocks = unclocked_all (StandsAt events) (IsAfter events) query_states clocks (λ c p h. (c, h))

-- and back, where the clocks are those of the queries
pub clocked_stands : (schema : Declared) (events : List Event) (query_states : List Phase) (clocks : List (Option ℤ)) → All (λ (p : Phase). p.schema ≡ schema) query_states → AreClocksOf schema (map (λ (p : Phase). p.query) query_states) events clocks → All (StandsAt events) query_states → All (IsAfter events) (with_clocks query_states clocks)
clocked_stands schema events query_states clocks schemas are h = all_by (IsAfter events) (with_clocks query_states clocks) (λ k x at. (
    let p = clocked_back query_states clocks k x at in
    let schema_is : p.0.schema ≡ schema = all_at (λ (z : Phase). z.schema ≡ schema) query_states k p.0 schemas p.1 in
    let clock : IsClockOf p.0.schema p.0.query events (slice_index_or clocks k None) = subst (λ s. IsClockOf s p.0.query events (slice_index_or clocks k None)) (sym schema_is) (are k p.0.query (map_at (λ (z : Phase). z.query) query_states k p.0 p.1)) in
    subst (IsAfter events) p.2 (clock_is_given p.0.schema p.0.query events p.0.kept (slice_index_or clocks k None) (all_at (StandsAt events) query_states k p.0 h p.1) clock)
    ))

pub clocks_are : (schema : Declared) (events : List Event) (query_states : List Phase) (clocks : List (Option ℤ)) → All (λ (p : Phase). p.schema ≡ schema) query_states → All (IsAfter events) (with_clocks query_states clocks) → AreClocksOf schema (map (λ (p : Phase). p.query) query_states) events clocks
clocks_are schema events query_states clocks schemas h k q at =
    let p = mapped (λ (z : Phase). z.query) query_states k q at in
    let schema_is : p.0.schema ≡ schema = all_at (λ (z : Phase). z.schema ≡ schema) query_states k p.0 schemas p.1 in
    let stands = all_at (IsAfter events) (with_clocks query_states clocks) k (with_clock (slice_index_or clocks k None) p.0) h (clocked_at query_states clocks k p.0 p.1) in
    subst (λ (z : Query). IsClockOf schema z events (slice_index_or clocks k None)) p.2 (subst (λ s. IsClockOf s p.0.query events (slice_index_or clocks k None)) schema_is (record { some = stands.clock; none = stands.unread }))

-- AN EVENT

grown_one : (event : Event) (o n : Phase) (c d : Option ℤ) → HasGrown event o n → HasGrown event (with_clock c o) (with_clock d n)
grown_one event o n c d h = record {
  schema = h.schema;
  query = h.query;
  grows = record {
    extends = record {
      cea = h.grows.extends.cea;
      more_states = h.grows.extends.more_states;
      states = h.grows.extends.states;
      more_nodes = h.grows.extends.more_nodes;
      nodes = h.grows.extends.nodes;
    };
    growth = h.grows.growth;
    unread = h.grows.unread;
    key = h.grows.key;
    no_key = h.grows.no_key;
  };
}

pub clocked_grown : (event : Event) (old new : List Phase) (clocks later : List (Option ℤ)) → AllZip (HasGrown event) old new → AllZip (HasGrown event) (with_clocks old clocks) (with_clocks new later)
clocked_grown event [] [] clocks later z = tt
clocked_grown event [] (n ∷ new) clocks later z = absurd z
clocked_grown event (o ∷ old) [] clocks later z = absurd z
clocked_grown event (o ∷ old) (n ∷ new) clocks later z = (grown_one event o n (slice_index_or clocks 0 None) (slice_index_or later 0 None) z.0, clocked_grown event old new (drop 1 clocks) (drop 1 later) z.1)

pub unclocked_can : (event : Event) (count : ℕ) (query_states : List Phase) (clocks : List (Option ℤ)) → All (CanPrepare event count) (with_clocks query_states clocks) → All (CanPrepare event count) query_states
unclocked_can event count query_states clocks = unclocked_all (CanPrepare event count) (CanPrepare event count) query_states clocks (λ c p h. record { events = h.events; count = h.count; of_schema = h.of_schema; in_time = h.in_time; stands = h.stands })

unclocked_meets : (events : List Event) (event : Event) (query_states : List Phase) (clocks : List (Option ℤ)) (most : List ℕ) → AllZip (MeetsAtMost events event) (with_clocks query_states clocks) most → AllZip (MeetsAtMost events event) query_states most
unclocked_meets events event [] clocks [] z = tt
unclocked_meets events event [] clocks (m ∷ most) z = absurd z
unclocked_meets events event (p ∷ query_states) clocks [] z = absurd z
unclocked_meets events event (p ∷ query_states) clocks (m ∷ most) z = (z.0, unclocked_meets events event query_states (drop 1 clocks) most z.1)

pub unclocked_bounded : (events : List Event) (event : Event) (query_states : List Phase) (clocks : List (Option ℤ)) (most : List ℕ) → All (IsAfter events) (with_clocks query_states clocks) → All (InTime events event) (with_clocks query_states clocks) → AllZip (MeetsAtMost events event) (with_clocks query_states clocks) most → AreBounded events event query_states most
unclocked_bounded events event query_states clocks most stands in_time each = record {
  in_time = unclocked_all (InTime events event) (InTime events event) query_states clocks (λ c p h. h) in_time;
  stands = unclocked_stands events query_states clocks stands;
  each = unclocked_meets events event query_states clocks most each;
}
