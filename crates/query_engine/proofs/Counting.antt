-- Steps by the states that the runs over all events meet. For callers of the crate too.
use Rattle.std.proofs.Common.{◌≡◌, ℕ, zero, suc, ◌+◌, ◌-◌, ◌*◌, ◌^◌, ◌<◌, ◌≤◌, List, [], ◌∷◌, ◌++◌, map, length, refl, sym, ap, subst, ◌∙◌, Option, Some, None, Result, Ok, Err, slice_get, arith, add-zero, append_assoc, pow-suc}
use Rattle.std.specs.Prelude.{sum}
use Rattle.std.specs.Option.{option_map_or}
use Rattle.std.specs.List.{range_with_len}
use Rattle.std.proofs.Math.Nat.{mul-le-mul_left, pow-zero}
use Rattle.std.proofs.lemmas.List.Sums.{sum_by-cons}
use Rattle.std.proofs.lemmas.List.Elements.{All-weaker}
use Rattle.stream_schema.specs.Types.{Declared}
use Rattle.stream_schema.specs.declared.Event.{Event}
use Rattle.cel_terms.specs.declared.Query.{Query}
use Rattle.cea_determinise.specs.Strict.{Standing}
use Rattle.query_standing.specs.Bounds.{update_bound, for_each_query, IsMet, MeetAtMost}
use Rattle.query_standing.specs.Kept.{QueryState, KeptState, KeptStands}
use Rattle.query_standing.proofs.FoundStates.{states_are_met}
use Rattle.query_engine.specs.declared.fault.SeeFault.{SeeFault}
use Rattle.query_engine.specs.declared.fault.SeeFault.TheVariants.{TimeBack, Memory}
use Rattle.query_engine.specs.Engine.{EngineState, StandsFor, found_of, kept_of, update_bounds, OnWant}
use Rattle.query_engine.specs.Counts.{MeetMost, event_bound, cursor_bound, cursor_bounds}

-- SUMS OVER THE QUERIES

sum_cons : (n : ℕ) (ns : List ℕ) → sum (n ∷ ns) ≡ n + sum ns
sum_cons n ns = sum_by-cons (λ (n : ℕ). n) n ns

sum_le : (n a : ℕ) (f g : ℕ → ℕ) → ((j : ℕ) → j < n → f (a + j) ≤ g (a + j)) → sum (map f (range_with_len a n)) ≤ sum (map g (range_with_len a n))
sum_le zero a f g each = omega arith
sum_le (suc n) a f g each =
    let here : f a ≤ g a = subst (λ (i : ℕ). f i ≤ g i) (add-zero a) (each 0 (omega arith)) in
    let at : (j : ℕ) → a + suc j ≡ a + 1 + j = λ j. omega arith in
    let rest = sum_le n (a + 1) f g (λ j less. subst (λ (i : ℕ). f i ≤ g i) (at j) (each (suc j) (omega arith))) in
    omega (arith, here, rest, sum_cons (f a) (map f (range_with_len (a + 1) n)), sum_cons (g a) (map g (range_with_len (a + 1) n)))

sum_plus : (n a : ℕ) (f g h : ℕ → ℕ) → ((j : ℕ) → h j ≡ f j + g j) → sum (map h (range_with_len a n)) ≡ sum (map f (range_with_len a n)) + sum (map g (range_with_len a n))
sum_plus zero a f g h each = omega arith
sum_plus (suc n) a f g h each =
    let rest = sum_plus n (a + 1) f g h each in
    omega (arith, each a, rest, sum_cons (f a) (map f (range_with_len (a + 1) n)), sum_cons (g a) (map g (range_with_len (a + 1) n)), sum_cons (h a) (map h (range_with_len (a + 1) n)))

sum_last : (n a : ℕ) (f : ℕ → ℕ) → sum (map f (range_with_len a (suc n))) ≡ sum (map f (range_with_len a n)) + f (a + n)
sum_last zero a f =
    let at : f a ≡ f (a + 0) = ap f (sym (add-zero a)) in
    omega (arith, at, sum_cons (f a) [])
sum_last (suc n) a f =
    let rest = sum_last n (a + 1) f in
    let at : f (a + 1 + n) ≡ f (a + suc n) = ap f (omega arith) in
    omega (arith, rest, at, sum_cons (f a) (map f (range_with_len (a + 1) n)), sum_cons (f a) (map f (range_with_len (a + 1) (suc n))))

-- no more for each is no more in all
pub each_at_most : (n : ℕ) (f g : ℕ → ℕ) → ((j : ℕ) → j < n → f (j + 1) ≤ g (j + 1)) → for_each_query n f ≤ for_each_query n g
each_at_most n f g each =
    let at : (j : ℕ) → j + 1 ≡ 1 + j = λ j. omega arith in
    sum_le n 1 f g (λ j less. subst (λ (i : ℕ). f i ≤ g i) (at j) (each j less))

-- two costs of each
pub each_of_both : (n : ℕ) (f g h : ℕ → ℕ) → ((j : ℕ) → h j ≡ f j + g j) → for_each_query n h ≡ for_each_query n f + for_each_query n g
each_of_both n f g h each = sum_plus n 1 f g h each

-- one query more
pub one_query_more : (n : ℕ) (f : ℕ → ℕ) → for_each_query (n + 1) f ≡ for_each_query n f + f (n + 1)
one_query_more n f =
    let more : n + 1 ≡ suc n = omega arith in
    let last : f (1 + n) ≡ f (n + 1) = ap f (omega arith) in
    ap (λ (m : ℕ). for_each_query m f) more ∙ (sum_last n 1 f ∙ ap (λ (x : ℕ). for_each_query n f + x) last)

-- the first queries cost no more than all
pub fewer_queries : (k n : ℕ) (f : ℕ → ℕ) → for_each_query k f ≤ for_each_query (k + n) f
fewer_queries k zero f = let same : k ≡ k + 0 = omega arith in subst (λ (m : ℕ). for_each_query k f ≤ for_each_query m f) same (omega arith)
fewer_queries k (suc n) f =
    let rest = fewer_queries k n f in
    let at : (k + n) + 1 ≡ k + suc n = omega arith in
    subst (λ (m : ℕ). for_each_query k f ≤ for_each_query m f) at (omega (arith, rest, one_query_more (k + n) f))

-- THE BOUND OF A QUERY

pub square : (n : ℕ) → n ^ 2 ≡ n * n
square n = pow-suc n 1 ∙ (ap (λ (z : ℕ). z * n) (pow-suc n 0 ∙ (ap (λ (z : ℕ). z * n) (pow-zero n) ∙ omega arith)))

pub bound_grows : (m n : ℕ) → m ≤ n → update_bound m ≤ update_bound n
bound_grows m n less =
    let more : m + 2 ≤ n + 2 = omega arith in
    let one : (m + 2) * (m + 2) ≤ (m + 2) * (n + 2) = mul-le-mul_left (m + 2) more in
    let two : (n + 2) * (m + 2) ≤ (n + 2) * (n + 2) = mul-le-mul_left (n + 2) more in
    omega (arith, one, two, square (m + 2), square (n + 2))

-- WHAT WAS FOUND

found_kept : (e : KeptState) (events : List Event) (k : ℕ) (q : Query) (n : ℕ) → KeptStands e events → slice_get e.queries k ≡ Some q → MeetAtMost e.schema q events n → (o : Option QueryState) → slice_get e.query_states k ≡ o →
    option_map_or (λ (p : QueryState). length p.table.states) o 0 ≤ n
found_kept e events k q n stands at most None is = omega arith
found_kept e events k q n stands at most (Some p) is = states_are_met e.schema q events p n (stands.each k q p at is) most

pub found_are_met : (engine : EngineState) (events : List Event) (k : ℕ) (q : Query) (n : ℕ) → StandsFor engine events → slice_get engine.queries k ≡ Some q → MeetAtMost engine.schema q events n → found_of engine (k + 1) ≤ n
unfolding StandsFor found_of
found_are_met engine events k q n stands at most =
    let here : k ≡ k + 1 - 1 = omega arith in
    subst (λ (i : ℕ). option_map_or (λ (p : QueryState). length p.table.states) (slice_get engine.query_states i) 0 ≤ n) here
    (found_kept (kept_of engine) events k q n stands at most (slice_get engine.query_states k) refl)

-- what a run over the first events meets, one over all does
still_met : (schema : Declared) (q : Query) (events more : List Event) (state : Standing) → IsMet schema q events state → IsMet schema q (events ++ more) state
still_met schema q events more state h = record {
  first = h.first;
  later = h.later ++ more;
  whole = ap (λ (l : List Event). l ++ more) h.whole ∙ append_assoc h.first h.later more;
  end = h.end;
  positions = h.positions;
  lists = h.lists;
  start = h.start;
  marks = h.marks;
  leads = h.leads;
}

meet_fewer : (schema : Declared) (q : Query) (events more : List Event) (n : ℕ) → MeetAtMost schema q (events ++ more) n → MeetAtMost schema q events n
meet_fewer schema q events more n most states once met =
    most states once (All-weaker (IsMet schema q events) (IsMet schema q (events ++ more)) (λ s h. still_met schema q events more s h) states met)

pub first_meet_fewer : (schema : Declared) (queries : List Query) (events more : List Event) (most : ℕ → ℕ) → MeetMost schema queries (events ++ more) most → MeetMost schema queries events most
first_meet_fewer schema queries events more most meet k q at = meet_fewer schema q events more (most (k + 1)) (meet k q at)

-- AN EVENT

pub query_at : (xs : List Query) (k : ℕ) → k < length xs → (q : Query) × (slice_get xs k ≡ Some q)
query_at [] k within = absurd (omega arith)
query_at (x ∷ xs) zero within = (x, refl)
query_at (x ∷ xs) (suc k) within = query_at xs k (omega arith)

found_bound : (engine : EngineState) (events : List Event) (most : ℕ → ℕ) → StandsFor engine events → MeetMost engine.schema engine.queries events most → (j : ℕ) → j < length engine.queries → update_bound (found_of engine (j + 1)) ≤ update_bound (most (j + 1))
found_bound engine events most stands meet j less =
    let asked = query_at engine.queries j less in
    bound_grows (found_of engine (j + 1)) (most (j + 1)) (found_are_met engine events j asked.0 (most (j + 1)) stands asked.1 (meet j asked.0 asked.1))

pub event_is_bounded : (engine : EngineState) (events : List Event) (most : ℕ → ℕ) → StandsFor engine events → MeetMost engine.schema engine.queries events most → update_bounds engine + cursor_bounds engine ≤ event_bound (length engine.queries) most
event_is_bounded engine events most stands meet =
    let n = length engine.queries in
    let bound = found_bound engine events most stands meet in
    let taken = each_at_most n (λ k. update_bound (found_of engine k)) (λ k. update_bound (most k)) bound in
    let opened = each_at_most n (cursor_bound engine) (λ k. update_bound (most k) + 1) (λ j less. let b = bound j less in omega arith) in
    let both = each_of_both n (λ k. update_bound (most k)) (λ k. update_bound (most k) + 1) (λ k. 2 * update_bound (most k) + 1) (λ j. omega arith) in
    omega arith

-- an event that could not be taken took no more either
pub refused_is_bounded : (n : ℕ) (most : ℕ → ℕ) → for_each_query n (λ k. update_bound (most k)) ≤ event_bound n most
refused_is_bounded n most = each_at_most n (λ k. update_bound (most k)) (λ k. 2 * update_bound (most k) + 1) (λ j less. omega arith)

-- a fact of an event, where memory ran out too
pub want_then : (r : Result ℕ SeeFault) (P : Type 0) → P → OnWant r P
want_then (Ok x) P p = tt
want_then (Err Memory) P p = p
want_then (Err (TimeBack query before now)) P p = tt
