-- What an engine is after an event that all its query states took.
use Rattle.std.proofs.Common.{◌≡◌, ℕ, zero, suc, ◌+◌, ◌-◌, ◌≤◌, ℤ, List, [], ◌∷◌, ◌++◌, map, drop, length, refl, sym, ap, subst, ◌∙◌, All, Option, Some, slice_get, slice_index_or, arith}
use Rattle.std.specs.Prelude.{max, sum_by, Result, Ok, Err, OnOk}
use Rattle.std.proofs.lemmas.List.Elements.{All-weaker, All-map, All-head, All-tail}
use Rattle.std.specs.List.{AllZip, range_with_len}
use Rattle.stream_schema.specs.Types.{Declared}
use Rattle.stream_schema.specs.Events.{IsOfSchema}
use Rattle.stream_schema.specs.declared.Event.{Event}
use Rattle.cel_terms.specs.declared.Query.{Query}
use Rattle.query_standing.specs.Bounds.{update_bound, for_each_query, MeetAtMost}
use Rattle.query_standing.specs.Clocks.{Reads, NoneFallsBack, IsFirstToFall}
use Rattle.query_standing.specs.Kept.{KeptStands}
use Rattle.query_standing.proofs.QueryStates.{length_more}
use Rattle.all_or_none.specs.Phases.{Phase, IsIdle, HasNoAnswer, StandsAt, InTime, CanPrepare, HasGrown, kept_bound, MeetsAtMost, AreBounded}
use Rattle.query_engine.specs.declared.falls.FallOf.{FallOf}
use Rattle.query_engine.specs.Engine.{EngineState, StandsFor, kept_of, found_of, len_of, peak_of, Fits, rest, update_bounds, SameQueries, KeepsCursors}
use Rattle.all_or_none.specs.Dormancy.{phase_at}
use Rattle.all_or_none.proofs.LoopTurn.{all_mapped}
use Rattle.std.proofs.lemmas.List.Sums.{sum_by-cons}
use Rattle.query_engine.specs.Times.{query_states_at, IsAfter, AreClocksOf}
use Rattle.query_engine.specs.Running.{IsRunning, IsKeeping, IsFirst}
use Rattle.query_engine.proofs.Clocked.{clocked_sum, clocked_idle, clocked_quiet, clocked_schemas, unclocked_schemas, unclocked_all, unclocked_stands, clocked_stands, clocks_are, clocked_grown, unclocked_can, unclocked_bounded}
use Rattle.query_engine.proofs.Keeping.{running, seen_schemas, seen_queries, query_states_queries, first_after, first_quiet}
use Rattle.query_engine.proofs.Standing.{state, map_at, all_at, from_query_states, to_query_states, query_states_in_time, queries_in_time, can_all, length_map}
use Rattle.query_engine.proofs.Sums.{zip_from, sum_mapped, bounds_same}
use Rattle.query_engine.proofs.Growth.{grown_there, unread_there, keeps_cursors, same_queries, same_schemas, same_count, nodes_there, nodes_grow}

sum_dormant : (count : ℕ) (query_states : List Phase) → sum_by kept_bound (map (phase_at count) query_states) ≡ sum_by (λ p. kept_bound (phase_at count p)) query_states
sum_dormant count [] = refl
sum_dormant count (p ∷ query_states) =
    let rest = sum_dormant count query_states in
    let a = sum_by-cons kept_bound (phase_at count p) (map (phase_at count) query_states) in
    let b = sum_by-cons (λ x. kept_bound (phase_at count x)) p query_states in
    omega arith

sum_seen : (count : ℕ) (query_states : List Phase) (clocks : List (Option ℤ)) → sum_by kept_bound (query_states_at count query_states clocks) ≡ sum_by (λ p. kept_bound (phase_at count p)) query_states
sum_seen count query_states clocks = clocked_sum kept_bound (map (phase_at count) query_states) clocks (λ c p. refl) ∙ sum_dormant count query_states

max_none : (x n : ℕ) → x ≡ 0 → n ≡ 0 → max x n ≡ 0
max_none x n a b = omega arith

most_of : (x n m : ℕ) → n ≤ m → max x m ≡ max (max x n) m
most_of x n m le = omega arith

-- no clock falls of the engine's queries, whatever the events are
abbrev pub InTimeFor : EngineState → Event → Type 0
InTimeFor s event = (events : List Event) → KeptStands (kept_of s) events → NoneFallsBack s.schema s.queries events event

-- The old query states took the event, and are the new ones. All have their clocks.
pub record Took (schema : Declared) (count : ℕ) (old : List Phase) (ps : List ℕ) (event : Event) (new : List Phase) : Type 0 where
  pub running : IsRunning schema count old ps
  pub time : InTimeFor (state schema count old ps) event
  pub grown : AllZip (HasGrown event) old new
  pub idle : All IsIdle new
  pub quiet : All (HasNoAnswer (count + 1)) new
  pub stands : (events : List Event) → length events ≡ count → All (InTime events event) old → All (IsAfter events) old → All (IsAfter (events ++ event ∷ [])) new

-- the clocks go on with the event
abbrev pub GoOn : Declared → ℕ → List Query → Event → List (Option ℤ) → List (Option ℤ) → Type 0
GoOn schema count queries event clocks later = (events : List Event) → length events ≡ count → AreClocksOf schema queries events clocks → NoneFallsBack schema queries events event → AreClocksOf schema queries (events ++ event ∷ []) later

-- What the call over all query states gives, of query states that have no clocks.
pub record HasSeen (count : ℕ) (event : Event) (mut found : List Phase) : Type 0 where
  pub grown : AllZip (HasGrown event) (map (phase_at count) mut) (map (phase_at (count + 1)) found)
  pub idle : All (λ p. IsIdle (phase_at (count + 1) p)) found
  pub quiet : All (λ p. HasNoAnswer (count + 1) (phase_at (count + 1) p)) found
  pub stands : (events : List Event) → length events ≡ count → All (λ p. InTime events event (phase_at count p)) mut → All (λ p. StandsAt events (phase_at count p)) mut → All (λ p. StandsAt (events ++ event ∷ []) (phase_at (count + 1) p)) found

-- so, with the clocks, the query states stand for the event too
stand_on : (schema : Declared) (count : ℕ) (clocks later : List (Option ℤ)) (mut : List Phase) (event : Event) (found : List Phase) → All (λ (p : Phase). p.schema ≡ schema) (query_states_at count mut clocks) → HasSeen count event mut found → GoOn schema count (map (λ (p : Phase). p.query) mut) event clocks later →
    (events : List Event) → length events ≡ count → All (InTime events event) (query_states_at count mut clocks) → All (IsAfter events) (query_states_at count mut clocks) → All (IsAfter (events ++ event ∷ [])) (query_states_at (count + 1) found later)
stand_on schema count clocks later mut event found schemas seen goes events count_is in_time all =
    let query_states = map (phase_at count) mut in
    let new = map (phase_at (count + 1)) found in
    let plain = unclocked_schemas schema query_states clocks schemas in
    let in_time_plain : All (InTime events event) query_states = unclocked_all (InTime events event) (InTime events event) query_states clocks (λ c p h. h) in_time in
    let new_stand : All (StandsAt (events ++ event ∷ [])) new = All-map (StandsAt (events ++ event ∷ [])) (phase_at (count + 1)) found (seen.stands events count_is (all_mapped (InTime events event) (phase_at count) mut in_time_plain) (all_mapped (StandsAt events) (phase_at count) mut (unclocked_stands events query_states clocks all))) in
    let before : AreClocksOf schema (map (λ (p : Phase). p.query) mut) events clocks = subst (λ (qs : List Query). AreClocksOf schema qs events clocks) (seen_queries count mut) (clocks_are schema events query_states clocks plain all) in
    let none : NoneFallsBack schema (map (λ (p : Phase). p.query) mut) events event = subst (λ (qs : List Query). NoneFallsBack schema qs events event) (query_states_queries count mut clocks) (queries_in_time schema count (query_states_at count mut clocks) [] events event schemas in_time) in
    let after = goes events count_is before none in
    let queries : map (λ (p : Phase). p.query) new ≡ map (λ (p : Phase). p.query) mut = same_queries event query_states new seen.grown ∙ seen_queries count mut in
    clocked_stands schema (events ++ event ∷ []) new later (same_schemas schema event query_states new seen.grown plain) (subst (λ (qs : List Query). AreClocksOf schema qs (events ++ event ∷ []) later) (sym queries) after) new_stand

pub took : (schema : Declared) (count : ℕ) (clocks later : List (Option ℤ)) (old mut : List Phase) (ps : List ℕ) (s : EngineState) (event : Event) (found new : List Phase) → state schema count (query_states_at count old clocks) ps ≡ s → IsKeeping schema count clocks old ps → ((events : List Event) → StandsFor s events → NoneFallsBack s.schema s.queries events event) → mut ≡ old → HasSeen count event mut found → GoOn schema count (map (λ (p : Phase). p.query) old) event clocks later → new ≡ found →
    Took schema count (query_states_at count old clocks) ps event (query_states_at (count + 1) new later)
unfolding StandsFor
took schema count clocks later old mut ps s event found new is keeps time mut_is seen goes new_is =
    let r = running schema count clocks old ps keeps in
    let seen_old : HasSeen count event old found = subst (λ zs. HasSeen count event zs found) mut_is seen in
    subst (λ zs. Took schema count (query_states_at count old clocks) ps event (query_states_at (count + 1) zs later)) (sym new_is) (record {
      running = r;
      time = subst (λ (t : EngineState). InTimeFor t event) (sym is) time;
      grown = clocked_grown event (map (phase_at count) old) (map (phase_at (count + 1)) found) clocks later seen_old.grown;
      idle = clocked_idle (map (phase_at (count + 1)) found) later (All-map IsIdle (phase_at (count + 1)) found seen_old.idle);
      quiet = clocked_quiet (count + 1) (map (phase_at (count + 1)) found) later (All-map (HasNoAnswer (count + 1)) (phase_at (count + 1)) found seen_old.quiet);
      stands = stand_on schema count clocks later old event found r.schemas seen_old goes;
    })

-- before: each query state can take the event
pub can_take : (schema : Declared) (count : ℕ) (clocks : List (Option ℤ)) (old mut : List Phase) (ps : List ℕ) (s : EngineState) (event : Event) → state schema count (query_states_at count old clocks) ps ≡ s → IsKeeping schema count clocks old ps → IsOfSchema s.schema event → ((events : List Event) → StandsFor s events → NoneFallsBack s.schema s.queries events event) → mut ≡ old → All (λ p. CanPrepare event count (phase_at count p)) mut
unfolding StandsFor
can_take schema count clocks old mut ps s event is keeps of time mut_is =
    let r = running schema count clocks old ps keeps in
    subst (All (λ p. CanPrepare event count (phase_at count p))) (sym mut_is) (all_mapped (CanPrepare event count) (phase_at count) old (unclocked_can event count (map (phase_at count) old) clocks (can_all schema count (query_states_at count old clocks) ps event r.run r.schemas (subst (λ (t : EngineState). IsOfSchema t.schema event) (sym is) of) (subst (λ (t : EngineState). InTimeFor t event) (sym is) time))))

-- where the engine stands for events its clocks are theirs
pub engine_clocks : (schema : Declared) (count : ℕ) (clocks : List (Option ℤ)) (query_states : List Phase) (ps : List ℕ) (events : List Event) → IsKeeping schema count clocks query_states ps → KeptStands (kept_of (state schema count (query_states_at count query_states clocks) ps)) events → AreClocksOf schema (map (λ (p : Phase). p.query) query_states) events clocks
engine_clocks schema count clocks query_states ps events keeps stands =
    let r = running schema count clocks query_states ps keeps in
    subst (λ (qs : List Query). AreClocksOf schema qs events clocks) (seen_queries count query_states) (clocks_are schema events (map (phase_at count) query_states) clocks (unclocked_schemas schema (map (phase_at count) query_states) clocks r.schemas) (to_query_states schema count (query_states_at count query_states clocks) ps events r.schemas stands))

module _ (schema : Declared) (count : ℕ) (old : List Phase) (ps : List ℕ) (event : Event) (new : List Phase) (t : Took schema count old ps event new) (s : EngineState) (is : state schema count old ps ≡ s) where
  abbrev after : EngineState
  after = state schema (count + 1) new ps

  pub new_schemas : All (λ (p : Phase). p.schema ≡ schema) new
  new_schemas = same_schemas schema event old new t.grown t.running.schemas

  stand_more : (events : List Event) → length events ≡ count → All (IsAfter events) old → All (IsAfter (events ++ event ∷ [])) new
  stand_more events same all = t.stands events same (query_states_in_time schema count old ps events event t.running.schemas (t.time events (from_query_states schema count old ps events t.running.schemas same all))) all

  pub took_running : IsRunning schema (count + 1) new ps
  took_running = record {
    schemas = new_schemas;
    idle = t.idle;
    run = record {
      events = t.running.run.events ++ event ∷ [];
      length_is = length_more t.running.run.events event ∙ ap (λ n. n + 1) t.running.run.length_is;
      stands = stand_more t.running.run.events t.running.run.length_is t.running.run.stands;
    };
    quiet = t.quiet;
    peaks_are = t.running.peaks_are ∙ sym (same_count event old new t.grown);
  }

  pub took_stands : (events : List Event) → StandsFor s events → StandsFor after (events ++ event ∷ [])
  unfolding StandsFor
  took_stands = subst (λ (z : EngineState). (events : List Event) → KeptStands (kept_of z) events → KeptStands (kept_of after) (events ++ event ∷ [])) is (λ events stands.
      from_query_states schema (count + 1) new ps (events ++ event ∷ []) new_schemas (length_more events event ∙ ap (λ n. n + 1) (sym stands.count)) (stand_more events (sym stands.count) (to_query_states schema count old ps events t.running.schemas stands)))

  pub took_cursors : KeepsCursors s after
  unfolding Fits rest
  took_cursors = subst (λ (z : EngineState). KeepsCursors z after) is (λ c fits. keeps_cursors schema event count (count + 1) old new ps ps t.grown c fits)

  pub took_same : SameQueries s after
  took_same = subst (λ (z : EngineState). SameQueries z after) is (refl, same_queries event old new t.grown)

  pub took_growth : (query : ℕ) → len_of after query ≤ len_of s query + update_bound (found_of after query)
  unfolding len_of found_of
  took_growth query = subst (λ (z : EngineState). len_of after query ≤ len_of z query + update_bound (found_of after query)) is (grown_there event old new (query - 1) t.grown)

  pub took_unread : (k : ℕ) (q : Query) → slice_get s.queries k ≡ Some q → (Reads s.schema q event → ⊥) → len_of after (k + 1) ≡ len_of s (k + 1)
  unfolding len_of
  took_unread = subst (λ (z : EngineState). (k : ℕ) (q : Query) → slice_get z.queries k ≡ Some q → (Reads z.schema q event → ⊥) → len_of after (k + 1) ≡ len_of z (k + 1)) is (λ k q at unread.
      (let here : k ≡ k + 1 - 1 = omega arith in unread_there schema event old new (k + 1 - 1) q t.grown t.running.schemas (subst (λ i. slice_get (map (λ (p : Phase). p.query) old) i ≡ Some q) here at) unread))

  pub took_peak : (query : ℕ) → peak_of after query ≡ max (peak_of s query) (len_of after query)
  unfolding peak_of len_of
  took_peak query = subst (λ (z : EngineState). peak_of after query ≡ max (peak_of z query) (len_of after query)) is (
      let more = nodes_grow event old new (query - 1) t.grown in
      most_of (slice_index_or ps (query - 1) 0) (nodes_there old (query - 1)) (nodes_there new (query - 1)) more)

-- by what is kept, the steps are bounded as the clause says
pub steps_within : (schema : Declared) (count : ℕ) (clocks : List (Option ℤ)) (found new : List Phase) (ps : List ℕ) (before after : ℕ) → new ≡ found → after ≤ before + sum_by (λ p. kept_bound (phase_at count p)) found → after ≤ before + update_bounds (state schema count (query_states_at count new clocks) ps)
unfolding found_of
steps_within schema count clocks found new ps before after same le =
    let e = bounds_same (query_states_at count new clocks) in
    let f = sum_seen count new clocks in
    let g = ap (sum_by (λ p. kept_bound (phase_at count p))) same in
    omega arith

-- however many states the runs lead to
pub steps_wanted : (schema : Declared) (count : ℕ) (clocks : List (Option ℤ)) (raw mut : List Phase) (ps : List ℕ) (s : EngineState) (event : Event) (before after : ℕ) → state schema count (query_states_at count raw clocks) ps ≡ s → IsKeeping schema count clocks raw ps → ((events : List Event) → StandsFor s events → NoneFallsBack s.schema s.queries events event) → mut ≡ raw → ((events : List Event) (most : List ℕ) → length events ≡ count → AreBounded events event (map (phase_at count) mut) most → after ≤ before + sum_by update_bound most) → (events : List Event) (most : ℕ → ℕ) → StandsFor s events → ((k : ℕ) (q : Query) → slice_get s.queries k ≡ Some q → MeetAtMost s.schema q (events ++ event ∷ []) (most (k + 1))) → after ≤ before + for_each_query (length s.queries) (λ k. update_bound (most k))
unfolding StandsFor
steps_wanted schema count clocks raw mut ps s event before after is keeps time mut_is within =
    subst (λ (z : EngineState). InTimeFor z event → (events : List Event) (most : ℕ → ℕ) → KeptStands (kept_of z) events → ((k : ℕ) (q : Query) → slice_get z.queries k ≡ Some q → MeetAtMost z.schema q (events ++ event ∷ []) (most (k + 1))) → after ≤ before + for_each_query (length z.queries) (λ k. update_bound (most k))) is wanted time
  where
    wanted : InTimeFor (state schema count (query_states_at count raw clocks) ps) event → (events : List Event) (most : ℕ → ℕ) → KeptStands (kept_of (state schema count (query_states_at count raw clocks) ps)) events → ((k : ℕ) (q : Query) → slice_get (map (λ (p : Phase). p.query) (query_states_at count raw clocks)) k ≡ Some q → MeetAtMost schema q (events ++ event ∷ []) (most (k + 1))) → after ≤ before + for_each_query (length (map (λ (p : Phase). p.query) (query_states_at count raw clocks))) (λ k. update_bound (most k))
    wanted none events most stands few =
        let runs = running schema count clocks raw ps keeps in
        let all = to_query_states schema count (query_states_at count raw clocks) ps events runs.schemas stands in
        let each : AllZip (MeetsAtMost events event) (query_states_at count raw clocks) (map most (range_with_len 1 (length (query_states_at count raw clocks)))) = zip_from (MeetsAtMost events event) most (query_states_at count raw clocks) 1 (λ j p at. (
        let schema_is = all_at (λ (p : Phase). p.schema ≡ schema) (query_states_at count raw clocks) j p runs.schemas at in
        let next : j + 1 ≡ 1 + j = omega arith in
        subst (λ n. MeetAtMost p.schema p.query (events ++ event ∷ []) (most n)) next (subst (λ z. MeetAtMost z p.query (events ++ event ∷ []) (most (j + 1))) (sym schema_is) (few j p.query (map_at (λ (p : Phase). p.query) (query_states_at count raw clocks) j p at)))
        )) in
        let bounded = unclocked_bounded events event (map (phase_at count) raw) clocks (map most (range_with_len 1 (length (query_states_at count raw clocks)))) all (query_states_in_time schema count (query_states_at count raw clocks) ps events event runs.schemas (none events stands)) each in
        let le = within events (map most (range_with_len 1 (length (query_states_at count raw clocks)))) (sym stands.count) (subst (λ zs. AreBounded events event (map (phase_at count) zs) (map most (range_with_len 1 (length (query_states_at count raw clocks))))) (sym mut_is) bounded) in
        let sums : sum_by update_bound (map most (range_with_len 1 (length (query_states_at count raw clocks)))) ≡ for_each_query (length (query_states_at count raw clocks)) (λ k. update_bound (most k)) = sum_mapped update_bound most (range_with_len 1 (length (query_states_at count raw clocks))) in
        let many = ap (λ n. for_each_query n (λ k. update_bound (most k))) (length_map (λ (p : Phase). p.query) (query_states_at count raw clocks)) in
        omega arith

-- the first group that falls has the first query that does
pub falls_first : (schema : Declared) (count : ℕ) (clocks : List (Option ℤ)) (query_states : List Phase) (ps : List ℕ) (s : EngineState) (event : Event) (f : FallOf) → state schema count (query_states_at count query_states clocks) ps ≡ s → IsKeeping schema count clocks query_states ps → ((events : List Event) → length events ≡ count → AreClocksOf schema (map (λ (p : Phase). p.query) query_states) events clocks → IsFirstToFall schema (map (λ (p : Phase). p.query) query_states) events event f.query f.before f.now) → (events : List Event) → StandsFor s events → IsFirstToFall s.schema s.queries events event f.query f.before f.now
unfolding StandsFor
falls_first schema count clocks query_states ps s event f is keeps first =
    subst (λ (z : EngineState). (events : List Event) → KeptStands (kept_of z) events → IsFirstToFall z.schema z.queries events event f.query f.before f.now) is (λ events stands.
    subst (λ (qs : List Query). IsFirstToFall schema qs events event f.query f.before f.now) (sym (query_states_queries count query_states clocks)) (first events (sym stands.count) (engine_clocks schema count clocks query_states ps events keeps stands)))

-- where no group falls, no query does
pub none_first : (schema : Declared) (count : ℕ) (clocks : List (Option ℤ)) (query_states : List Phase) (ps : List ℕ) (s : EngineState) (event : Event) → state schema count (query_states_at count query_states clocks) ps ≡ s → IsKeeping schema count clocks query_states ps → ((events : List Event) → length events ≡ count → AreClocksOf schema (map (λ (p : Phase). p.query) query_states) events clocks → NoneFallsBack schema (map (λ (p : Phase). p.query) query_states) events event) → (events : List Event) → StandsFor s events → NoneFallsBack s.schema s.queries events event
unfolding StandsFor
none_first schema count clocks query_states ps s event is keeps none =
    subst (λ (z : EngineState). InTimeFor z event) is (λ events stands.
    subst (λ (qs : List Query). NoneFallsBack schema qs events event) (sym (query_states_queries count query_states clocks)) (none events (sym stands.count) (engine_clocks schema count clocks query_states ps events keeps stands)))

-- what holds in any case
pub ok_then : {A E : Type 0} (r : Result A E) (P : Type 0) → P → OnOk r P
ok_then (Ok x) P p = p
ok_then (Err e) P p = tt

-- before any event
pub first_keeps : (schema : Declared) (clocks : List (Option ℤ)) (query_states : List Phase) (peaks : List ℕ) → All (IsFirst schema) query_states → AreClocksOf schema (map (λ (p : Phase). p.query) query_states) [] clocks → length peaks ≡ length query_states → IsKeeping schema 0 clocks query_states peaks
first_keeps schema clocks query_states peaks first are long = record {
  schemas = All-weaker (IsFirst schema) (λ (p : Phase). p.schema ≡ schema) (λ p f. f.schema_is) query_states first;
  idle = All-weaker (IsFirst schema) IsIdle (λ p f. f.idle) query_states first;
  run = record { events = []; length_is = refl; stands = first_after schema query_states clocks first are };
  quiet = first_quiet schema query_states first;
  peaks_are = long;
}

pub first_stands : (schema : Declared) (clocks : List (Option ℤ)) (query_states : List Phase) (peaks : List ℕ) → All (IsFirst schema) query_states → AreClocksOf schema (map (λ (p : Phase). p.query) query_states) [] clocks → StandsFor (state schema 0 (query_states_at 0 query_states clocks) peaks) []
unfolding StandsFor
first_stands schema clocks query_states peaks first are =
    from_query_states schema 0 (query_states_at 0 query_states clocks) peaks [] (clocked_schemas schema (map (phase_at 0) query_states) clocks (seen_schemas schema (phase_at 0) query_states (λ p. refl) (All-weaker (IsFirst schema) (λ (p : Phase). p.schema ≡ schema) (λ p f. f.schema_is) query_states first))) refl (first_after schema query_states clocks first are)

no_nodes_yet : (schema : Declared) (query_states : List Phase) (clocks : List (Option ℤ)) (k : ℕ) → All (IsFirst schema) query_states → nodes_there (query_states_at 0 query_states clocks) k ≡ 0
no_nodes_yet schema [] clocks k h = refl
no_nodes_yet schema (p ∷ query_states) clocks zero h = ap length (All-head (IsFirst schema) p query_states h).none
no_nodes_yet schema (p ∷ query_states) clocks (suc k) h = no_nodes_yet schema query_states (drop 1 clocks) k (All-tail (IsFirst schema) p query_states h)

pub first_peaks : (schema : Declared) (clocks : List (Option ℤ)) (query_states : List Phase) (peaks : List ℕ) → All (IsFirst schema) query_states → ((k : ℕ) → slice_index_or peaks k 0 ≡ 0) → (query : ℕ) → peak_of (state schema 0 (query_states_at 0 query_states clocks) peaks) query ≡ 0
unfolding peak_of
first_peaks schema clocks query_states peaks first zero_peaks query =
    let a = zero_peaks (query - 1) in
    let b = no_nodes_yet schema query_states clocks (query - 1) first in
    max_none (slice_index_or peaks (query - 1) 0) (nodes_there (query_states_at 0 query_states clocks) (query - 1)) a b
