-- What an engine is after its query states are compacted, or those of them that are chosen.
use Rattle.std.proofs.Common.{◌≡◌, ℕ, zero, suc, ◌+◌, ◌-◌, ◌*◌, ◌<◌, ◌≤◌, ℤ, Bool, cond, List, [], ◌∷◌, map, length, get_or, slice_index_or, add-zero, refl, sym, ap, ap₂, subst, ◌∙◌, All, Option, Some, slice_get, arith}
use Rattle.std.specs.Prelude.{sum, max}
use Rattle.std.specs.List.{AllZip, range_with_len}
use Rattle.std.proofs.lemmas.List.Sums.{sum_by-cons}
use Rattle.std.specs.Option.{option_map_or}
use Rattle.std.proofs.lemmas.Option.{slice_get_within}
use Rattle.std.proofs.lemmas.List.Elements.{All-nil, All-cons, All-head, All-tail}
use Rattle.stream_schema.specs.Types.{Declared}
use Rattle.stream_schema.specs.declared.Event.{Event}
use Rattle.cel_terms.specs.declared.Query.{Query}
use Rattle.tecs_enumerate.specs.Remaining.{CursorState}
use Rattle.tecs_enumerate.specs.Remaining as walks
use Rattle.query_standing.specs.Kept.{QueryState, KeptStands}
use Rattle.query_standing.specs.Bounds.{for_each_query}
use Rattle.all_or_none.specs.Phases.{Phase, IsIdle, HasNoAnswer}
use Rattle.all_or_none.specs.Dormancy.{phase_at}
use Rattle.query_state.specs.QueryStates.{woken}
use Rattle.query_state.specs.Matches.{HasStatesOnce}
use Rattle.arena_compact.specs.Roots.{places}
use Rattle.query_engine.specs.Engine.{EngineState, StandsFor, kept_of, count_of, found_of, len_of, peak_of, Fits, rest, SameQueries, IsKept}
use Rattle.query_engine.specs.Running.{IsRunning, IsKeeping, raised}
use Rattle.query_engine.proofs.Growth.{nodes_there, raised_there, raised_count}
use Rattle.query_engine.specs.Times.{with_clocks, query_states_at, IsAfter}
use Rattle.query_engine.proofs.Clocked.{clocked_all, unclocked_all, clocked_quiet, unclocked_idle, unclocked_stands}
use Rattle.query_engine.proofs.Keeping.{seen_length, fresh_all, fresh_quiet, woken_upto, woken_at, woken_running, woken_state, raised_seen}
use Rattle.query_engine.specs.Compacting.{is_chosen, places_of, chosen_bounds, cost, cost_of, CanCompact, HaveRoom, IsCompacted, nodes_of, FitsQueryState, IsTrimmed, AreTrimmed, AreOnce, OthersStay, IsLeftOf, OthersAreKept, AreCarried}
use Rattle.query_engine.proofs.Standing.{state, mapped, map_at, from_query_states, to_query_states, length_map}
use Rattle.query_engine.proofs.FewNodes.{AreOnceOf}

zip_count : (old new : List Phase) → AllZip IsCompacted old new → length new ≡ length old
zip_count [] [] z = refl
zip_count [] (n ∷ new) z = absurd z
zip_count (o ∷ old) [] z = absurd z
zip_count (o ∷ old) (n ∷ new) z = ap suc (zip_count old new z.1)

pub zip_queries : (old new : List Phase) → AllZip IsCompacted old new → map (λ (p : Phase). p.query) new ≡ map (λ (p : Phase). p.query) old
zip_queries [] [] z = refl
zip_queries [] (n ∷ new) z = absurd z
zip_queries (o ∷ old) [] z = absurd z
zip_queries (o ∷ old) (n ∷ new) z = ap₂ (λ a b. a ∷ b) z.0.query (zip_queries old new z.1)

zip_schemas : (schema : Declared) (old new : List Phase) → AllZip IsCompacted old new → All (λ (p : Phase). p.schema ≡ schema) old → All (λ (p : Phase). p.schema ≡ schema) new
zip_schemas schema [] [] z h = All-nil (λ (p : Phase). p.schema ≡ schema)
zip_schemas schema [] (n ∷ new) z h = absurd z
zip_schemas schema (o ∷ old) [] z h = absurd z
zip_schemas schema (o ∷ old) (n ∷ new) z h = All-cons (λ (p : Phase). p.schema ≡ schema) n new (z.0.schema ∙ All-head (λ (p : Phase). p.schema ≡ schema) o old h) (zip_schemas schema old new z.1 (All-tail (λ (p : Phase). p.schema ≡ schema) o old h))

zip_idle : (old new : List Phase) → AllZip IsCompacted old new → All IsIdle new
zip_idle [] [] z = All-nil IsIdle
zip_idle [] (n ∷ new) z = absurd z
zip_idle (o ∷ old) [] z = absurd z
zip_idle (o ∷ old) (n ∷ new) z = All-cons IsIdle n new z.0.idle (zip_idle old new z.1)

zip_stand : (events : List Event) (old new : List Phase) → AllZip IsCompacted old new → All (IsAfter events) old → All (IsAfter events) new
zip_stand events [] [] z h = All-nil (IsAfter events)
zip_stand events [] (n ∷ new) z h = absurd z
zip_stand events (o ∷ old) [] z h = absurd z
zip_stand events (o ∷ old) (n ∷ new) z h = All-cons (IsAfter events) n new (z.0.stands events (All-head (IsAfter events) o old h)) (zip_stand events old new z.1 (All-tail (IsAfter events) o old h))

zip_found : (old new : List Phase) (k : ℕ) → AllZip IsCompacted old new → option_map_or (λ (p : QueryState). length p.table.states) (slice_get (map (λ (p : Phase). p.kept) new) k) 0 ≡ option_map_or (λ (p : QueryState). length p.table.states) (slice_get (map (λ (p : Phase). p.kept) old) k) 0
zip_found [] [] k z = refl
zip_found [] (n ∷ new) k z = absurd z
zip_found (o ∷ old) [] k z = absurd z
zip_found (o ∷ old) (n ∷ new) zero z = ap (λ t. length t.states) z.0.table
zip_found (o ∷ old) (n ∷ new) (suc k) z = zip_found old new k z.1

zip_fewer : (old new : List Phase) (k : ℕ) → AllZip IsCompacted old new → option_map_or (λ (p : QueryState). length p.nodes) (slice_get (map (λ (p : Phase). p.kept) new) k) 0 ≤ option_map_or (λ (p : QueryState). length p.nodes) (slice_get (map (λ (p : Phase). p.kept) old) k) 0
zip_fewer [] [] k z = omega arith
zip_fewer [] (n ∷ new) k z = absurd z
zip_fewer (o ∷ old) [] k z = absurd z
zip_fewer (o ∷ old) (n ∷ new) zero z = z.0.fewer
zip_fewer (o ∷ old) (n ∷ new) (suc k) z = zip_fewer old new k z.1

-- the steps of those that are chosen, summed over the query states or over the queries' numbers
chosen_from : (chosen : List Bool) (f : ℕ → ℕ) (query_states : List Phase) (a : ℕ) → ((j : ℕ) (p : Phase) → slice_get query_states j ≡ Some p → f (a + j) ≡ cond (is_chosen chosen j) (cost p) 0) → sum (map f (range_with_len a (length query_states))) ≡ cost_of chosen query_states
chosen_from chosen f [] a is = refl
chosen_from [] f (p ∷ query_states) a is =
    let head : f a ≡ 0 = ap f (sym (add-zero a)) ∙ is 0 p refl in
    let rest = chosen_from [] f query_states (a + 1) (λ j y at. ap f (omega arith) ∙ is (suc j) y at) in
    let none : cost_of [] query_states ≡ 0 = nothing query_states in
    let one = sum_by-cons (λ (n : ℕ). n) (f a) (map f (range_with_len (a + 1) (length query_states))) in
    omega arith
  where
    nothing : (query_states : List Phase) → cost_of [] query_states ≡ 0
    nothing [] = refl
    nothing (p ∷ query_states) = refl
chosen_from (flag ∷ chosen) f (p ∷ query_states) a is =
    let head : f a ≡ cond flag (cost p) 0 = ap f (sym (add-zero a)) ∙ is 0 p refl in
    let rest = chosen_from chosen f query_states (a + 1) (λ j y at. ap f (omega arith) ∙ is (suc j) y at) in
    let one = sum_by-cons (λ (n : ℕ). n) (f a) (map f (range_with_len (a + 1) (length query_states))) in
    omega arith

costs_same : (chosen : List Bool) (schema : Declared) (count : ℕ) (query_states : List Phase) (ps : List ℕ) → chosen_bounds chosen (state schema count query_states ps) ≡ cost_of chosen query_states
unfolding len_of places_of
costs_same chosen schema count query_states ps =
    ap (λ n. for_each_query n each_cost) (length_map (λ (p : Phase). p.query) query_states) ∙ chosen_from chosen each_cost query_states 1 each
  where
    of_query_state : ℕ → ℕ
    of_query_state i = 8 * option_map_or (λ (p : QueryState). length p.nodes) (slice_get (map (λ (p : Phase). p.kept) query_states) i) 0 + 4 * option_map_or (λ (p : QueryState). places p.rows) (slice_get (map (λ (p : Phase). p.kept) query_states) i) 0

    each_cost : ℕ → ℕ
    each_cost k = cond (is_chosen chosen (k - 1)) (of_query_state (k - 1)) 0

    each : (j : ℕ) (p : Phase) → slice_get query_states j ≡ Some p → each_cost (1 + j) ≡ cond (is_chosen chosen j) (cost p) 0
    each j p at =
        let here : 1 + j - 1 ≡ j = omega arith in
        let there = map_at (λ (x : Phase). x.kept) query_states j p at in
        ap (λ i. cond (is_chosen chosen i) (of_query_state i) 0) here
        ∙ ap (λ o. cond (is_chosen chosen j) (8 * option_map_or (λ (x : QueryState). length x.nodes) o 0 + 4 * option_map_or (λ (x : QueryState). places x.rows) o 0) 0) there

most_stays : (x n m : ℕ) → m ≤ n → max (max x n) m ≡ max x n
most_stays x n m le = omega arith

-- before: each query state can be compacted, there is room for those that are chosen, and each held cursor is of a query state
pub can_compact : (schema : Declared) (count : ℕ) (clocks : List (Option ℤ)) (query_states mut : List Phase) (ps : List ℕ) → IsKeeping schema count clocks query_states ps → mut ≡ query_states → All CanCompact (map (woken count) mut)
can_compact schema count clocks query_states mut ps keeps mut_is =
    let r = woken_running schema count clocks query_states ps keeps in
    let stand = unclocked_stands r.run.events (map (woken count) query_states) clocks r.run.stands in
    let idle = unclocked_idle (map (woken count) query_states) clocks r.idle in
    subst (λ zs. All CanCompact (map (woken count) zs)) (sym mut_is) (λ k d lt. record {
      idle = idle k d lt;
      events = record { events = r.run.events; stands = stand k d lt };
    })

pub have_room : (chosen : List Bool) (room count : ℕ) (slice mut : List Phase) → mut ≡ slice → HaveRoom chosen room slice → HaveRoom chosen room (map (woken count) mut)
have_room chosen room count slice mut mut_is h j p less at flag =
    let there = mapped (woken count) mut j p at in
    let same = subst (λ (ps : List Phase). slice_get ps j ≡ Some there.0) mut_is there.1 in
    let inside = slice_get_within slice j there.0 same in
    subst (λ (x : Phase). length x.kept.nodes ≤ room) there.2 (h j there.0 inside same flag)

-- as many flags as there are query states
pub flags_long : (schema : Declared) (count : ℕ) (clocks : List (Option ℤ)) (query_states mut : List Phase) (ps : List ℕ) (s : EngineState) (chosen : List Bool) → state schema count (query_states_at count query_states clocks) ps ≡ s → mut ≡ query_states → length chosen ≡ length s.queries → length chosen ≡ length mut
flags_long schema count clocks query_states mut ps s chosen is mut_is long =
    long ∙ (sym (ap (λ (t : EngineState). length t.queries) is)
    ∙ (length_map (λ (p : Phase). p.query) (query_states_at count query_states clocks) ∙ (seen_length count query_states clocks ∙ ap length (sym mut_is))))

pub can_hold : (schema : Declared) (count : ℕ) (old mut : List Phase) (ps : List ℕ) (s : EngineState) (held : List CursorState) → state schema count old ps ≡ s → mut ≡ old → All (Fits s) held → All (FitsQueryState mut) held
unfolding Fits
can_hold schema count old mut ps s held is mut_is fits =
    subst (λ (ps' : List Phase). All (FitsQueryState ps') held) (sym mut_is) (subst (λ (t : EngineState). All (Fits t) held) (sym is) fits)

-- the last event was not a no-op for them, as it did not before
zip_upto : (count : ℕ) (old new : List Phase) → AllZip IsCompacted old new → All (λ (p : Phase). p.upto ≡ count) old → All (λ (p : Phase). p.upto ≡ count) new
zip_upto count [] [] z h = All-nil (λ (p : Phase). p.upto ≡ count)
zip_upto count [] (n ∷ new) z h = absurd z
zip_upto count (o ∷ old) [] z h = absurd z
zip_upto count (o ∷ old) (n ∷ new) z h = All-cons (λ (p : Phase). p.upto ≡ count) n new (z.0.upto ∙ All-head (λ (p : Phase). p.upto ≡ count) o old h) (zip_upto count old new z.1 (All-tail (λ (p : Phase). p.upto ≡ count) o old h))

pub found_upto : (count : ℕ) (clocks : List (Option ℤ)) (mut found : List Phase) → AllZip IsCompacted (woken_at count mut clocks) (with_clocks found clocks) → All (λ (p : Phase). p.upto ≡ count) found
found_upto count clocks mut found z =
    unclocked_all (λ (p : Phase). p.upto ≡ count) (λ (p : Phase). p.upto ≡ count) found clocks (λ c p h. h)
    (zip_upto count (woken_at count mut clocks) (with_clocks found clocks) z (clocked_all (λ (p : Phase). p.upto ≡ count) (λ (p : Phase). p.upto ≡ count) (map (woken count) mut) clocks (λ c p h. h) (woken_upto count mut)))

-- so they are what they are kept as
pub compacted_are : (count : ℕ) (clocks : List (Option ℤ)) (mut found raw : List Phase) → AllZip IsCompacted (woken_at count mut clocks) (with_clocks found clocks) → raw ≡ found → with_clocks found clocks ≡ query_states_at count raw clocks
compacted_are count clocks mut found raw z raw_is =
    ap (λ zs. with_clocks zs clocks) (sym (ap (map (phase_at count)) raw_is ∙ fresh_all count found (found_upto count clocks mut found z)))

pub compacted_zip : (count : ℕ) (clocks : List (Option ℤ)) (query_states mut found raw : List Phase) → mut ≡ query_states → AllZip IsCompacted (woken_at count mut clocks) (with_clocks found clocks) → raw ≡ found → AllZip IsCompacted (woken_at count query_states clocks) (query_states_at count raw clocks)
compacted_zip count clocks query_states mut found raw mut_is z raw_is =
    subst (AllZip IsCompacted (woken_at count query_states clocks)) (compacted_are count clocks mut found raw z raw_is) (subst (λ (ps : List Phase). AllZip IsCompacted (woken_at count ps clocks) (with_clocks found clocks)) mut_is z)

-- What the compaction of the query states that are kept is, as one of settled query states. All have their clocks.
pub record Compaction (schema : Declared) (count : ℕ) (clocks : List (Option ℤ)) (query_states raw : List Phase) (ps qs : List ℕ) (s : EngineState) : Type 0 where
  pub running : IsRunning schema count (woken_at count query_states clocks) ps
  pub zip : AllZip IsCompacted (woken_at count query_states clocks) (query_states_at count raw clocks)
  pub peaks : qs ≡ raised ps (woken_at count query_states clocks)
  pub is : state schema count (woken_at count query_states clocks) ps ≡ s
  pub quiet : All (HasNoAnswer count) (query_states_at count raw clocks)

pub compaction : (schema : Declared) (count : ℕ) (clocks : List (Option ℤ)) (query_states mut found raw slice : List Phase) (ps mut_ps found_ps qs : List ℕ) (s : EngineState) → IsKeeping schema count clocks query_states ps → state schema count (query_states_at count query_states clocks) ps ≡ s → mut ≡ query_states → AllZip IsCompacted (woken_at count mut clocks) (with_clocks found clocks) → raw ≡ found → slice ≡ query_states → mut_ps ≡ ps → found_ps ≡ raised mut_ps slice → qs ≡ found_ps → Compaction schema count clocks query_states raw ps qs s
compaction schema count clocks query_states mut found raw slice ps mut_ps found_ps qs s keeps is mut_is z raw_is slice_is mut_ps_is raise qs_is = record {
  running = woken_running schema count clocks query_states ps keeps;
  zip = compacted_zip count clocks query_states mut found raw mut_is z raw_is;
  peaks = qs_is ∙ (raise ∙ (ap (λ xs. raised xs slice) mut_ps_is ∙ (ap (raised ps) slice_is ∙ raised_seen count ps query_states clocks)));
  is = woken_state schema count clocks query_states ps ∙ is;
  quiet = subst (All (HasNoAnswer count)) (compacted_are count clocks mut found raw z raw_is) (clocked_quiet count found clocks (fresh_quiet count found (found_upto count clocks mut found z)));
}

module _ (schema : Declared) (count : ℕ) (old new : List Phase) (ps qs : List ℕ) (ws vs : List CursorState) (running : IsRunning schema count old ps) (z : AllZip IsCompacted old new) (peaks : qs ≡ raised ps old) (s : EngineState) (is : state schema count old ps ≡ s) where
  abbrev after : EngineState
  after = state schema count new qs

  pub settled_running : All (HasNoAnswer count) new → IsRunning schema count new qs
  settled_running quiet = record {
    schemas = zip_schemas schema old new z running.schemas;
    idle = zip_idle old new z;
    run = record {
      events = running.run.events;
      length_is = running.run.length_is;
      stands = zip_stand running.run.events old new z running.run.stands;
    };
    quiet = quiet;
    peaks_are = ap length peaks ∙ (raised_count ps old ∙ (running.peaks_are ∙ sym (zip_count old new z)));
  }

  pub settled_stands : (events : List Event) → StandsFor s events → StandsFor after events
  unfolding StandsFor
  settled_stands = subst (λ (t : EngineState). (events : List Event) → KeptStands (kept_of t) events → KeptStands (kept_of after) events) is (λ events stands.
      from_query_states schema count new qs events (zip_schemas schema old new z running.schemas) (sym stands.count) (zip_stand events old new z (to_query_states schema count old ps events running.schemas stands)))

  pub settled_same : SameQueries s after
  settled_same = subst (λ (t : EngineState). SameQueries t after) is (refl, zip_queries old new z)

  pub settled_count : count_of after ≡ count_of s
  unfolding count_of
  settled_count = ap (λ (t : EngineState). t.count) is

  pub settled_found : (query : ℕ) → found_of after query ≡ found_of s query
  unfolding found_of
  settled_found query = zip_found old new (query - 1) z ∙ ap (λ (t : EngineState). found_of t query) is

  pub settled_fewer : (query : ℕ) → len_of after query ≤ len_of s query
  unfolding len_of
  settled_fewer query = subst (λ (t : EngineState). len_of after query ≤ len_of t query) is (zip_fewer old new (query - 1) z)

  pub settled_peak : (query : ℕ) → peak_of after query ≡ peak_of s query
  unfolding peak_of
  settled_peak query = subst (λ (t : EngineState). peak_of after query ≡ peak_of t query) is (
      let raise = ap (λ zs. slice_index_or zs (query - 1) 0) peaks ∙ raised_there ps old (query - 1) running.peaks_are in
      let fewer = zip_fewer old new (query - 1) z in
      ap (λ x. max x (nodes_there new (query - 1))) raise ∙ most_stays (slice_index_or ps (query - 1) 0) (nodes_there old (query - 1)) (nodes_there new (query - 1)) fewer)

  pub settled_cursors : AreCarried (length old) old new ws vs → All (FitsQueryState old) ws → (j : ℕ) (d : CursorState) → j < length ws → IsKept s after (get_or ws j d) (get_or vs j d)
  unfolding Fits rest
  settled_cursors carried fits j d lt = subst (λ (t : EngineState). IsKept t after (get_or ws j d) (get_or vs j d)) is (
      let here = carried.each j d lt in
      let f = fits j d lt in
      let low = f.0 in
      let high = f.1 in
      let many = length_map (λ (p : Phase). p.kept) old in
      let many_new = length_map (λ (p : Phase). p.kept) new in
      let count_is = zip_count old new z in
      let le : (get_or ws j d).query ≤ length old = omega arith in
      let query : (get_or vs j d).query ≡ (get_or ws j d).query = ap (λ (x : CursorState). x.query) here.same in
      record {
        query = query;
        path = ap (λ (x : CursorState). x.path) here.same;
        fits = (omega arith, omega arith, subst (λ n. walks.Fits (get_or vs j d) (nodes_of new n)) (sym query) (here.fits le));
        rest = ap (λ n. walks.rest (get_or vs j d) (nodes_of new n)) query ∙ here.rest le;
      })

  pub settled_left : (chosen : List Bool) → AreTrimmed chosen (length old) vs new → IsLeftOf chosen after vs
  settled_left chosen trimmed k q p q_at p_at flag =
      let one = mapped (λ (x : Phase). x.query) new k q q_at in
      let two = mapped (λ (x : Phase). x.kept) new k p p_at in
      let both : one.0 ≡ two.0 = (let e = sym one.1 ∙ two.1 in cc) in
      let inside = slice_get_within new k one.0 one.1 in
      let many = zip_count old new z in
      subst (IsTrimmed (k + 1) vs q) (ap (λ (x : Phase). x.kept) both ∙ two.2) (subst (λ (y : Query). IsTrimmed (k + 1) vs y one.0.kept) one.2 (trimmed k one.0 (omega arith) one.1 flag))

  pub settled_others : (chosen : List Bool) → OthersStay chosen (length old) old new → OthersAreKept chosen s after
  settled_others chosen others = subst (λ (t : EngineState). OthersAreKept chosen t after) is (λ k q q_at other. (
      let there = mapped (λ (x : Phase). x.query) old k q q_at in
      let inside = slice_get_within old k there.0 there.1 in
      map_at (λ (x : Phase). x.kept) new k there.0 (others k there.0 inside there.1 other) ∙ sym (map_at (λ (x : Phase). x.kept) old k there.0 there.1)))

  pub settled_once : (chosen : List Bool) → AreOnce chosen (length old) old → AreOnceOf chosen s
  settled_once chosen once = subst (AreOnceOf chosen) is (λ k query_state at flag. (
      let there = mapped (λ (p : Phase). p.kept) old k query_state at in
      let inside = slice_get_within old k there.0 there.1 in
      subst (λ (x : QueryState). All HasStatesOnce x.rows) there.2 (once k there.0 inside there.1 flag)))

  pub settled_steps : (chosen : List Bool) (before after' : ℕ) → after' ≤ before + cost_of chosen old → after' ≤ before + chosen_bounds chosen s
  settled_steps chosen before after' le = subst (λ (t : EngineState). after' ≤ before + chosen_bounds chosen t) is (let e = costs_same chosen schema count old ps in omega arith)
