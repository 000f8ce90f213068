-- What an engine is after blank positions. For callers of the crate too.
use Rattle.std.proofs.Common.{◌≡◌, ℕ, zero, suc, ◌+◌, ◌-◌, ◌<◌, ◌≤◌, inl, inr, ℤ, List, [], ◌∷◌, ◌++◌, map, take, drop, length, refl, sym, ap, ap₂, subst, ◌∙◌, All, Option, Some, None, slice_get, slice_index_or, arith, replicate, append_assoc, length-append}
use Rattle.std.specs.Prelude.{max, if◌then◌else◌}
use Rattle.std.proofs.lemmas.Bool.{ne_eqb}
use Rattle.std.specs.Option.{option_map_or}
use Rattle.std.proofs.lemmas.List.{take-append-le, append-nil, length-replicate}
use Rattle.std.proofs.lemmas.List.Elements.{All-nil, All-cons, All-head, All-tail, All-weaker}
use Rattle.stream_schema.specs.Types.{Declared, IsWellDeclared}
use Rattle.stream_schema.specs.declared.Event.{Event}
use Rattle.cel_terms.specs.declared.Query.{Query}
use Rattle.cel_terms.proofs.Undeclared.{left_out}
use Rattle.tecs_enumerate.specs.Remaining as walks
use Rattle.arena_compact.specs.Moves.{later}
use Rattle.query_standing.specs.Clocks.{Reads, HasClockAt, IsLastClock}
use Rattle.query_standing.specs.Kept.{QueryState, QueryStateStands, KeptStands}
use Rattle.query_standing.proofs.QueryStates.{query_state_skips}
use Rattle.all_or_none.specs.Phases.{Phase, IsIdle, HasNoAnswer}
use Rattle.all_or_none.specs.Dormancy.{phase_at}
use Rattle.query_engine.specs.Engine.{EngineState, Open, StandsFor, kept_of, count_of, found_of, len_of, peak_of, Fits, rest, SameQueries, KeepsCursors}
use Rattle.query_engine.specs.Times.{with_clock, query_states_at, IsAfter}
use Rattle.query_engine.specs.Running.{IsRunning, IsKeeping}
use Rattle.query_engine.specs.Windows.{later_of, IsReadFrom, IsDense, IsRecentAt, FollowsWindowSince}
use Rattle.query_engine.specs.EngineModel.{EngineModel, with_event, Taken, IsCursor, IsEngineModel}
use Rattle.query_engine.specs.Skipping.{IsBlank, AreBlanks, KeepsAll, TakesAll}
use Rattle.query_engine.proofs.Standing.{state, from_query_states, to_query_states, length_map}
use Rattle.query_engine.proofs.Keeping.{running, keeping}
use Rattle.query_engine.proofs.EngineModel.{zip_weaker, cursor_on}
use Rattle.query_engine.proofs.Windows.{bounded_on, clock_inside, still_clock}

-- BLANK EVENTS

-- no query reads one
pub blank_unread : (schema : Declared) (q : Query) (event : Event) → IsWellDeclared schema → IsBlank schema event → Reads schema q event → ⊥
blank_unread schema q event well blank reads =
    left_out schema (record q { partition = [] }) (event ∷ []) 0 0 event well refl blank record {
      here = event;
      there = event;
      key = [];
      here_is = refl;
      there_is = refl;
      here_has = (reads, refl);
      there_has = (reads, refl);
    }

abbrev pub blank_of : Declared → Event
blank_of schema = record { ty = length schema.types; values = [] }

all_blank : (schema : Declared) (n : ℕ) → All (IsBlank schema) (replicate n (blank_of schema))
all_blank schema zero = All-nil (IsBlank schema)
all_blank schema (suc n) = All-cons (IsBlank schema) (blank_of schema) (replicate n (blank_of schema)) (omega arith) (all_blank schema n)

-- as many as are asked for
abbrev pub blanks_between : Declared → ℕ → ℕ → List Event
blanks_between schema before after = replicate (after - before) (blank_of schema)

pub some_blanks : (schema : Declared) (before after : ℕ) → before ≤ after → AreBlanks schema before after (blanks_between schema before after)
some_blanks schema before after upto = record { blank = all_blank schema (after - before); count = (let l = length-replicate (after - before) (blank_of schema) in omega (arith, upto, l)) }

-- PARTS

stands_on : (schema : Declared) (q : Query) (events blanks : List Event) (query_state : QueryState) → IsWellDeclared schema → All (IsBlank schema) blanks → 0 < length blanks → QueryStateStands schema q events query_state → QueryStateStands schema q (events ++ blanks) (record query_state { here = None })
stands_on schema q events [] query_state well blank some stands = absurd (omega arith)
stands_on schema q events (event ∷ later) query_state well blank some stands =
    query_state_skips schema q events event later query_state stands (blank_unread schema q event well (All-head (IsBlank schema) event later blank))
    (All-weaker (IsBlank schema) (λ e. Reads schema q e → ⊥) (λ e b. blank_unread schema q e well b) later (All-tail (IsBlank schema) event later blank))

-- the query state with no answer at the last event
abbrev pub unanswered : Phase → Phase
unanswered p = record p { kept = record p.kept { here = None } }

-- What an event did not reach is, after later ones, as if none had a key.
no_op_one : (from to : ℕ) (c : Option ℤ) (p : Phase) → p.upto ≤ from → from < to → with_clock c (phase_at to p) ≡ unanswered (with_clock c (phase_at from p))
no_op_one from to c p known further = ap (λ b. with_clock c (record p { kept = record p.kept { here = if b then p.kept.here else None } })) (ne_eqb to p.upto (λ same. (omega arith)))

pub no_op_all : (from to : ℕ) (query_states : List Phase) (clocks : List (Option ℤ)) → All (λ (p : Phase). p.upto ≤ from) query_states → from < to → query_states_at to query_states clocks ≡ map unanswered (query_states_at from query_states clocks)
no_op_all from to [] clocks known further = refl
no_op_all from to (p ∷ query_states) clocks known further =
    ap₂ (λ x xs. x ∷ xs) (no_op_one from to (slice_index_or clocks 0 None) p (All-head (λ (x : Phase). x.upto ≤ from) p query_states known) further) (no_op_all from to query_states (drop 1 clocks) (All-tail (λ (x : Phase). x.upto ≤ from) p query_states known) further)

query_state_on : (schema : Declared) (events blanks : List Event) (p : Phase) → p.schema ≡ schema → IsWellDeclared schema → All (IsBlank schema) blanks → 0 < length blanks → IsAfter events p → IsAfter (events ++ blanks) (unanswered p)
query_state_on schema events blanks p is well blank some stands =
    stands_on p.schema p.query events blanks p.kept (subst IsWellDeclared (sym is) well) (subst (λ (s : Declared). All (IsBlank s) blanks) (sym is) blank) some stands

query_states_on : (schema : Declared) (events blanks : List Event) (query_states : List Phase) → All (λ (p : Phase). p.schema ≡ schema) query_states → IsWellDeclared schema → All (IsBlank schema) blanks → 0 < length blanks → All (IsAfter events) query_states → All (IsAfter (events ++ blanks)) (map unanswered query_states)
query_states_on schema events blanks [] schemas well blank some all = All-nil (IsAfter (events ++ blanks))
query_states_on schema events blanks (p ∷ query_states) schemas well blank some all =
    All-cons (IsAfter (events ++ blanks)) (unanswered p) (map unanswered query_states)
    (query_state_on schema events blanks p (All-head (λ (x : Phase). x.schema ≡ schema) p query_states schemas) well blank some (All-head (IsAfter events) p query_states all))
    (query_states_on schema events blanks query_states (All-tail (λ (x : Phase). x.schema ≡ schema) p query_states schemas) well blank some (All-tail (IsAfter events) p query_states all))

no_op_schemas : (schema : Declared) (query_states : List Phase) → All (λ (p : Phase). p.schema ≡ schema) query_states → All (λ (p : Phase). p.schema ≡ schema) (map unanswered query_states)
no_op_schemas schema [] h = All-nil (λ (p : Phase). p.schema ≡ schema)
no_op_schemas schema (p ∷ query_states) h = All-cons (λ (x : Phase). x.schema ≡ schema) (unanswered p) (map unanswered query_states) (All-head (λ (x : Phase). x.schema ≡ schema) p query_states h) (no_op_schemas schema query_states (All-tail (λ (x : Phase). x.schema ≡ schema) p query_states h))

no_op_idle : (query_states : List Phase) → All IsIdle query_states → All IsIdle (map unanswered query_states)
no_op_idle [] h = All-nil IsIdle
no_op_idle (p ∷ query_states) h = All-cons IsIdle (unanswered p) (map unanswered query_states) (All-head IsIdle p query_states h) (no_op_idle query_states (All-tail IsIdle p query_states h))

no_op_quiet : (count : ℕ) (query_states : List Phase) → All (HasNoAnswer count) (map unanswered query_states)
no_op_quiet count [] = All-nil (HasNoAnswer count)
no_op_quiet count (p ∷ query_states) = All-cons (HasNoAnswer count) (unanswered p) (map unanswered query_states) (λ stale. refl) (no_op_quiet count query_states)

no_op_queries : (query_states : List Phase) → map (λ (p : Phase). p.query) (map unanswered query_states) ≡ map (λ (p : Phase). p.query) query_states
no_op_queries [] = refl
no_op_queries (p ∷ query_states) = ap (λ qs. p.query ∷ qs) (no_op_queries query_states)

-- of what is kept the number of the last key alone changes
no_op_kept : {A : Type 0} (f : QueryState → A) (d : A) → ((p : QueryState) → f (record p { here = None }) ≡ f p) → (query_states : List Phase) (k : ℕ) →
    option_map_or f (slice_get (map (λ (p : Phase). p.kept) (map unanswered query_states)) k) d ≡ option_map_or f (slice_get (map (λ (p : Phase). p.kept) query_states) k) d
no_op_kept f d same [] k = refl
no_op_kept f d same (p ∷ query_states) zero = same p.kept
no_op_kept f d same (p ∷ query_states) (suc k) = no_op_kept f d same query_states k

-- The query states of an engine that goes on, which stay as they are.
pub record Went (schema : Declared) (from to : ℕ) (clocks : List (Option ℤ)) (query_states : List Phase) (peaks : List ℕ) (s : EngineState) : Type 0 where
  pub well : IsWellDeclared schema
  pub further : from < to
  pub known : All (λ (p : Phase). p.upto ≤ from) query_states
  pub keeps : IsKeeping schema from clocks query_states peaks
  pub is : state schema from (query_states_at from query_states clocks) peaks ≡ s

module _ (schema : Declared) (from to : ℕ) (clocks : List (Option ℤ)) (query_states : List Phase) (peaks : List ℕ) (s : EngineState) (w : Went schema from to clocks query_states peaks s) where
  abbrev old : List Phase
  old = query_states_at from query_states clocks

  abbrev on : List Phase
  on = map unanswered (query_states_at from query_states clocks)

  abbrev after : EngineState
  after = state schema to (query_states_at to query_states clocks) peaks

  are : query_states_at to query_states clocks ≡ map unanswered (query_states_at from query_states clocks)
  are = no_op_all from to query_states clocks w.known w.further

  after_is : state schema to (map unanswered (query_states_at from query_states clocks)) peaks ≡ state schema to (query_states_at to query_states clocks) peaks
  after_is = sym (ap (λ ps. state schema to ps peaks) are)

  runs : IsRunning schema from (query_states_at from query_states clocks) peaks
  runs = running schema from clocks query_states peaks w.keeps

  on_count : length (map unanswered (query_states_at from query_states clocks)) ≡ length (query_states_at from query_states clocks)
  on_count = length_map unanswered (query_states_at from query_states clocks)

  pub went_keeping : IsKeeping schema to clocks query_states peaks
  went_keeping =
      let run = w.keeps.run in
      let less = w.further in
      let n = length run.events in
      let count = run.length_is in
      let blanks = blanks_between schema n to in
      let some = some_blanks schema n to (omega (arith, less, count)) in
      let many = some.count in
      let whole = length-append run.events blanks in
      keeping schema to clocks query_states peaks (subst (λ ps. IsRunning schema to ps peaks) (sym are) record {
        schemas = no_op_schemas schema old runs.schemas;
        idle = no_op_idle old runs.idle;
        run = record {
          events = run.events ++ blanks;
          length_is = whole ∙ many;
          stands = query_states_on schema run.events blanks old runs.schemas w.well some.blank (omega (arith, many, less, count)) run.stands;
        };
        quiet = no_op_quiet to old;
        peaks_are = runs.peaks_are ∙ sym on_count;
      })

  pub went_stands : (events blanks : List Event) → StandsFor s events → AreBlanks s.schema (length events) (count_of after) blanks → StandsFor after (events ++ blanks)
  unfolding StandsFor count_of
  went_stands = subst (λ (t : EngineState). (events blanks : List Event) → KeptStands (kept_of t) events → AreBlanks t.schema (length events) to blanks → KeptStands (kept_of after) (events ++ blanks)) w.is (λ events blanks stands are.
      let less = w.further in
      let count = stands.count in
      let many = are.count in
      let all = to_query_states schema from old peaks events runs.schemas stands in
      let whole : length (events ++ blanks) ≡ to = length-append events blanks ∙ many in
      subst (λ (t : EngineState). KeptStands (kept_of t) (events ++ blanks)) after_is
      (from_query_states schema to on peaks (events ++ blanks) (no_op_schemas schema old runs.schemas) whole
      (query_states_on schema events blanks old runs.schemas w.well are.blank (omega (arith, less, count, many)) all)))

  pub went_same : SameQueries s after
  went_same = subst (λ (t : EngineState). SameQueries t after) w.is (subst (λ (t : EngineState). SameQueries (state schema from old peaks) t) after_is (refl, no_op_queries old))

  pub went_cursors : KeepsCursors s after
  unfolding Fits rest
  went_cursors = subst (λ (t : EngineState). KeepsCursors t after) w.is (subst (λ (t : EngineState). KeepsCursors (state schema from old peaks) t) after_is (λ c fits.
      let nodes = no_op_kept (λ (p : QueryState). p.nodes) [] (λ p. refl) old (c.query - 1) in
      let low = fits.0 in
      let high = fits.1 in
      let many = length_map (λ (p : Phase). p.kept) on in
      let count = on_count in
      let were = length_map (λ (p : Phase). p.kept) old in
      ((low, omega (arith, high, many, count, were), subst (walks.Fits c) (sym nodes) fits.2), ap (walks.rest c) nodes)))

  pub went_kept : KeepsAll s after
  unfolding found_of len_of peak_of later_of
  went_kept = subst (λ (t : EngineState). KeepsAll t after) w.is (subst (λ (t : EngineState). KeepsAll (state schema from old peaks) t) after_is record {
    found = λ query. no_op_kept (λ (p : QueryState). length p.table.states) 0 (λ p. refl) old (query - 1);
    nodes = λ query. no_op_kept (λ (p : QueryState). length p.nodes) 0 (λ p. refl) old (query - 1);
    later = λ query position. no_op_kept (λ (p : QueryState). later position p.nodes) 0 (λ p. refl) old (query - 1);
    peak = λ query. ap (λ n. max (slice_index_or peaks (query - 1) 0) n) (no_op_kept (λ (p : QueryState). length p.nodes) 0 (λ p. refl) old (query - 1));
  })

-- LAWS

module _ (old new : EngineState) (events more : List Event) (same : SameQueries old new) (keeps : KeepsAll old new) where
  query_before : (k : ℕ) (q : Query) → slice_get new.queries k ≡ Some q → slice_get old.queries k ≡ Some q
  query_before k q at = subst (λ (qs : List Query). slice_get qs k ≡ Some q) same.1 at

  clock_on : (q : Query) (p : ℕ) (clock : ℤ) → HasClockAt old.schema q events p clock → HasClockAt new.schema q (events ++ more) p clock
  clock_on q p clock h = subst (λ (s : Declared). HasClockAt s q (events ++ more) p clock) (sym same.0) (still_clock old.schema q events more p clock h)

  pub skipping_keeps_dense : IsDense old events → IsDense new (events ++ more)
  skipping_keeps_dense dense k q p at =
      let found = keeps.found (k + 1) in
      let count = keeps.later (k + 1) p in
      bounded_on (IsReadFrom old.schema q events p) (IsReadFrom new.schema q (events ++ more) p) old new (k + 1) (later_of old (k + 1) p) (later_of new (k + 1) p) (length events)
      (λ x r. record { clock = r.clock; has = clock_on q x r.clock r.has; from = r.from }) (λ x r. clock_inside old.schema q events x r.clock r.has) (omega (arith, found)) (inl (omega (arith, count)))
      (dense k q p (query_before k q at))

  recent_on : (q : Query) (first x : ℕ) → first ≤ length events → IsRecentAt old.schema q events first x → IsRecentAt new.schema q (events ++ more) first x
  recent_on q first x inside r = record {
    clock = r.clock;
    has = clock_on q x r.clock r.has;
    recent = elim r.recent [
      | inl least ↦ inl least
      | inr near ↦ inr (λ now last. near now (subst (λ (s : Declared). IsLastClock s q (take first events) now) same.0 (subst (λ (es : List Event). IsLastClock new.schema q es now) (take-append-le first events more inside) last)))
    ];
  }

  pub skipping_keeps_window : (first : ℕ) → first ≤ length events → FollowsWindowSince first old events → FollowsWindowSince first new (events ++ more)
  skipping_keeps_window first inside window k q at =
      let found = keeps.found (k + 1) in
      let count = keeps.nodes (k + 1) in
      bounded_on (IsRecentAt old.schema q events first) (IsRecentAt new.schema q (events ++ more) first) old new (k + 1) (len_of old (k + 1)) (len_of new (k + 1)) (length events)
      (λ x r. recent_on q first x inside r) (λ x r. clock_inside old.schema q events x r.clock r.has) (omega (arith, found)) (inl (omega (arith, count)))
      (window k q (query_before k q at))

-- a blank event for each position that is skipped
takes_all : (schema : Declared) (queries : List Query) (m : EngineModel) (blanks : List Event) → IsWellDeclared schema → All (IsBlank schema) blanks → TakesAll schema queries m blanks (record m { events = m.events ++ blanks })
takes_all schema queries m [] well blank = ap (λ es. record m { events = es }) (append-nil m.events)
takes_all schema queries m (event ∷ later) well blank = (
  Taken m event (λ k q before now at f. blank_unread schema q event well (All-head (IsBlank schema) event later blank) f.reads),
  subst (λ es. TakesAll schema queries (with_event m event) later (record m { events = es })) (append_assoc m.events (event ∷ []) later) (takes_all schema queries (with_event m event) later well (All-tail (IsBlank schema) event later blank)),
)

pub skipping_is_steps : (old new : EngineState) (held : List Open) (m : EngineModel) (blanks : List Event) → IsWellDeclared old.schema → IsEngineModel old held m → All (IsBlank old.schema) blanks → StandsFor new (m.events ++ blanks) → KeepsCursors old new →
    TakesAll old.schema old.queries m blanks (record m { events = m.events ++ blanks }) × IsEngineModel new held (record m { events = m.events ++ blanks })
skipping_is_steps old new held m blanks well is blank stands keeps = (
  takes_all old.schema old.queries m blanks well blank,
  record { stands = stands; cursors = zip_weaker (IsCursor old) (IsCursor new) (cursor_on old new keeps) held m.cursors is.cursors },
)
