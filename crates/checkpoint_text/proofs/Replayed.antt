-- The stream that a history tells, event by event, and the clocks along it.
use Rattle.std.proofs.Common.{◌≡◌, ℕ, zero, suc, ◌+◌, ◌-◌, ◌*◌, ◌<◌, ◌≤◌, inl, inr, ℤ, true, false, List, [], ◌∷◌, ◌++◌, take, length, refl, sym, ap, subst, ◌∙◌, All, Option, Some, None, slice_get, arith, add-one, append_assoc, length-append}
use Rattle.std.specs.Prelude.{fold, int_lt, ◌<ℤ◌, max}
use Rattle.std.specs.List.{AllByRecursion}
use Rattle.std.proofs.Math.Nat.{mul-le-mul_right}
use Rattle.std.proofs.lemmas.Int.{ints}
use Rattle.std.proofs.lemmas.Bool.{cases_lt, cases_Bool}
use Rattle.std.proofs.lemmas.List.{append-nil, take_all}
use Rattle.std.proofs.lemmas.List.Elements.{All-append}
use Rattle.stream_schema.specs.Types.{Declared, IsWellDeclared}
use Rattle.stream_schema.specs.declared.Event.{Event}
use Rattle.cel_terms.specs.declared.Query.{Query}
use Rattle.cel_terms.specs.Answers.{HasClock}
use Rattle.cel_terms.specs.EventsRead.{query_reads}
use Rattle.window_clock.specs.Clocks.{clock_of}
use Rattle.query_standing.proofs.Reading.{reads_is, is_read}
use Rattle.query_engine.specs.Clocks.{Reads, FallsBack, NoneFallsBack, IsFirstToFall}
use Rattle.query_engine.specs.Counts.{MeetMost, event_bound}
use Rattle.query_engine.specs.Engine.{EngineState, StandsFor, SameQueries, count_of, peak_of, update_bounds}
use Rattle.query_engine.specs.Bounds.{update_bound, for_each_query}
use Rattle.query_engine.specs.Peaks.{PeaksFollow}
use Rattle.query_engine.specs.Skipping.{IsBlank, AreBlanks, KeepsAll}
use Rattle.query_engine.specs.Windows.{IsDense}
use Rattle.query_engine.proofs.Counting.{first_meet_fewer, event_is_bounded, refused_is_bounded}
use Rattle.query_engine.proofs.DenseNodes.{peaks_skip}
use Rattle.query_engine.proofs.Skipped.{blank_unread, blanks_between, some_blanks}
use Rattle.checkpoint_text.specs.declared.history.EventAt.{EventAt}
use Rattle.checkpoint_text.specs.declared.history.History.{History}
use Rattle.checkpoint_text.specs.QueryClocks.{clock_at, later_clock, last_clock, falls_with, some_falls, NoneFallsAfter}
use Rattle.checkpoint_text.specs.Histories.{AreAscendingFrom}
use Rattle.checkpoint_text.specs.Spelling.{IsHistory}
use Rattle.checkpoint_text.specs.Streams.{AreEventsFrom}
use Rattle.checkpoint_text.specs.Replaying.{StandsForFirst, Replayed, IsInTime, reached}
use Rattle.checkpoint_text.proofs.Restarting.{from_zero, get_left, get_right, all_there, any_from, has_clock, events_long}

-- STREAMS THAT GROW

module _ (schema : Declared) where
  -- a stream up to a position after the last event ends in blank ones
  ends_blank : (from to : ℕ) (es : List EventAt) (stream : List Event) → AreEventsFrom schema from to es stream →
      (events : List Event) × (blanks : List Event) × (stream ≡ events ++ blanks) × AreEventsFrom schema from (reached from es) es events × AreBlanks schema (reached from es) to blanks
  ends_blank from to [] stream are = ([], stream, refl, record { blank = (λ k d inside. absurd (omega arith)); count = omega arith }, are)
  ends_blank from to (e ∷ later) stream (blanks, rest, is, before, behind) =
      let further = ends_blank (e.position + 1) to later rest behind in
      (blanks ++ e.event ∷ further.0, further.1, is ∙ (ap (λ r. blanks ++ e.event ∷ r) further.2 ∙ sym (append_assoc blanks (e.event ∷ further.0) further.1)), (blanks, further.0, refl, before, further.3), further.4)

  -- one with an event more is the one up to that event, and the event
  ends_with : (from : ℕ) (es : List EventAt) (e : EventAt) (stream : List Event) → AreEventsFrom schema from (e.position + 1) (es ++ e ∷ []) stream →
      (events : List Event) × (stream ≡ events ++ e.event ∷ []) × AreEventsFrom schema from e.position es events
  ends_with from [] e stream (blanks, rest, is, before, behind) =
      (blanks, is ∙ ap (λ r. blanks ++ e.event ∷ r) (no_more rest behind), before)
    where
      no_more : (xs : List Event) → AreBlanks schema (e.position + 1) (e.position + 1) xs → xs ≡ []
      no_more [] are = refl
      no_more (x ∷ xs) are = absurd (let c = are.count in omega arith)
  ends_with from (x ∷ es) e stream (blanks, rest, is, before, behind) =
      let further = ends_with (x.position + 1) es e rest behind in
      (blanks ++ x.event ∷ further.0, is ∙ (ap (λ r. blanks ++ x.event ∷ r) further.1 ∙ sym (append_assoc blanks (x.event ∷ further.0) (e.event ∷ []))), (blanks, further.0, refl, before, further.2))

  -- and so it is made of one up to the event before, blank ones and the event
  grown_of : (es : List EventAt) (e : EventAt) (stream : List Event) → AreEventsFrom schema 0 (e.position + 1) (es ++ e ∷ []) stream →
      (events : List Event) × (blanks : List Event) × (stream ≡ events ++ blanks ++ e.event ∷ []) × AreEventsFrom schema 0 (reached 0 es) es events × AreBlanks schema (length events) e.position blanks
  grown_of es e stream are =
      let one = ends_with 0 es e stream are in
      let two = ends_blank 0 e.position es one.0 one.2 in
      let long : length two.0 ≡ reached 0 es = (let l = events_long schema 0 (reached 0 es) es two.0 two.3 in omega (arith, l)) in
      (two.0, two.1, one.1 ∙ ap (λ xs. xs ++ e.event ∷ []) two.2, two.3, subst (λ n. AreBlanks schema n e.position two.1) (sym long) two.4)

  blanks_of : (to : ℕ) (es : List EventAt) (stream : List Event) → AreEventsFrom schema 0 to es stream →
      (events : List Event) × (blanks : List Event) × (stream ≡ events ++ blanks) × AreEventsFrom schema 0 (reached 0 es) es events × AreBlanks schema (length events) to blanks
  blanks_of to es stream are =
      let two = ends_blank 0 to es stream are in
      let long : length two.0 ≡ reached 0 es = (let l = events_long schema 0 (reached 0 es) es two.0 two.3 in omega (arith, l)) in
      (two.0, two.1, two.2, two.3, subst (λ n. AreBlanks schema n to two.1) (sym long) two.4)

  -- there is such a stream
  some_events : (from : ℕ) (es : List EventAt) → AreAscendingFrom from es → (stream : List Event) × AreEventsFrom schema from (reached from es) es stream
  some_events from [] up = ([], record { blank = (λ k d inside. absurd (omega arith)); count = omega arith })
  some_events from (e ∷ later) up =
      let further = some_events (e.position + 1) later up.1 in
      let blanks = blanks_between schema from e.position in
      (blanks ++ e.event ∷ further.0, (blanks, further.0, refl, some_blanks schema from e.position up.0, further.1))

-- WHERE EVENTS STAND

reached_more : (from : ℕ) (es : List EventAt) (e : EventAt) → reached from (es ++ e ∷ []) ≡ e.position + 1
reached_more from [] e = refl
reached_more from (x ∷ es) e = reached_more (x.position + 1) es e

-- an event stands no earlier than where those before it end
reached_before : (from : ℕ) (es : List EventAt) (k : ℕ) (e : EventAt) → AreAscendingFrom from es → slice_get es k ≡ Some e → reached from (take k es) ≤ e.position
reached_before from [] k e up at = absurd cc
reached_before from (x ∷ es) zero e up at = let same : x ≡ e = cc in subst (λ (y : EventAt). from ≤ y.position) same up.0
reached_before from (x ∷ es) (suc k) e up at = reached_before (x.position + 1) es k e up.1 at

ascending_take : (from : ℕ) (es : List EventAt) (k : ℕ) → AreAscendingFrom from es → AreAscendingFrom from (take k es)
ascending_take from [] zero up = up
ascending_take from [] (suc k) up = up
ascending_take from (e ∷ es) zero up = tt
ascending_take from (e ∷ es) (suc k) up = (up.0, ascending_take (e.position + 1) es k up.1)

reached_inside : (from to : ℕ) (es : List EventAt) → from ≤ to → AllByRecursion (λ e. e.position < to) es → reached from es ≤ to
reached_inside from to [] few below = few
reached_inside from to (e ∷ es) few below = reached_inside (e.position + 1) to es (let l = below.0 in omega arith) below.1

all_at_place : (P : EventAt → Type 0) (es : List EventAt) (k : ℕ) (e : EventAt) → AllByRecursion P es → slice_get es k ≡ Some e → P e
all_at_place P [] k e all at = absurd cc
all_at_place P (x ∷ es) zero e all at = let same : x ≡ e = cc in subst P same all.0
all_at_place P (x ∷ es) (suc k) e all at = all_at_place P es k e all.1 at

-- CLOCKS

not_read : (schema : Declared) (q : Query) (e : EventAt) → (Reads schema q e.event → ⊥) → clock_at schema q e ≡ None
not_read schema q e unread = elim (cases_Bool (query_reads schema q e.event)) [
  | inl reads ↦ absurd (unread (reads_is schema q e.event reads))
  | inr none ↦ rw none refl
]

module _ (schema : Declared) (q : Query) (well : IsWellDeclared schema) where
  -- events that are not read leave the last clock
  unread_fold : (from to : ℕ) (es : List EventAt) (stream : List Event) → AreEventsFrom schema from to es stream → ((p : ℕ) (event : Event) → slice_get stream p ≡ Some event → Reads schema q event → ⊥) → (last : Option ℤ) → fold (λ last e. later_clock last (clock_at schema q e)) last es ≡ last
  unread_fold from to [] stream are unread last = refl
  unread_fold from to (e ∷ es) stream (blanks, rest, is, before, behind) unread last =
      let seam : length blanks + 0 ≡ length blanks = omega arith in
      let here : slice_get stream (length blanks) ≡ Some e.event = ap (λ xs. slice_get xs (length blanks)) is ∙ (ap (slice_get (blanks ++ e.event ∷ rest)) (sym seam) ∙ get_right blanks (e.event ∷ rest) 0) in
      let none = not_read schema q e (unread (length blanks) e.event here) in
      ap (λ o. fold (λ last e. later_clock last (clock_at schema q e)) (later_clock last o) es) none
      ∙ unread_fold (e.position + 1) to es rest behind (λ p event at reads. unread (length blanks + suc p) event (ap (λ xs. slice_get xs (length blanks + suc p)) is ∙ (get_right blanks (e.event ∷ rest) (suc p) ∙ at)) reads) last

  -- the clock of the last event that is read is the one that is computed
  last_fold : (from to : ℕ) (es : List EventAt) (stream : List Event) → AreEventsFrom schema from to es stream → (k : ℕ) (event : Event) (c : ℤ) → slice_get stream k ≡ Some event → Reads schema q event → HasClock schema q.window event (from + k) c →
      ((p : ℕ) (other : Event) → k < p → slice_get stream p ≡ Some other → Reads schema q other → ⊥) → (last : Option ℤ) → fold (λ last e. later_clock last (clock_at schema q e)) last es ≡ Some c
  last_fold from to [] stream are k event c at reads clock behind_it last = absurd (blank_unread schema q event well (all_there (IsBlank schema) stream k event are.blank at) reads)
  last_fold from to (e ∷ es) stream (blanks, rest, is, before, behind) k event c at reads clock behind_it last = elim (cases_lt k (length blanks)) [
    | inl less ↦ absurd (blank_unread schema q event well (all_there (IsBlank schema) blanks k event before.blank (sym (get_left blanks (e.event ∷ rest) k less) ∙ (ap (λ xs. slice_get xs k) (sym is) ∙ at))) reads)
    | inr past ↦ from_here (λ j f at' r clock' after l. last_fold (e.position + 1) to es rest behind j event f at' r clock' after l) (k - length blanks) (omega (arith, past)) (
        let place : length blanks + (k - length blanks) ≡ k = omega (arith, past) in
        sym (get_right blanks (e.event ∷ rest) (k - length blanks)) ∙ (ap (slice_get (blanks ++ e.event ∷ rest)) place ∙ (ap (λ xs. slice_get xs k) (sym is) ∙ at)))
  ]
    where
      at_rest : (p : ℕ) (other : Event) → slice_get rest p ≡ Some other → slice_get stream (length blanks + suc p) ≡ Some other
      at_rest p other there = ap (λ xs. slice_get xs (length blanks + suc p)) is ∙ (get_right blanks (e.event ∷ rest) (suc p) ∙ there)

      from_here : ((j : ℕ) (d : ℤ) → slice_get rest j ≡ Some event → Reads schema q event → HasClock schema q.window event (e.position + 1 + j) d → ((p : ℕ) (other : Event) → j < p → slice_get rest p ≡ Some other → Reads schema q other → ⊥) → (l : Option ℤ) → fold (λ last e. later_clock last (clock_at schema q e)) l es ≡ Some d) →
          (j : ℕ) → length blanks + j ≡ k → slice_get (e.event ∷ rest) j ≡ Some event → fold (λ last e. later_clock last (clock_at schema q e)) last (e ∷ es) ≡ Some c
      from_here further zero place here =
          let count = before.count in
          let same : e.event ≡ event = cc in
          let position : from + k ≡ e.position = omega (arith, count, place) in
          let read : Reads schema q e.event = subst (Reads schema q) (sym same) reads in
          let told : clock_of schema q.window e.event e.position ≡ Some c = subst (λ p. clock_of schema q.window e.event p ≡ Some c) position (has_clock schema q.window e.event (from + k) c (subst (λ x. HasClock schema q.window x (from + k) c) (sym same) clock)) in
          let is_clock : clock_at schema q e ≡ Some c = rw (is_read schema q e.event read) told in
          ap (λ o. fold (λ last e. later_clock last (clock_at schema q e)) (later_clock last o) es) is_clock
          ∙ unread_fold (e.position + 1) to es rest behind (λ p other there r. behind_it (length blanks + suc p) other (omega (arith, place)) (at_rest p other there) r) (Some c)
      from_here further (suc j) place here =
          let count = before.count in
          let position : from + k ≡ e.position + 1 + j = omega (arith, count, place) in
          further j c here reads (subst (λ p. HasClock schema q.window event p c) position clock)
          (λ p other less there r. behind_it (length blanks + suc p) other (omega (arith, place, less)) (at_rest p other there) r) (later_clock last (clock_at schema q e))

  -- a clock that falls with the next event does so as it is computed
  pub falls_too : (to : ℕ) (es : List EventAt) (stream : List Event) (e : EventAt) (before now : ℤ) → AreEventsFrom schema 0 to es stream → e.position ≡ to → FallsBack schema q stream e.event before now → falls_with schema es e q ≡ true
  falls_too to es stream e before now are place f =
      let l = f.last in
      let long = events_long schema 0 to es stream are in
      let last : last_clock schema q es ≡ Some before = last_fold 0 to es stream are l.position l.has.event before l.has.at l.has.read (subst (λ n. HasClock schema q.window l.has.event n before) (sym (from_zero l.position)) l.has.clock_is) l.last None in
      let position : length stream ≡ e.position = omega (arith, long, place) in
      let told : clock_at schema q e ≡ Some now = rw (is_read schema q e.event f.reads) (subst (λ p. clock_of schema q.window e.event p ≡ Some now) position (has_clock schema q.window e.event (length stream) now f.now_is)) in
      rw (last, told) (less_test now before f.falls)
    where
      less_test : (a b : ℤ) → a <ℤ b → int_lt a b ≡ true
      less_test a b less = grind (arith, ints)

-- along a history none falls
level_at : (schema : Declared) (queries : List Query) (before es : List EventAt) (k : ℕ) (e : EventAt) → NoneFallsAfter schema queries before es → slice_get es k ≡ Some e → some_falls schema queries (before ++ take k es) e ≡ false
level_at schema queries before [] k e level at = absurd cc
level_at schema queries before (x ∷ es) zero e level at =
    let same : x ≡ e = cc in
    let none : before ++ [] ≡ before = append-nil before in
    ap (λ b. some_falls schema queries b e) none ∙ (ap (some_falls schema queries before) (sym same) ∙ level.0)
level_at schema queries before (x ∷ es) (suc k) e level at =
    ap (λ b. some_falls schema queries b e) (sym (append_assoc before (x ∷ []) (take k es))) ∙ level_at schema queries (before ++ x ∷ []) es k e level.1 at

pub no_fall : (schema : Declared) (queries : List Query) (es : List EventAt) (k : ℕ) (e : EventAt) (stream : List Event) → IsWellDeclared schema → NoneFallsAfter schema queries [] es → slice_get es k ≡ Some e → AreEventsFrom schema 0 e.position (take k es) stream → NoneFallsBack schema queries stream e.event
no_fall schema queries es k e stream well level at are j q before now query f =
    let falls = falls_too schema q well e.position (take k es) stream e before now are refl f in
    let some = any_from (falls_with schema (take k es) e) queries j q query falls in
    let none = level_at schema queries [] es k e level at in
    (let both = sym some ∙ none in absurd cc)

-- THE ENGINE

-- an event with which no clock falls is not refused for time
pub no_time_back : (old new : EngineState) (stream : List Event) (event : Event) (query : ℕ) (before now : ℤ) → SameQueries old new → NoneFallsBack old.schema old.queries stream event → IsFirstToFall new.schema new.queries stream event query before now → ⊥
no_time_back old new stream event query before now same none f =
    none (query - 1) f.falling before now (subst (λ qs. slice_get qs (query - 1) ≡ Some f.falling) same.1 f.at) (subst (λ s. FallsBack s f.falling stream event before now) same.0 f.falls)

-- so many blank events, up to where the engine then is
pub blanks_to : (schema : Declared) (from now old position : ℕ) (blanks : List Event) → now ≡ max old position → old ≤ position → AreBlanks schema from position blanks → AreBlanks schema from now blanks
blanks_to schema from now old position blanks is ahead are = subst (λ n. AreBlanks schema from n blanks) (let same : position ≡ now = omega (arith, is, ahead) in same) are

-- the queries meet the same states by another name
met_too : (old new : EngineState) (events : List Event) (most : ℕ → ℕ) → SameQueries old new → MeetMost old.schema old.queries events most → MeetMost new.schema new.queries events most
met_too old new events most same meet = subst (λ s. MeetMost s new.queries events most) (sym same.0) (subst (λ qs. MeetMost old.schema qs events most) (sym same.1) meet)

-- the steps of an event that is taken after blank ones
pub event_pays : (old mid new : EngineState) (events : List Event) (most : ℕ → ℕ) (before after : ℕ) → SameQueries old mid → SameQueries mid new → StandsFor new events → MeetMost old.schema old.queries events most → after ≤ before + update_bounds new → after ≤ before + event_bound (length old.queries) most
event_pays old mid new events most before after first second stands meet paid =
    let bounded = event_is_bounded new events most stands (met_too mid new events most second (met_too old mid events most first meet)) in
    let same : event_bound (length new.queries) most ≡ event_bound (length old.queries) most = ap (λ (qs : List Query). event_bound (length qs) most) (second.1 ∙ first.1) in
    omega (arith, bounded, same, paid)

-- and of one for which memory ran out
pub want_pays : (old mid : EngineState) (events : List Event) (most : ℕ → ℕ) (before after : ℕ) → SameQueries old mid → MeetMost old.schema old.queries events most →
    (MeetMost mid.schema mid.queries events most → after ≤ before + for_each_query (length mid.queries) (λ k. update_bound (most k))) → after ≤ before + event_bound (length old.queries) most
want_pays old mid events most before after first meet paid =
    let cost = paid (met_too old mid events most first meet) in
    let within = refused_is_bounded (length mid.queries) most in
    let same : event_bound (length mid.queries) most ≡ event_bound (length old.queries) most = ap (λ (qs : List Query). event_bound (length qs) most) first.1 in
    omega (arith, cost, within, same)

-- so many events are taken
pub record Reached (schema : Declared) (queries : List Query) (es : List EventAt) (k : ℕ) (engine : EngineState) : Type 0 where
  pub schema_is : engine.schema ≡ schema
  pub queries_are : engine.queries ≡ queries
  pub count : count_of engine ≡ reached 0 (take k es)
  pub stands : (stream : List Event) → AreEventsFrom schema 0 (reached 0 (take k es)) (take k es) stream → StandsFor engine stream
  pub dense : (stream : List Event) → AreEventsFrom schema 0 (reached 0 (take k es)) (take k es) stream → IsDense engine stream

-- so many events are taken, with these peaks before them, and so many steps since then
pub record Measured (schema : Declared) (queries : List Query) (es : List EventAt) (k : ℕ) (engine : EngineState) (before : ℕ → ℕ) (begun now : ℕ) : Type 0 where
  pub peaks : (stream : List Event) → AreEventsFrom schema 0 (reached 0 (take k es)) (take k es) stream → PeaksFollow before engine stream
  pub steps : (stream : List Event) (most : ℕ → ℕ) → AreEventsFrom schema 0 (reached 0 (take k es)) (take k es) stream → MeetMost schema queries stream most → now ≤ begun + length stream * event_bound (length queries) most

-- a stream begins with one of the first events
front_of : (schema : Declared) (from to : ℕ) (es : List EventAt) (k : ℕ) (stream : List Event) → AreEventsFrom schema from to es stream →
    (front : List Event) × (rest : List Event) × (stream ≡ front ++ rest) × AreEventsFrom schema from (reached from (take k es)) (take k es) front
front_of schema from to [] zero stream are = ([], stream, refl, record { blank = (λ k d inside. absurd (omega arith)); count = omega arith })
front_of schema from to [] (suc k) stream are = ([], stream, refl, record { blank = (λ k d inside. absurd (omega arith)); count = omega arith })
front_of schema from to (e ∷ later) zero stream are = ([], stream, refl, record { blank = (λ k d inside. absurd (omega arith)); count = omega arith })
front_of schema from to (e ∷ later) (suc k) stream (blanks, rest, is, before, behind) =
    let r = front_of schema (e.position + 1) to later k rest behind in
    (blanks ++ e.event ∷ r.0, r.1, is ∙ (ap (λ (xs : List Event). blanks ++ e.event ∷ xs) r.2 ∙ sym (append_assoc blanks (e.event ∷ r.0) r.1)), (blanks, r.0, refl, before, r.3))

-- more positions allow more steps
more_steps : (begun now short long bound : ℕ) → short ≤ long → now ≤ begun + short * bound → now ≤ begun + long * bound
more_steps begun now short long bound less paid =
    let more : short * bound ≤ long * bound = mul-le-mul_right bound less in
    omega (arith, paid, more)

one_more_step : (begun old now short long bound : ℕ) → short + 1 ≤ long → old ≤ begun + short * bound → now ≤ old + bound → now ≤ begun + long * bound
one_more_step begun old now short long bound less paid step =
    let more : (short + 1) * bound ≤ long * bound = mul-le-mul_right bound less in
    let whole : (short + 1) * bound ≡ short * bound + bound = omega arith in
    omega (arith, paid, step, more, whole)

module _ (schema : Declared) (queries : List Query) (history : History) (well : IsWellDeclared schema) (is : IsHistory schema queries history) where
  -- none yet
  pub none_reached : (engine : EngineState) → engine.schema ≡ schema → engine.queries ≡ queries → count_of engine ≡ 0 → StandsFor engine [] → IsDense engine [] → Reached schema queries history.events 0 engine
  none_reached engine schema_is queries_are count stands dense = record {
    schema_is = schema_is;
    queries_are = queries_are;
    count = count;
    stands = λ stream are. subst (StandsFor engine) (sym (empty stream are)) stands;
    dense = λ stream are. subst (IsDense engine) (sym (empty stream are)) dense;
  }
    where
      empty : (stream : List Event) → AreBlanks schema 0 0 stream → stream ≡ []
      empty [] are = refl
      empty (x ∷ xs) are = absurd (let c = are.count in omega arith)

  -- none yet, and no step
  pub none_measured : (engine : EngineState) (now : ℕ) → Measured schema queries history.events 0 engine (peak_of engine) now now
  none_measured engine now = record { peaks = λ stream are k q at. inl (omega arith); steps = λ stream most are meet. omega arith }

  module _ (k : ℕ) (e : EventAt) (at : slice_get history.events k ≡ Some e) (engine : EngineState) (r : Reached schema queries history.events k engine) where
    -- the next event comes after, and in time
    pub next_ahead : count_of engine ≤ e.position
    next_ahead = let before = reached_before 0 history.events k e is.placed.ascending at in let c = r.count in omega (arith, before, c)

    pub next_in_time : IsInTime engine e
    next_in_time =
        let some = some_events schema 0 (take k history.events) (ascending_take 0 history.events k is.placed.ascending) in
        let before = reached_before 0 history.events k e is.placed.ascending at in
        let long : length some.0 ≡ reached 0 (take k history.events) = (let l = events_long schema 0 (reached 0 (take k history.events)) (take k history.events) some.0 some.1 in omega (arith, l)) in
        let blanks = blanks_between schema (length some.0) e.position in
        let are = some_blanks schema (length some.0) e.position (omega (arith, before, long)) in
        let joined = behind (reached 0 (take k history.events)) e.position 0 (take k history.events) some.0 blanks some.1 (subst (λ n. AreBlanks schema n e.position blanks) long are) in
        record {
          events = some.0;
          blanks = blanks;
          stands = r.stands some.0 some.1;
          are = subst (λ s. AreBlanks s (length some.0) e.position blanks) (sym r.schema_is) are;
          time = subst (λ s. NoneFallsBack s engine.queries (some.0 ++ blanks) e.event) (sym r.schema_is) (subst (λ qs. NoneFallsBack schema qs (some.0 ++ blanks) e.event) (sym r.queries_are) (no_fall schema queries history.events k e (some.0 ++ blanks) well is.level at joined));
        }
      where
        behind : (to further from : ℕ) (es : List EventAt) (stream blanks : List Event) → AreEventsFrom schema from to es stream → AreBlanks schema to further blanks → AreEventsFrom schema from further es (stream ++ blanks)
        behind to further from [] stream blanks are more = record {
          blank = all_joined (IsBlank schema) stream blanks are.blank more.blank;
          count = (let a = are.count in let b = more.count in let l = length-append stream blanks in omega (arith, a, b, l));
        }
          where
            all_joined : (P : Event → Type 0) (xs ys : List Event) → All P xs → All P ys → All P (xs ++ ys)
            all_joined P xs ys a b = All-append P xs ys a b
        behind to further from (x ∷ es) stream blanks (first, rest, made, before, more_of) more =
            (first, rest ++ blanks, ap (λ xs. xs ++ blanks) made ∙ append_assoc first (x.event ∷ rest) blanks, before, behind to further (x.position + 1) es rest blanks more_of more)

    take_suc : take (k + 1) history.events ≡ take k history.events ++ e ∷ []
    take_suc = taken history.events k at
      where
        taken : (es : List EventAt) (k : ℕ) → slice_get es k ≡ Some e → take (k + 1) es ≡ take k es ++ e ∷ []
        taken es k at = rw add-one (by_place es k at)
          where
            by_place : (es : List EventAt) (k : ℕ) → slice_get es k ≡ Some e → take (suc k) es ≡ take k es ++ e ∷ []
            by_place [] k at = absurd cc
            by_place (x ∷ es) zero at = let same : x ≡ e = cc in ap (λ y. y ∷ []) same
            by_place (x ∷ es) (suc k) at = ap (λ ys. x ∷ ys) (by_place es k at)

    pub next_reached : (after : EngineState) → SameQueries engine after → count_of after ≡ e.position + 1 →
        ((events blanks : List Event) → StandsFor engine events → AreBlanks engine.schema (length events) e.position blanks → StandsFor after (events ++ blanks ++ e.event ∷ [])) →
        ((events blanks : List Event) → StandsFor engine events → IsDense engine events → AreBlanks engine.schema (length events) e.position blanks → IsDense after (events ++ blanks ++ e.event ∷ [])) →
        Reached schema queries history.events (k + 1) after
    next_reached after same count stands dense = subst (λ es. (count_of after ≡ reached 0 es) × ((stream : List Event) → AreEventsFrom schema 0 (reached 0 es) es stream → StandsFor after stream) × ((stream : List Event) → AreEventsFrom schema 0 (reached 0 es) es stream → IsDense after stream) → Reached schema queries history.events (k + 1) after) take_suc
        (λ all. record { schema_is = same.0 ∙ r.schema_is; queries_are = same.1 ∙ r.queries_are; count = all.0; stands = all.1; dense = all.2 }) (
          count ∙ sym (reached_more 0 (take k history.events) e),
          (λ stream are. (let made = grown_of schema (take k history.events) e stream (subst (λ n. AreEventsFrom schema 0 n (take k history.events ++ e ∷ []) stream) (reached_more 0 (take k history.events) e) are) in
              subst (StandsFor after) (sym made.2) (stands made.0 made.1 (r.stands made.0 made.3) (subst (λ s. AreBlanks s (length made.0) e.position made.1) (sym r.schema_is) made.4)))),
          (λ stream are. (let made = grown_of schema (take k history.events) e stream (subst (λ n. AreEventsFrom schema 0 n (take k history.events ++ e ∷ []) stream) (reached_more 0 (take k history.events) e) are) in
              subst (IsDense after) (sym made.2) (dense made.0 made.1 (r.stands made.0 made.3) (r.dense made.0 made.3) (subst (λ s. AreBlanks s (length made.0) e.position made.1) (sym r.schema_is) made.4)))),
        )

    -- a stream of one event more
    with_next : (stream : List Event) → AreEventsFrom schema 0 (reached 0 (take (k + 1) history.events)) (take (k + 1) history.events) stream →
        (events : List Event) × (blanks : List Event) × (stream ≡ events ++ blanks ++ e.event ∷ []) × AreEventsFrom schema 0 (reached 0 (take k history.events)) (take k history.events) events × AreBlanks schema (length events) e.position blanks
    with_next stream are =
        let there = subst (λ es. AreEventsFrom schema 0 (reached 0 es) es stream) take_suc are in
        grown_of schema (take k history.events) e stream (subst (λ n. AreEventsFrom schema 0 n (take k history.events ++ e ∷ []) stream) (reached_more 0 (take k history.events) e) there)

    blanks_here : (events blanks : List Event) → AreBlanks schema (length events) e.position blanks → AreBlanks engine.schema (length events) e.position blanks
    blanks_here events blanks are = subst (λ s. AreBlanks s (length events) e.position blanks) (sym r.schema_is) are

    -- what the next event takes of steps
    pays_next : (before : ℕ → ℕ) (begun now later : ℕ) → Measured schema queries history.events k engine before begun now →
        ((events blanks : List Event) (most : ℕ → ℕ) → StandsFor engine events → AreBlanks engine.schema (length events) e.position blanks → MeetMost engine.schema engine.queries (events ++ blanks ++ e.event ∷ []) most → later ≤ now + event_bound (length engine.queries) most) →
        (stream : List Event) (most : ℕ → ℕ) → AreEventsFrom schema 0 (reached 0 (take (k + 1) history.events)) (take (k + 1) history.events) stream → MeetMost schema queries stream most → later ≤ begun + length stream * event_bound (length queries) most
    pays_next before begun now later m step stream most are meet =
        let made = with_next stream are in
        let all = made.0 ++ made.1 ++ e.event ∷ [] in
        let met : MeetMost schema queries all most = subst (λ es. MeetMost schema queries es most) made.2 meet in
        let first = first_meet_fewer schema queries made.0 made.1 most (first_meet_fewer schema queries (made.0 ++ made.1) (e.event ∷ []) most met) in
        let here : MeetMost engine.schema engine.queries all most = subst (λ s. MeetMost s engine.queries all most) (sym r.schema_is) (subst (λ qs. MeetMost schema qs all most) (sym r.queries_are) met) in
        let cost : later ≤ now + event_bound (length queries) most = subst (λ (qs : List Query). later ≤ now + event_bound (length qs) most) r.queries_are (step made.0 made.1 most (r.stands made.0 made.3) (blanks_here made.0 made.1 made.4) here) in
        let long : length made.0 + 1 ≤ length stream = (let w = ap length made.2 in let l = length-append (made.0 ++ made.1) (e.event ∷ []) in let n = length-append made.0 made.1 in omega (arith, w, l, n)) in
        one_more_step begun now later (length made.0) (length stream) (event_bound (length queries) most) long (m.steps made.0 most made.3 first) cost

    pub next_measured : (after : EngineState) (before : ℕ → ℕ) (begun now later : ℕ) → Measured schema queries history.events k engine before begun now →
        ((events blanks : List Event) → StandsFor engine events → IsDense engine events → PeaksFollow before engine events → AreBlanks engine.schema (length events) e.position blanks → PeaksFollow before after (events ++ blanks ++ e.event ∷ [])) →
        ((events blanks : List Event) (most : ℕ → ℕ) → StandsFor engine events → AreBlanks engine.schema (length events) e.position blanks → MeetMost engine.schema engine.queries (events ++ blanks ++ e.event ∷ []) most → later ≤ now + event_bound (length engine.queries) most) →
        Measured schema queries history.events (k + 1) after before begun later
    next_measured after before begun now later m peaks step = record {
      peaks = λ stream are. (let made = with_next stream are in
          subst (PeaksFollow before after) (sym made.2) (peaks made.0 made.1 (r.stands made.0 made.3) (r.dense made.0 made.3) (m.peaks made.0 made.3) (blanks_here made.0 made.1 made.4)));
      steps = pays_next before begun now later m step;
    }

    -- the steps where memory ran out
    pub part_measured : (before : ℕ → ℕ) (begun now later : ℕ) → Measured schema queries history.events k engine before begun now →
        ((events blanks : List Event) (most : ℕ → ℕ) → StandsFor engine events → AreBlanks engine.schema (length events) e.position blanks → MeetMost engine.schema engine.queries (events ++ blanks ++ e.event ∷ []) most → later ≤ now + event_bound (length engine.queries) most) →
        (stream : List Event) (most : ℕ → ℕ) → AreEventsFrom schema 0 history.positions history.events stream → MeetMost schema queries stream most → later ≤ begun + length stream * event_bound (length queries) most
    part_measured before begun now later m step stream most are meet =
        let front = front_of schema 0 history.positions history.events (k + 1) stream are in
        let met = first_meet_fewer schema queries front.0 front.1 most (subst (λ es. MeetMost schema queries es most) front.2 meet) in
        let short : length front.0 ≤ length stream = (let w = ap length front.2 in let l = length-append front.0 front.1 in omega (arith, w, l)) in
        more_steps begun later (length front.0) (length stream) (event_bound (length queries) most) short (pays_next before begun now later m step front.0 most front.3 met)

    -- where memory ran out it stands for the first events
    pub part_reached : (after : EngineState) → count_of after ≡ e.position → ((events blanks : List Event) → StandsFor engine events → AreBlanks engine.schema (length events) e.position blanks → StandsFor after (events ++ blanks)) → StandsForFirst schema history.events after
    part_reached after count stands = record {
      count = k;
      next = e;
      at = at;
      place = count;
      stands = λ stream are. (let made = blanks_of schema e.position (take k history.events) stream are in
          subst (StandsFor after) (sym made.2) (stands made.0 made.1 (r.stands made.0 made.3) (subst (λ s. AreBlanks s (length made.0) e.position made.1) (sym r.schema_is) made.4)));
    }

  -- at the end
  pub all_reached : (k : ℕ) (engine after : EngineState) → length history.events ≤ k → Reached schema queries history.events k engine → SameQueries engine after → count_of after ≡ max (count_of engine) history.positions →
      ((events blanks : List Event) → StandsFor engine events → AreBlanks engine.schema (length events) (count_of after) blanks → StandsFor after (events ++ blanks)) →
      ((events blanks : List Event) → IsDense engine events → IsDense after (events ++ blanks)) →
      Replayed schema history.events history.positions after
  all_reached k engine after end r same count stands dense = record {
    count = at_end;
    stands = λ stream are. (let made = blanks_of schema history.positions history.events stream are in
        subst (StandsFor after) (sym made.2) (stands made.0 made.1 (r.stands made.0 (there made.0 made.3)) (subst (λ n. AreBlanks engine.schema (length made.0) n made.1) (sym at_end) (subst (λ s. AreBlanks s (length made.0) history.positions made.1) (sym r.schema_is) made.4))));
    dense = λ stream are. (let made = blanks_of schema history.positions history.events stream are in
        subst (IsDense after) (sym made.2) (dense made.0 made.1 (r.dense made.0 (there made.0 made.3))));
  }
    where
      whole : take k history.events ≡ history.events
      whole = take_all k history.events end

      at_end : count_of after ≡ history.positions
      at_end =
          let few = reached_inside 0 history.positions history.events (omega arith) is.placed.below in
          let c = r.count in
          let w = ap (reached 0) whole in
          omega (arith, few, c, w, count)

      there : (stream : List Event) → AreEventsFrom schema 0 (reached 0 history.events) history.events stream → AreEventsFrom schema 0 (reached 0 (take k history.events)) (take k history.events) stream
      there stream are = subst (λ es. AreEventsFrom schema 0 (reached 0 es) es stream) (sym whole) are

  -- at the end: the peaks, and the steps
  pub all_peaks : (k : ℕ) (engine after : EngineState) (before : ℕ → ℕ) (begun now : ℕ) → length history.events ≤ k → Measured schema queries history.events k engine before begun now → SameQueries engine after → KeepsAll engine after →
      (stream : List Event) → AreEventsFrom schema 0 history.positions history.events stream → PeaksFollow before after stream
  all_peaks k engine after before begun now end m same kept stream are =
      let made = blanks_of schema history.positions history.events stream are in
      let there = subst (λ es. AreEventsFrom schema 0 (reached 0 es) es made.0) (sym (take_all k history.events end)) made.3 in
      subst (PeaksFollow before after) (sym made.2) (peaks_skip before engine after made.0 made.1 same kept (m.peaks made.0 there))

  pub all_steps : (k : ℕ) (engine : EngineState) (before : ℕ → ℕ) (begun now : ℕ) → length history.events ≤ k → Measured schema queries history.events k engine before begun now →
      (stream : List Event) (most : ℕ → ℕ) → AreEventsFrom schema 0 history.positions history.events stream → MeetMost schema queries stream most → now ≤ begun + length stream * event_bound (length queries) most
  all_steps k engine before begun now end m stream most are meet =
      let made = blanks_of schema history.positions history.events stream are in
      let there = subst (λ es. AreEventsFrom schema 0 (reached 0 es) es made.0) (sym (take_all k history.events end)) made.3 in
      let met = first_meet_fewer schema queries made.0 made.1 most (subst (λ es. MeetMost schema queries es most) made.2 meet) in
      let short : length made.0 ≤ length stream = (let w = ap length made.2 in let l = length-append made.0 made.1 in omega (arith, w, l)) in
      more_steps begun now (length made.0) (length stream) (event_bound (length queries) most) short (m.steps made.0 most there met)
