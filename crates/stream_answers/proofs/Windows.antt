-- The nodes of an engine that is compacted after every so many events, from event to event.
use Rattle.std.proofs.Common.{◌≡◌, ℕ, zero, suc, ◌+◌, ◌-◌, ◌<◌, ◌≤◌, ◌⊎◌, inl, inr, cond, Bool, true, false, List, [], ◌∷◌, ◌++◌, take, length, refl, sym, ap, subst, ◌∙◌, Option, Some, None, Result, Ok, Err, slice_get, arith, length-append}
use Rattle.std.specs.Prelude.{max, OnOk}
use Rattle.std.specs.Prelude.{nat_lt, ◌&&◌}
use Rattle.std.proofs.lemmas.Bool.{cases_Bool, cases_lt, ltb-true}
use Rattle.std.proofs.lemmas.List.Elements.{All-weaker}
use Rattle.std.proofs.lemmas.List.{append-nil, take-append-le, take_all}
use Rattle.stream_schema.specs.Types.{Declared}
use Rattle.stream_schema.specs.declared.Event.{Event}
use Rattle.cel_terms.specs.declared.Query.{Query}
use Rattle.query_engine.specs.Engine.{EngineState, Open, StandsFor, SameQueries, found_of, len_of, peak_of}
use Rattle.query_engine.specs.Keys.{HasAddedKeys, KeysFollowWindows, KeysFollowWindowsSince}
use Rattle.query_engine.specs.Windows.{IsBoundedBy, IsReadFrom, IsDense, FollowsWindow, IsRecentAt, FollowsWindowSince, HasAdded}
use Rattle.query_engine.proofs.DenseNodes.{dense_follows}
use Rattle.query_engine.proofs.Windows.{bounded_on, event_keeps_dense, event_keeps_window, event_keeps_keys, compacted_follows_window, compacted_follow_windows, first_follows_window, clock_inside, recent_inside}
use Rattle.stream_answers.specs.Windows.{is_due, is_due_after, last_of, HasPeak, FollowsEvents, FollowsWindowsBy}

-- WHEN A COMPACTION IS DUE

last_either : (b : Bool) (n m : ℕ) → m ≤ n → cond b (suc n) m ≤ suc n
last_either true n m le = omega arith
last_either false n m le = omega arith

pub last_upto : (due : ℕ → Bool) (n : ℕ) → last_of due n ≤ n
last_upto due zero = omega arith
last_upto due (suc n) = last_either (due (suc n)) n (last_of due n) (last_upto due n)

last_now : (due : ℕ → Bool) (n : ℕ) → due n ≡ true → last_of due n ≡ n
last_now due zero has_come = refl
last_now due (suc n) has_come = ap (λ (b : Bool). cond b (suc n) (last_of due n)) has_come

pub last_stays : (due : ℕ → Bool) (n : ℕ) → due n ≡ false → last_of due n ≡ last_of due (n - 1)
last_stays due zero none = refl
last_stays due (suc n) none = ap (λ (b : Bool). cond b (suc n) (last_of due n)) none ∙ ap (last_of due) (let e : n ≡ suc n - 1 = omega arith in e)

-- AT FIRST

pub windows_at_first : (due : ℕ → Bool) (engine : EngineState) → StandsFor engine [] → FollowsWindowsBy due (peak_of engine) 0 [] engine
windows_at_first due engine stands =
    let first = first_follows_window engine stands in
    record { dense = first.0; nodes = first.1; keys = λ is_made. absurd (omega arith); peaks = λ k q at. inl (omega arith) }

-- without a number none ever is
never : (b : Bool) → (b && false) ≡ false
never true = refl
never false = refl

pub never_due : (first events : ℕ) → is_due_after None first events ≡ false
never_due zero events = refl
never_due (suc n) events = never (nat_lt (suc n) events)

pub never_last : (first n : ℕ) → last_of (is_due_after None first) n ≡ 0
never_last first zero = refl
never_last first (suc n) = ap (λ (b : Bool). cond b (suc n) (last_of (is_due_after None first) n)) (never_due first (suc n)) ∙ never_last first n

-- after earlier events none is due up to the last of these
not_less : (n m : ℕ) → n ≤ m → nat_lt m n ≡ false
not_less n m le = elim (cases_Bool (nat_lt m n)) [
  | inl less ↦ absurd (let l : m < n = ltb-true m n less in omega arith)
  | inr none ↦ none
]

none_due : (b c : Bool) (n m : ℕ) → b ≡ false → cond (b && c) n m ≡ m
none_due true c n m none = absurd cc
none_due false c n m none = refl

pub last_none : (every : Option ℕ) (first n : ℕ) → n ≤ first → last_of (is_due_after every first) n ≡ 0
last_none every first zero le = refl
last_none every zero (suc n) le = absurd (omega arith)
last_none every (suc k) (suc n) le =
    none_due (nat_lt (suc k) (suc n)) (is_due every (suc n - suc k)) (suc n) (last_of (is_due_after every (suc k)) n) (not_less (suc n) (suc k) le)
    ∙ last_none every (suc k) n (omega arith)

pub windows_behind : (every : Option ℕ) (first : ℕ) (peaks : ℕ → ℕ) (engine : EngineState) (events : List Event) → first ≡ length events → FollowsEvents peaks engine events →
    FollowsWindowsBy (is_due_after every first) peaks (last_of (is_due_after every first) (length events)) events engine
windows_behind every first peaks engine events behind f = record {
  dense = f.dense;
  nodes = subst (λ (n : ℕ). FollowsWindowSince n engine events) (sym (last_none every first (length events) (omega arith))) (dense_follows engine events f.dense);
  keys = λ is_made. absurd (let none = last_none every first (length events) (omega arith) in omega arith);
  peaks = λ k q at. elim (f.peaks_are k q at) [
    | inl was ↦ inl was
    | inr had ↦ inr (record {
      count = length events;
      among = omega arith;
      nodes = subst (λ (es : List Event). IsBoundedBy (IsRecentAt engine.schema q es (last_of (is_due_after every first) (length events - 1))) engine (k + 1) (peak_of engine (k + 1))) (sym (take_all (length events) events (omega arith))) (
          subst (λ (n : ℕ). IsBoundedBy (IsRecentAt engine.schema q events n) engine (k + 1) (peak_of engine (k + 1))) (sym (last_none every first (length events - 1) (omega arith))) (record {
            positions = had.positions;
            distinct = had.distinct;
            each = All-weaker (IsReadFrom engine.schema q events 0) (IsRecentAt engine.schema q events 0) (λ x r. record { clock = r.clock; has = r.has; recent = inl (omega arith) }) had.positions had.each;
            bounded = had.bounded;
          }));
    })
  ];
}

-- an engine of no event
pub follows_none : (engine : EngineState) → StandsFor engine [] → FollowsEvents (peak_of engine) engine []
follows_none engine stands = record { stands = stands; dense = (first_follows_window engine stands).0; peaks_are = λ k q at. inl (omega arith) }

-- AN EVENT

most_is : (n m : ℕ) → n < m → max n m ≡ m
most_is n m less = omega arith

most_stays : (n m : ℕ) → m ≤ n → max n m ≡ n
most_stays n m le = omega arith

-- a peak that there was is one still
peak_on : (due : ℕ → Bool) (old new : EngineState) (events more : List Event) (k : ℕ) (q : Query) → new.schema ≡ old.schema → found_of old (k + 1) ≤ found_of new (k + 1) → peak_of new (k + 1) ≤ peak_of old (k + 1) →
    HasPeak due events old k q → HasPeak due (events ++ more) new k q
peak_on due old new events more k q same found few h =
    let first = last_of due (h.count - 1) in
    let whole : take h.count (events ++ more) ≡ take h.count events = take-append-le h.count events more h.among in
    let long = length-append events more in
    let among = h.among in
    record {
      count = h.count;
      among = omega arith;
      nodes = subst (λ (es : List Event). IsBoundedBy (IsRecentAt new.schema q es first) new (k + 1) (peak_of new (k + 1))) (sym whole) (
          subst (λ (s : Declared). IsBoundedBy (IsRecentAt s q (take h.count events) first) new (k + 1) (peak_of new (k + 1))) (sym same) (
          bounded_on (IsRecentAt old.schema q (take h.count events) first) (IsRecentAt old.schema q (take h.count events) first) old new (k + 1) (peak_of old (k + 1)) (peak_of new (k + 1)) (length (take h.count events))
          (λ x r. r) (λ x r. recent_inside old.schema q (take h.count events) first x r) found (inl few) h.nodes));
    }

-- the nodes that there are are a peak
peak_here : (due : ℕ → Bool) (new : EngineState) (events : List Event) (event : Event) (k : ℕ) (q : Query) → peak_of new (k + 1) ≡ len_of new (k + 1) →
    IsBoundedBy (IsRecentAt new.schema q (events ++ event ∷ []) (last_of due (length events))) new (k + 1) (len_of new (k + 1)) → HasPeak due (events ++ event ∷ []) new k q
peak_here due new events event k q is h =
    let all = events ++ event ∷ [] in
    let long = length-append events (event ∷ []) in
    let before : length events ≡ length all - 1 = omega arith in
    record {
      count = length all;
      among = omega arith;
      nodes = subst (λ (n : ℕ). IsBoundedBy (IsRecentAt new.schema q (take (length all) all) (last_of due n)) new (k + 1) (peak_of new (k + 1))) before (
          subst (λ (es : List Event). IsBoundedBy (IsRecentAt new.schema q es (last_of due (length events))) new (k + 1) (peak_of new (k + 1))) (sym (take_all (length all) all (omega arith))) (
          subst (IsBoundedBy (IsRecentAt new.schema q all (last_of due (length events))) new (k + 1)) (sym is) h));
    }

pub windows_on : (due : ℕ → Bool) (before : ℕ → ℕ) (old new : EngineState) (events : List Event) (event : Event) → SameQueries old new → StandsFor new (events ++ event ∷ []) → HasAdded old new event → HasAddedKeys old new event →
    FollowsWindowsBy due before (last_of due (length events)) events old → FollowsWindowsBy due before (last_of due (length events)) (events ++ event ∷ []) new
windows_on due before old new events event same stands added keyed w = record {
  dense = event_keeps_dense old new events event same stands added w.dense;
  nodes = nodes_now;
  keys = event_keeps_keys old new events event same stands added keyed (last_of due (length events)) (last_upto due (length events)) w.keys;
  peaks = λ k q at. (
      let peak = added.peak (k + 1) in
      let found = added.found (k + 1) in
      elim (cases_lt (peak_of old (k + 1)) (len_of new (k + 1))) [
        | inl less ↦ inr (peak_here due new events event k q (peak ∙ most_is (peak_of old (k + 1)) (len_of new (k + 1)) less) (nodes_now k q at))
        | inr least ↦
            let stays = peak ∙ most_stays (peak_of old (k + 1)) (len_of new (k + 1)) least in
            elim (w.peaks k q (subst (λ (qs : List Query). slice_get qs k ≡ Some q) same.1 at)) [
              | inl was ↦ inl (omega arith)
              | inr had ↦ inr (peak_on due old new events (event ∷ []) k q same.0 found (omega arith) had)
            ]
      ]
      );
} where
  nodes_now : FollowsWindowSince (last_of due (length events)) new (events ++ event ∷ [])
  nodes_now = event_keeps_window old new events event same stands added (last_of due (length events)) (last_upto due (length events)) w.nodes

-- so they do before the compaction that may be due
pub windows_due : (due : ℕ → Bool) (before : ℕ → ℕ) (old new : EngineState) (events : List Event) (event : Event) → SameQueries old new → StandsFor new (events ++ event ∷ []) → HasAdded old new event → HasAddedKeys old new event →
    FollowsWindowsBy due before (last_of due (length events)) events old → FollowsWindowsBy due before (last_of due (length (events ++ event ∷ []) - 1)) (events ++ event ∷ []) new
windows_due due before old new events event same stands added keyed w =
    let long = length-append events (event ∷ []) in
    let count : length events ≡ length (events ++ event ∷ []) - 1 = omega arith in
    subst (λ (n : ℕ). FollowsWindowsBy due before (last_of due n) (events ++ event ∷ []) new) count (windows_on due before old new events event same stands added keyed w)

-- A COMPACTION

pub nothing_held : (held : List Open) → length held ≡ 0 → held ≡ []
nothing_held [] none = refl
nothing_held (c ∷ held) none = absurd (omega arith)

-- the peaks are as they were
peaks_stay : (due : ℕ → Bool) (before : ℕ → ℕ) (first : ℕ) (old new : EngineState) (events : List Event) → SameQueries old new → ((query : ℕ) → found_of new query ≡ found_of old query) → ((query : ℕ) → peak_of new query ≡ peak_of old query) →
    FollowsWindowsBy due before first events old → (k : ℕ) (q : Query) → slice_get new.queries k ≡ Some q → (peak_of new (k + 1) ≤ before (k + 1)) ⊎ HasPeak due events new k q
peaks_stay due before first old new events same found peak w k q at =
    let states = found (k + 1) in
    let most = peak (k + 1) in
    elim (w.peaks k q (subst (λ (qs : List Query). slice_get qs k ≡ Some q) same.1 at)) [
      | inl was ↦ inl (omega arith)
      | inr had ↦ inr (subst (λ (es : List Event). HasPeak due es new k q) (append-nil events) (peak_on due old new events [] k q same.0 (omega arith) (omega arith) had))
    ]

-- it is made of all, with no cursor held
pub windows_compacted : (due : ℕ → Bool) (before : ℕ → ℕ) (first : ℕ) (old new : EngineState) (held : List Open) (events : List Event) → due (length events) ≡ true → length held ≡ 0 → SameQueries old new → ((query : ℕ) → found_of new query ≡ found_of old query) →
    ((query : ℕ) → peak_of new query ≡ peak_of old query) → StandsFor new events → IsDense new events → FollowsWindow new events held → KeysFollowWindows new events → FollowsWindowsBy due before first events old → FollowsWindowsBy due before (last_of due (length events)) events new
windows_compacted due before first old new held events has_come none same found peak stands dense window keyed w =
    let left = subst (FollowsWindow new events) (nothing_held held none) window in
    record {
      dense = dense;
      nodes = subst (λ (n : ℕ). FollowsWindowSince n new events) (sym (last_now due (length events) has_come)) (compacted_follows_window new events stands left);
      keys = subst (λ (n : ℕ). KeysFollowWindowsSince n new events) (sym (last_now due (length events) has_come)) (compacted_follow_windows new events keyed);
      peaks = peaks_stay due before first old new events same found peak w;
    }

-- it is made of some, and none of all ever was
pub windows_kept : (due : ℕ → Bool) (before : ℕ → ℕ) (old new : EngineState) (events : List Event) → SameQueries old new → ((query : ℕ) → found_of new query ≡ found_of old query) → ((query : ℕ) → peak_of new query ≡ peak_of old query) →
    ((query : ℕ) → len_of new query ≤ len_of old query) → IsDense new events → FollowsWindowsBy due before 0 events old → FollowsWindowsBy due before 0 events new
windows_kept due before old new events same found peak fewer dense w = record {
  dense = dense;
  nodes = λ k q at. (
      let states = found (k + 1) in
      let Are : ℕ → Type 0 = IsRecentAt old.schema q events 0 in
      subst (λ (s : Declared). IsBoundedBy (IsRecentAt s q events 0) new (k + 1) (len_of new (k + 1))) (sym same.0) (
      bounded_on Are Are old new (k + 1) (len_of old (k + 1)) (len_of new (k + 1)) (length events) (λ x r. r) (λ x r. recent_inside old.schema q events 0 x r) (omega arith) (inl (fewer (k + 1)))
      (w.nodes k q (subst (λ (qs : List Query). slice_get qs k ≡ Some q) same.1 at)))
      );
  keys = λ is_made. absurd (omega arith);
  peaks = peaks_stay due before 0 old new events same found peak w;
}

-- an engine that goes on after it
pub follows_kept : (peaks : ℕ → ℕ) (old new : EngineState) (events : List Event) → SameQueries old new → ((query : ℕ) → found_of new query ≡ found_of old query) → ((query : ℕ) → peak_of new query ≡ peak_of old query) →
    StandsFor new events → IsDense new events → FollowsEvents peaks old events → FollowsEvents peaks new events
follows_kept peaks old new events same found peak stands dense f = record {
  stands = stands;
  dense = dense;
  peaks_are = λ k q at. (
      let states = found (k + 1) in
      let most = peak (k + 1) in
      let Are : ℕ → Type 0 = IsReadFrom old.schema q events 0 in
      elim (f.peaks_are k q (subst (λ (qs : List Query). slice_get qs k ≡ Some q) same.1 at)) [
        | inl was ↦ inl (omega arith)
        | inr had ↦ inr (subst (λ (s : Declared). IsBoundedBy (IsReadFrom s q events 0) new (k + 1) (peak_of new (k + 1))) (sym same.0) (
            bounded_on Are Are old new (k + 1) (peak_of old (k + 1)) (peak_of new (k + 1)) (length events) (λ x r. r) (λ x r. clock_inside old.schema q events x r.clock r.has) (omega arith) (inl (omega arith)) had))
      ]
      );
}

-- none is due
pub windows_stay : (due : ℕ → Bool) (engine : EngineState) (count : ℕ) → ((events : List Event) → StandsFor engine events → count ≡ length events) → due count ≡ false →
    (before : ℕ → ℕ) (events : List Event) → StandsFor engine events → FollowsWindowsBy due before (last_of due (length events - 1)) events engine → FollowsWindowsBy due before (last_of due (length events)) events engine
windows_stay due engine count counted none before events stands w =
    let here : due (length events) ≡ false = subst (λ (n : ℕ). due n ≡ false) (counted events stands) none in
    subst (λ (n : ℕ). FollowsWindowsBy due before n events engine) (sym (last_stays due (length events) here)) w

-- where none ever is, what keeps them keeps them now
pub windows_looked : (first : ℕ) (old new : EngineState) → ((due : ℕ → Bool) (before : ℕ → ℕ) (events : List Event) → FollowsWindowsBy due before 0 events old → FollowsWindowsBy due before 0 events new) →
    (before : ℕ → ℕ) (events : List Event) → StandsFor old events → FollowsWindowsBy (is_due_after None first) before (last_of (is_due_after None first) (length events - 1)) events old → FollowsWindowsBy (is_due_after None first) before (last_of (is_due_after None first) (length events)) events new
windows_looked first old new kept before events stands w =
    let due : ℕ → Bool = is_due_after None first in
    subst (λ (n : ℕ). FollowsWindowsBy due before n events new) (sym (never_last first (length events))) (kept due before events (subst (λ (n : ℕ). FollowsWindowsBy due before n events old) (never_last first (length events - 1)) w))

-- by how the call ended
pub compaction_follows : {T E : Type 0} (r : Result T E) (due : ℕ → Bool) (old new : EngineState) (held : List Open) (count : ℕ) → ((events : List Event) → StandsFor old events → count ≡ length events) → due count ≡ true → length held ≡ 0 →
    SameQueries old new → ((query : ℕ) → found_of new query ≡ found_of old query) → ((query : ℕ) → peak_of new query ≡ peak_of old query) →
    OnOk r ((events : List Event) → StandsFor old events → StandsFor new events) → OnOk r ((events : List Event) → IsDense old events → IsDense new events) →
    OnOk r ((events : List Event) → StandsFor old events → IsDense old events → FollowsWindow new events held) → OnOk r ((events : List Event) → StandsFor old events → KeysFollowWindows new events) →
    OnOk r ((before : ℕ → ℕ) (events : List Event) → StandsFor old events → FollowsWindowsBy due before (last_of due (length events - 1)) events old → FollowsWindowsBy due before (last_of due (length events)) events new)
compaction_follows (Err e) due old new held count counted has_come none same found peak stands dense window keyed = tt
compaction_follows (Ok x) due old new held count counted has_come none same found peak stands dense window keyed = λ before events at w.
    windows_compacted due before (last_of due (length events - 1)) old new held events (subst (λ (n : ℕ). due n ≡ true) (counted events at) has_come) none same found peak (stands events at) (dense events w.dense) (window events at w.dense) (keyed events at) w

-- AT THE END

-- a fact that follows, where all was well
pub on_ok : {T E : Type 0} (r : Result T E) (P Q : Type 0) → (P → Q) → OnOk r P → OnOk r Q
on_ok (Ok done) P Q follows p = follows p
on_ok (Err why) P Q follows p = tt
