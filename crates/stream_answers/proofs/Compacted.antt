-- The compaction after an event: what it leaves, and its steps.
use Rattle.std.proofs.Common.{◌≡◌, ℕ, ◌+◌, ◌-◌, ◌≤◌, List, [], ◌∷◌, ◌++◌, length, Option, Some, slice_get, sym, ap, subst, ◌∙◌, arith}
use Rattle.stream_schema.specs.Types.{Declared}
use Rattle.stream_schema.specs.declared.Event.{Event}
use Rattle.cel_terms.specs.declared.Query.{Query}
use Rattle.query_engine.specs.Bounds.{update_bound}
use Rattle.query_engine.specs.Engine.{EngineState, StandsFor, SameQueries, found_of, len_of}
use Rattle.query_engine.specs.declared.sizes.Size.{Size}
use Rattle.query_engine.specs.Counts.{MeetMost, HasFewNodes, event_bound}
use Rattle.query_engine.specs.Keys.{HasAddedKeys}
use Rattle.query_engine.specs.Windows.{HasAdded}
use Rattle.query_engine.proofs.FewNodes.{event_adds_few}
use Rattle.stream_answers.specs.Streams.{RunRequest}
use Rattle.stream_answers.specs.Schedules.{Timing, Plan, due_by, pace, saved, saved_by, WithNoNumber, IsGoingOn, IsOnTime}
use Rattle.stream_answers.specs.Windows.{last_of, FollowsWindowsBy}
use Rattle.stream_answers.specs.Steps.{compaction_by}
use Rattle.stream_answers.specs.Counting.{IsCompacted}
use Rattle.stream_answers.proofs.Growing.{with_none, given_both, event_pays, goes_on}

-- what is met by the queries that were asked, in the words of the engine
pub met_here : (a : RunRequest) (engine : EngineState) (events : List Event) (most : ℕ → ℕ) → engine.schema ≡ a.schema → engine.queries ≡ a.queries → MeetMost a.schema a.queries events most → MeetMost engine.schema engine.queries events most
met_here a engine events most same alike meet =
    let S : Declared → Type 0 = λ s. MeetMost s a.queries events most in
    let Q : List Query → Type 0 = λ qs. MeetMost engine.schema qs events most in
    subst Q (sym alike) (subst S (sym same) meet)

-- an event was taken, and then the engine was compacted where that is due
pub compacted : (timing : Timing) (a : RunRequest) (old engine now : EngineState) (events : List Event) (next : Event) (before after : ℕ) → engine.schema ≡ a.schema → engine.queries ≡ a.queries → SameQueries old engine → SameQueries engine now →
    StandsFor engine (events ++ next ∷ []) → StandsFor now (events ++ next ∷ []) →
    ((most : ℕ → ℕ) → MeetMost a.schema a.queries events most → HasFewNodes old (length events) most) →
    ((query : ℕ) → len_of engine query ≤ len_of old query + update_bound (found_of engine query)) → ((query : ℕ) → len_of now query ≤ len_of engine query) →
    ((most : ℕ → ℕ) → MeetMost engine.schema engine.queries (events ++ next ∷ []) most → HasFewNodes engine (length (events ++ next ∷ [])) most → after ≤ before + compaction_by (due_by timing) (length engine.queries) most (length (events ++ next ∷ []))) →
    ((most : ℕ → ℕ) → MeetMost a.schema a.queries (events ++ next ∷ []) most → MeetMost a.schema a.queries events most) →
    IsCompacted timing a (events ++ next ∷ []) now before after
compacted timing a old engine now events next before after same alike kept left stands stands_now few growth fewer paid first =
    let all = events ++ next ∷ [] in
    let met : (most : ℕ → ℕ) → MeetMost a.schema a.queries all most → MeetMost engine.schema engine.queries all most = λ most meet. met_here a engine all most same alike meet in
    let here : (most : ℕ → ℕ) → MeetMost a.schema a.queries all most → HasFewNodes engine (length all) most =
    λ most meet. event_adds_few old engine events next most kept stands (met most meet) growth (few most (first most meet)) in
    record {
      stands = stands_now;
      few = λ most meet k q at. (
          let le = here most meet k q (subst (λ (qs : List Query). slice_get qs k ≡ Some q) left.1 at) in
          let less = fewer (k + 1) in
          omega arith
          );
      steps = λ most meet. subst (λ (qs : List Query). after ≤ before + compaction_by (due_by timing) (length qs) most (length all)) alike (paid most (met most meet) (here most meet));
    }

-- WHAT A SCHEDULE MADE OF THE ENGINE
-- Here in the words of the timing that a run began with, which the schedule still has.

-- an event pays for what is put by after it
pub pays_for : (every : Option ℕ) (a : RunRequest) (old engine : EngineState) (events : List Event) (next : Event) (bases : List Size) → engine.schema ≡ a.schema → engine.queries ≡ a.queries → SameQueries old engine →
    StandsFor engine (events ++ next ∷ []) → HasAdded old engine next → HasAddedKeys old engine next → (most : ℕ → ℕ) → MeetMost a.schema a.queries (events ++ next ∷ []) most →
    event_bound (length a.queries) most + saved_by every engine bases ≤ saved_by every old bases + pace every (length a.queries) most
pays_for every a old engine events next bases same alike kept stands added keys most meet =
    subst (λ (qs : List Query). event_bound (length qs) most + saved_by every engine bases ≤ saved_by every old bases + pace every (length qs) most) alike (
    event_pays every old engine events next bases most kept stands added keys (met_here a engine (events ++ next ∷ []) most same alike meet))

-- as many notes as queries
pub noted_all : (bases : List Size) (queries others : List Query) → others ≡ queries → length bases ≡ length queries → length bases ≡ length others
noted_all bases queries others alike noted = noted ∙ ap length (sym alike)

module _ (plan now : Plan) (timing : Timing) (old new : EngineState) (is : plan.timing ≡ timing) where
  pub paid_in_time : (before after : ℕ) → now.timing ≡ plan.timing → ((events : List Event) (most : ℕ → ℕ) → StandsFor old events → MeetMost old.schema old.queries events most → HasFewNodes old (length events) most →
      after + saved now new ≤ before + saved plan old + compaction_by (due_by plan.timing) (length old.queries) most (length events)) →
      (events : List Event) → StandsFor old events → (most : ℕ → ℕ) → MeetMost old.schema old.queries events most → HasFewNodes old (length events) most →
      after + saved_by timing.every new now.bases ≤ before + saved_by timing.every old plan.bases + compaction_by (due_by timing) (length old.queries) most (length events)
  paid_in_time before after same paid events stands most meet few =
      subst (λ (t : Timing). after + saved_by t.every new now.bases ≤ before + saved_by t.every old plan.bases + compaction_by (due_by t) (length old.queries) most (length events)) is (
      subst (λ (t : Timing). after + saved_by t.every new now.bases ≤ before + saved_by plan.timing.every old plan.bases + compaction_by (due_by plan.timing) (length old.queries) most (length events)) same (paid events most stands meet few))

  pub windows_in_time : ((before : ℕ → ℕ) (events : List Event) → StandsFor old events → FollowsWindowsBy (due_by plan.timing) before (last_of (due_by plan.timing) (length events - 1)) events old →
      FollowsWindowsBy (due_by plan.timing) before (last_of (due_by plan.timing) (length events)) events new) →
      (before : ℕ → ℕ) (events : List Event) → StandsFor old events → FollowsWindowsBy (due_by timing) before (last_of (due_by timing) (length events - 1)) events old →
      FollowsWindowsBy (due_by timing) before (last_of (due_by timing) (length events)) events new
  windows_in_time follows =
      subst (λ (t : Timing). (before : ℕ → ℕ) (events : List Event) → StandsFor old events → FollowsWindowsBy (due_by t) before (last_of (due_by t) (length events - 1)) events old →
      FollowsWindowsBy (due_by t) before (last_of (due_by t) (length events)) events new) is follows

  -- after one event more
  pub on_in_time : (first : EngineState) (events : List Event) (next : Event) → SameQueries first old → HasAdded first old next → HasAddedKeys first old next →
      WithNoNumber plan.timing.every (IsGoingOn plan old (events ++ next ∷ []) → IsOnTime now new (events ++ next ∷ [])) → WithNoNumber timing.every (IsOnTime plan first events) → WithNoNumber timing.every (IsOnTime now new (events ++ next ∷ []))
  on_in_time first events next same added keys kept before =
      let all = events ++ next ∷ [] in
      let kept_now = subst (λ (t : Timing). WithNoNumber t.every (IsGoingOn plan old all → IsOnTime now new all)) is kept in
      given_both timing.every (IsGoingOn plan old all) (IsOnTime now new all) kept_now (with_none timing.every (IsOnTime plan first events) (IsGoingOn plan old all) (goes_on plan first old events next same added keys) before)
