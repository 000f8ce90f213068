-- How many nodes an engine keeps that is compacted after every so many events: they follow the windows of its queries.
use Rattle.std.specs.Prelude.{◌≡◌, ℕ, zero, suc, ◌+◌, ◌-◌, ◌%◌, ◌≤◌, ◌⊎◌, Bool, false, ◌&&◌, ◌==◌, nat_lt, cond, List, length, take, Option, Some, None, slice_get}
use Rattle.stream_schema.specs.declared.Event.{Event}
use Rattle.cel_terms.specs.declared.Query.{Query}
use Rattle.query_engine.specs.Engine.{EngineState, StandsFor, peak_of}
use Rattle.query_engine.specs.Keys.{KeysFollowWindowsSince}
use Rattle.query_engine.specs.Peaks.{PeaksFollow}
use Rattle.query_engine.specs.Windows.{IsBoundedBy, IsDense, IsRecentAt, FollowsWindowSince}

-- a compaction is made after so many events, which is after every N-th one, where such an N is given
abbrev pub is_due : Option ℕ → ℕ → Bool
is_due None events = false
is_due (Some n) events = nat_lt 0 n && (events % n == 0)

-- whether one is due after so many events, of which the first so many do not count
abbrev pub is_due_after : Option ℕ → ℕ → ℕ → Bool
is_due_after every zero = is_due every
is_due_after every (suc n) = λ events. nat_lt (suc n) events && is_due every (events - suc n)

-- how many events there were at the last compaction, where so many have come and compactions are due so: 0 where there was none
abbrev pub last_of : (ℕ → Bool) → ℕ → ℕ
last_of due zero = 0
last_of due (suc n) = cond (due (suc n)) (suc n) (last_of due n)

-- After one of the events there were as many nodes as at most ever: they are bounded by the events up to it that came after the compaction before it, and those in the windows that this left.
pub record HasPeak (due : ℕ → Bool) (events : List Event) (engine : EngineState) (k : ℕ) (q : Query) : Type 0 where
  pub count : ℕ
  pub among : count ≤ length events
  pub nodes : IsBoundedBy (IsRecentAt engine.schema q (take count events) (last_of due (count - 1))) engine (k + 1) (peak_of engine (k + 1))

-- The engine stands for the events, was compacted after the first so many, and had these peaks before it took any. Its nodes are bounded by the events since then and those in the windows that this left, and so are the keys of each query that has a window.
pub record FollowsWindowsBy (due : ℕ → Bool) (before : ℕ → ℕ) (first : ℕ) (events : List Event) (engine : EngineState) : Type 0 where
  pub dense : IsDense engine events
  pub nodes : FollowsWindowSince first engine events
  pub keys : KeysFollowWindowsSince first engine events
  pub peaks : (k : ℕ) (q : Query) → slice_get engine.queries k ≡ Some q → (peak_of engine (k + 1) ≤ before (k + 1)) ⊎ HasPeak due events engine k q

-- What an engine is that goes on with events after these: it stands for them, and its nodes and its peaks follow them; these were its peaks before any of them.
pub record FollowsEvents (peaks : ℕ → ℕ) (engine : EngineState) (events : List Event) : Type 0 where
  pub stands : StandsFor engine events
  pub dense : IsDense engine events
  pub peaks_are : PeaksFollow peaks engine events
