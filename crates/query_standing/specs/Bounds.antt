-- How many steps the calls take at most, as functions of how many states were found.
use Rattle.std.specs.Prelude.{◌≡◌, ℕ, ◌+◌, ◌*◌, ◌^◌, ◌≤◌, List, ◌++◌, length, All, sum, map, Some}
use Rattle.std.specs.List.{range_with_len}
use Rattle.stream_schema.specs.Types.{Declared}
use Rattle.stream_schema.specs.declared.Event.{Event}
use Rattle.cel_terms.specs.declared.Query.{Query}
use Rattle.cer_base.specs.Repeats.{HasNoRepeats}
use Rattle.cea_determinise.specs.Strict.{Standing}
use Rattle.cea_compile.specs.DeterminisedRuns.{ListsSubstream, determinised_run}

-- for one query, with so many states found
abbrev pub update_bound : ℕ → ℕ
update_bound found = 16 * (found + 2) ^ 2

-- for one answer with so many positions
abbrev pub delay : ℕ → ℕ
delay positions = 4 * (positions + 1)

-- so much for each of so many queries, which are numbered from 1
abbrev pub for_each_query : ℕ → (ℕ → ℕ) → ℕ
for_each_query queries cost = sum (map cost (range_with_len 1 queries))

-- some run over a first part of the events leads to the state
pub record IsMet (schema : Declared) (q : Query) (events : List Event) (state : Standing) : Type 0 where
  pub first : List Event
  pub later : List Event
  pub whole : events ≡ first ++ later
  pub end : ℕ
  pub positions : List ℕ
  pub lists : ListsSubstream schema q first end positions
  pub start : ℕ
  pub marks : List ℕ
  pub leads : determinised_run schema q first positions start end marks ≡ Some state

-- The runs over the events lead to at most so many states.
abbrev pub MeetAtMost : Declared → Query → List Event → ℕ → Type 0
MeetAtMost schema q events n = (states : List Standing) → HasNoRepeats states → All (IsMet schema q events) states → length states ≤ n
