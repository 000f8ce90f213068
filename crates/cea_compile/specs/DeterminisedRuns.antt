-- The determinised run of a query over the events of a substream, and what it has to do with the query's answers. After "CORE: a Complex Event Recognition Engine" (PVLDB 2022).
use Rattle.std.specs.Prelude.{◌≡◌, ℕ, ◌↔◌, nat_le, Bool, true, false, ◌&&◌, List, map, filter, Contains, Option, Some, None, slice_get, if◌then◌else◌}
use Rattle.std.specs.List.{list_all}
use Rattle.stream_schema.specs.Types.{Declared}
use Rattle.stream_schema.specs.declared.Event.{Event}
use Rattle.cel_terms.specs.declared.Query.{Query}
use Rattle.cel_terms.specs.Answers.{Answer, IsAnswer, IsAscending, IsInWindow, IsOfSubstream}
use Rattle.query_leaves.specs.Expand.{Occurrence, tree_of}
use Rattle.query_leaves.specs.Leaves.{occurrences, occurrence_reads}
use Rattle.cea_determinise.specs.Runs.{Entry, has_mark}
use Rattle.cea_determinise.specs.Strict.{Standing, begin, run_standing, accepted_standing}
use Rattle.cea_compile.specs.Compiled.{automaton_of}

-- The positions of the substream that the event at the end is in, ascending.
pub record ListsSubstream (schema : Declared) (q : Query) (events : List Event) (end : ℕ) (positions : List ℕ) : Type 0 where
  pub ascending : IsAscending positions
  pub exact : (p : ℕ) → Contains positions p ↔ IsOfSubstream schema q events end p

-- those of the positions from a start to an end
abbrev pub from_to : ℕ → ℕ → List ℕ → List ℕ
from_to start end positions = filter (λ p. nat_le start p && nat_le p end) positions

-- whether the leaf can read the event, where both are there
abbrev pub reads_at : Declared → Option Occurrence → Option Event → Bool
reads_at schema None event = false
reads_at schema (Some o) None = false
reads_at schema (Some o) (Some event) = occurrence_reads schema o event

-- a position, and the leaves of the query that can read the event there
abbrev pub entry_at : Declared → Query → List Event → ℕ → Entry
entry_at schema q events p =
    record { position = p; bits = λ k. reads_at schema (slice_get (occurrences (tree_of q)) k) (slice_get events p) }

-- The state that the events of the substream from the start to the end lead to, where those at the marks take the marked successor, and the others the unmarked one. There is none where a successor is none, or where the start, the end or a mark is no position of the substream there.
abbrev pub determinised_run : Declared → Query → List Event → List ℕ → ℕ → ℕ → List ℕ → Option Standing
determinised_run schema q events positions start end marks =
    let span = from_to start end positions in
    if has_mark span start && (has_mark span end && list_all (has_mark span) marks) then run_standing (automaton_of (tree_of q)) q.strict (has_mark marks) begin (map (entry_at schema q events) span) else None

-- the determinised run of the answer's marks accepts
abbrev pub IsAcceptedRun : Declared → Query → List Event → List ℕ → ℕ → Answer → Type 0
IsAcceptedRun schema q events positions end answer =
    accepted_standing (automaton_of (tree_of q)) (determinised_run schema q events positions answer.start end answer.marks) ≡ true

-- A query has an answer at an end exactly where its marks ascend, the determinised run that takes them accepts, and it is in the window.
abbrev pub AnswersAreAcceptedRuns : Type 0
AnswersAreAcceptedRuns = (schema : Declared) (q : Query) (events : List Event) (end : ℕ) (positions : List ℕ) (answer : Answer) →
    ListsSubstream schema q events end positions →
    IsAnswer schema q events end answer ↔ (IsAscending answer.marks × IsAcceptedRun schema q events positions end answer × IsInWindow schema q events answer.start end)
