-- Query states that keep no clock: what they are after later events, and that these are no-ops for them.
use Rattle.std.specs.Prelude.{◌≡◌, ℕ, ◌+◌, ◌≤◌, ◌==◌, ◌⊎◌, ℤ, ◌≤ℤ◌, if◌then◌else◌, [], All, Option, None}
use Rattle.stream_schema.specs.Types.{Declared}
use Rattle.stream_schema.specs.Events.{IsOfSchema}
use Rattle.stream_schema.specs.declared.Event.{Event}
use Rattle.cel_terms.specs.declared.Query.{Query}
use Rattle.cel_terms.specs.Answers.{HasClock}
use Rattle.query_leaves.specs.Expand.{tree_of}
use Rattle.query_standing.specs.Clocks.{Reads}
use Rattle.query_standing.specs.Kept.{QueryState, Rows}
use Rattle.query_standing.specs.Dormancy.{IsNoOp}
use Rattle.cea_compile.specs.Compiled.{automaton_of}
use Rattle.event_update.specs.Dormancy.{IsSkipInsensitive}
use Rattle.event_update.specs.Dormancy.{AreDormant}
use Rattle.all_or_none.specs.Phases.{Phase, IsIdle, CanPrepare, IsNoOpFor, IsDormant, IsEmpty}

-- the number of the last event's key after so many events: of none, where the last one was a no-op for the query state
abbrev pub here_at : ℕ → ℕ → Option ℕ → Option ℕ
here_at upto n here = if n == upto then here else None

-- what the query state is after so many events
abbrev pub phase_at : ℕ → Phase → Phase
phase_at count p = record p { kept = record p.kept { here = here_at p.upto count p.kept.here } }

-- Each event of the schema that the query reads has a clock.
abbrev pub HasTimes : Declared → Query → Type 0
HasTimes schema q = (event : Event) (p : ℕ) → IsOfSchema schema event → Reads schema q event → (now : ℤ) × HasClock schema q.window event p now

-- the automaton is skip-insensitive, or the lists of each key are dormant
abbrev pub LetsPass : Query → QueryState → Type 0
LetsPass q query_state = IsSkipInsensitive (automaton_of (tree_of q)) q.strict ⊎ All (AreDormant query_state.table) query_state.rows

-- An event that leaves what is kept as it is is a no-op for the query state, whatever its window, its partition and the types that it reads.
abbrev pub EventsAreNoOps : Type 0
EventsAreNoOps = (p : Phase) (event : Event) (position : ℕ) → IsIdle p → HasTimes p.schema p.query → p.upto ≤ position → CanPrepare event position (phase_at position p) →
    (Reads p.schema p.query event → IsNoOp p.schema p.query event p.kept) → IsNoOpFor event position (phase_at position p) (phase_at (position + 1) p)

-- So a query state is dormant where its automaton is skip-insensitive, or all its lists are dormant.
abbrev pub QueryStatesAreDormant : Type 0
QueryStatesAreDormant = (p : Phase) → IsIdle p → HasTimes p.schema p.query → LetsPass p.query p.kept → IsDormant (λ n. phase_at n p)

-- It has no open match where the list of each key is empty.
abbrev pub QueryStatesAreEmpty : Type 0
QueryStatesAreEmpty = (p : Phase) → IsIdle p → HasTimes p.schema p.query → All (λ (rows : Rows). rows ≡ []) p.kept.rows → IsEmpty (λ n. phase_at n p)
