-- The last clocks of several queries, computed. Private clauses alone cite these.
use Rattle.std.specs.Prelude.{ℕ, ◌+◌, ℤ, int_lt, Bool, false, ◌||◌, if◌then◌else◌, List, [], ◌∷◌, map, Option, Some, None}
use Rattle.stream_schema.specs.Types.{Declared}
use Rattle.cel_terms.specs.declared.Query.{Query}
use Rattle.checkpoint_text.specs.declared.clocks.Fall.{Fall}
use Rattle.checkpoint_text.specs.declared.history.EventAt.{EventAt}
use Rattle.checkpoint_text.specs.QueryClocks.{clock_at, later_clock, last_clock, is_back}

-- those of the queries, each after the same events
abbrev pub last_clocks : Declared → List Query → List EventAt → List (Option ℤ)
last_clocks schema queries events = map (λ q. last_clock schema q events) queries

-- with the event, the clock of one of the queries falls, whose last clocks these are
abbrev pub any_back : Declared → List Query → List (Option ℤ) → EventAt → Bool
any_back schema [] lasts e = false
any_back schema (q ∷ queries) [] e = false
any_back schema (q ∷ queries) (last ∷ lasts) e = is_back last (clock_at schema q e) || any_back schema queries lasts e

-- how the clock of the query with this number falls, where it does
abbrev pub fall_of : ℕ → Option ℤ → Option ℤ → Option Fall
fall_of k (Some before) (Some now) = if int_lt now before then Some (record { query = k; before = before; now = now }) else None
fall_of k _ _ = None

abbrev pub fall_or : Option Fall → Option Fall → Option Fall
fall_or (Some fall) others = Some fall
fall_or None others = others

-- how the clock falls of the first of the queries, numbered from so much on, whose clock does
abbrev pub first_back : Declared → ℕ → List Query → List (Option ℤ) → EventAt → Option Fall
first_back schema k [] lasts e = None
first_back schema k (q ∷ queries) [] e = None
first_back schema k (q ∷ queries) (last ∷ lasts) e = fall_or (fall_of k last (clock_at schema q e)) (first_back schema (k + 1) queries lasts e)

-- the last clocks with the event
abbrev pub next_clocks : Declared → List Query → List (Option ℤ) → EventAt → List (Option ℤ)
next_clocks schema [] lasts e = []
next_clocks schema (q ∷ queries) [] e = []
next_clocks schema (q ∷ queries) (last ∷ lasts) e = later_clock last (clock_at schema q e) ∷ next_clocks schema queries lasts e
