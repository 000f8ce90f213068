-- Which events of a stream the windows still need, and what keeps them.
use Rattle.std.specs.Prelude.{ℕ, ℤ, pos, ◌+ℤ◌, int_lt, not, ◌+◌, Bool, true, false, ◌||◌, List, [], ◌∷◌, ◌++◌, filter, length, flat_map, Option, Some, None, codes}
use Rattle.std.specs.List.{list_any}
use Rattle.cer_base.specs.declared.bytes.TheConstants.{LINE_FEED}
use Rattle.stream_schema.specs.Types.{Declared}
use Rattle.stream_schema.specs.declared.Event.{Event}
use Rattle.cel_terms.specs.declared.Query.{Query}
use Rattle.cel_terms.specs.declared.Window.{Window}
use Rattle.cel_terms.specs.declared.Window.TheVariants.{Free, Events, Clock}
use Rattle.checkpoint_text.specs.declared.history.EventAt.{EventAt}
use Rattle.checkpoint_text.specs.declared.keeping.KeptLine.{KeptLine}
use Rattle.checkpoint_text.specs.QueryClocks.{clock_at, last_clock}
use Rattle.checkpoint_text.specs.LastClocks.{next_clocks}
use Rattle.checkpoint_text.specs.Spelling.{counts_text, position_text}

-- a start with the first clock is in the window of an event with the second
abbrev pub is_within : Window → ℤ → ℤ → Bool
is_within Free from last = true
is_within (Events n) from last = not (int_lt (from +ℤ pos n) last)
is_within (Clock name n) from last = not (int_lt (from +ℤ n) last)

-- whether an event's clock, where it has one, is within the window of the last clock; before any last one all are
abbrev pub are_within : Window → Option ℤ → Option ℤ → Bool
are_within window (Some from) (Some last) = is_within window from last
are_within window (Some from) None = true
are_within window None last = false

-- the query still needs the event: it reads it, and it is in the window of the last event that the query reads
abbrev pub needs : Declared → List EventAt → EventAt → Query → Bool
needs schema events e q = are_within q.window (clock_at schema q e) (last_clock schema q events)

-- some query does
abbrev pub is_needed : Declared → List Query → List EventAt → EventAt → Bool
is_needed schema queries events e = list_any (needs schema events e) queries

-- The events that are needed once all have come.
abbrev pub kept : Declared → List Query → List EventAt → List EventAt
kept schema queries events = filter (is_needed schema queries events) events

-- whether some query needs the event, from the last clocks of the queries
abbrev pub any_needs : Declared → List Query → List (Option ℤ) → EventAt → Bool
any_needs schema [] lasts e = false
any_needs schema (q ∷ queries) [] e = false
any_needs schema (q ∷ queries) (last ∷ lasts) e = are_within q.window (clock_at schema q e) last || any_needs schema queries lasts e

-- What contracts see of a keeper: the queries, how many events came, the lines of those that are needed, and the last
-- clocks of the queries.
pub record Keeper : Type 0 where
  pub schema : Declared
  pub queries : List Query
  pub positions : ℕ
  pub lines : List KeptLine
  pub lasts : List (Option ℤ)

-- the lines that are needed
abbrev pub needed : Declared → List Query → List (Option ℤ) → List KeptLine → List KeptLine
needed schema queries lasts lines = filter (λ line. any_needs schema queries lasts line.at) lines

-- the event with the next position
abbrev pub next_event : Keeper → Event → EventAt
next_event keeper event = record { position = keeper.positions; event = event }

-- with one event more, of a line with this text
abbrev pub with_event : Keeper → Event → List ℕ → Keeper
with_event keeper event text = record keeper {
  positions = keeper.positions + 1;
  lines = needed keeper.schema keeper.queries (next_clocks keeper.schema keeper.queries keeper.lasts (next_event keeper event)) (keeper.lines ++ record { at = next_event keeper event; text = text } ∷ []);
  lasts = next_clocks keeper.schema keeper.queries keeper.lasts (next_event keeper event);
}

-- at 1
-- A,2
abbrev pub line_text : KeptLine → List ℕ
line_text line = position_text line.at.position ++ LINE_FEED ∷ line.text ++ LINE_FEED ∷ []

-- The text of a checkpoint: so many positions, and these lines.
abbrev pub checkpoint_text : ℕ → List KeptLine → List ℕ
checkpoint_text positions lines =
    codes "core checkpoint 1\n" ++ counts_text positions (length lines) ++ LINE_FEED ∷ flat_map line_text lines
