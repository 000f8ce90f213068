-- The model that a session is: the events so far and the open cursors, each with the answers that it has not given yet. It knows no engine and no node.
use Rattle.std.specs.Prelude.{◌≡◌, ℕ, ◌-◌, ◌==◌, ◌<◌, ◌≤◌, Bool, nat_le, if◌then◌else◌, List, [], ◌∷◌, ◌++◌, length, take, drop, position, remove, slice_get, slice_set, Option, Some, None, flat_map, decimal, codes}
use Rattle.cer_base.specs.declared.bytes.TheConstants.{LINE_FEED}
use Rattle.stream_schema.specs.Types.{Declared}
use Rattle.stream_schema.specs.declared.Event.{Event}
use Rattle.cel_terms.specs.declared.Query.{Query}
use Rattle.cel_terms.specs.Answers.{Answer, AreAnswersAt}
use Rattle.answer_text.specs.Output.{line}
use Rattle.query_engine.specs.Clocks.{NoneFallsBack, IsFirstToFall}
use Rattle.command_session.specs.declared.command.ScriptCommand.{ScriptCommand}
use Rattle.command_session.specs.declared.command.ScriptCommand.TheVariants as command
use Rattle.command_session.specs.declared.session.Refusal.{Refusal}
use Rattle.command_session.specs.declared.session.Refusal.TheVariants as refusal

-- An open cursor: its number, that of its query, the position at which it was opened, and the answers that it has not given, in the order in which it will give them.
pub record OpenCursor : Type 0 where
  pub number : ℕ
  pub query : ℕ
  pub position : ℕ
  pub left : List Answer

pub record SessionModel : Type 0 where
  pub events : List Event
  pub cursors : List OpenCursor

abbrev pub at_first : SessionModel
at_first = record { events = []; cursors = [] }

abbrev pub has_number : ℕ → OpenCursor → Bool
has_number number cursor = cursor.number == number

-- where the open cursor of this number stands, if there is one
abbrev pub cursor_place : ℕ → SessionModel → Option ℕ
cursor_place number machine = position (has_number number) machine.cursors

-- at 3
abbrev pub position_line : ℕ → List ℕ
position_line position = codes "at " ++ decimal position ++ LINE_FEED ∷ []

abbrev pub end_line : List ℕ
end_line = codes "end" ++ LINE_FEED ∷ []

abbrev pub more_line : List ℕ
more_line = codes "more" ++ LINE_FEED ∷ []

-- whether answers are left once so many were given
abbrev pub pull_end : ℕ → List Answer → List ℕ
pull_end n left = if nat_le (length left) n then end_line else more_line

-- what a pull of so many answers writes: their lines, and whether there are more
abbrev pub pull_text : ℕ → ℕ → ℕ → List Answer → List ℕ
pull_text query position n left = flat_map (line query position) (take n left) ++ pull_end n left

-- The event comes last, and its position is written.
pub record EventStep (schema : Declared) (queries : List Query) (event : Event) (old new : SessionModel) (bytes : List ℕ) : Type 0 where
  pub in_time : NoneFallsBack schema queries old.events event
  pub after : new ≡ record old { events = old.events ++ event ∷ [] }
  pub written : bytes ≡ position_line (length old.events)

-- A cursor comes, which is to give each answer of the query at the last position once.
pub record OpenStep (schema : Declared) (queries : List Query) (query cursor : ℕ) (old new : SessionModel) (bytes : List ℕ) : Type 0 where
  pub one : 1 ≤ query
  pub q : Query
  pub numbered : slice_get queries (query - 1) ≡ Some q
  pub seen : 0 < length old.events
  pub free : cursor_place cursor old ≡ None
  pub answers : List Answer
  pub are : AreAnswersAt schema q old.events (length old.events - 1) answers
  pub after : new ≡ record old { cursors = old.cursors ++ record { number = cursor; query = query; position = length old.events - 1; left = answers } ∷ [] }
  pub written : bytes ≡ []

-- The cursor gives so many of its answers, or all that it has left.
pub record PullStep (number n : ℕ) (old new : SessionModel) (bytes : List ℕ) : Type 0 where
  pub place : ℕ
  pub here : cursor_place number old ≡ Some place
  pub cursor : OpenCursor
  pub at : slice_get old.cursors place ≡ Some cursor
  pub after : new ≡ record old { cursors = slice_set old.cursors place (record cursor { left = drop n cursor.left }) }
  pub written : bytes ≡ pull_text cursor.query cursor.position n cursor.left

-- The cursor goes.
pub record DropStep (number : ℕ) (old new : SessionModel) (bytes : List ℕ) : Type 0 where
  pub place : ℕ
  pub here : cursor_place number old ≡ Some place
  pub after : new ≡ record old { cursors = remove old.cursors place }
  pub written : bytes ≡ []

-- What one command makes of the model, and what it writes.
abbrev pub IsStep : Declared → List Query → ScriptCommand → SessionModel → SessionModel → List ℕ → Type 0
IsStep schema queries (command.Event event) old new bytes = EventStep schema queries event old new bytes
IsStep schema queries (command.OpenAt query cursor) old new bytes = OpenStep schema queries query cursor old new bytes
IsStep schema queries (command.Pull cursor n) old new bytes = PullStep cursor n old new bytes
IsStep schema queries (command.Drop cursor) old new bytes = DropStep cursor old new bytes
IsStep schema queries command.Compact old new bytes = (new ≡ old) × (bytes ≡ [])

-- Why an opening is refused, the first of these: there is no such query, no event was taken, the cursor is open.
abbrev pub OpenRefused : List Query → ℕ → ℕ → SessionModel → Refusal → Type 0
OpenRefused queries query cursor old (refusal.NoQuery q) = (q ≡ query) × ((1 ≤ query) × (query ≤ length queries) → ⊥)
OpenRefused queries query cursor old refusal.NoEventYet = (1 ≤ query) × (query ≤ length queries) × (old.events ≡ [])
OpenRefused queries query cursor old (refusal.CursorOpen c) =
    (c ≡ cursor) × (1 ≤ query) × (query ≤ length queries) × (0 < length old.events) × ((cursor_place cursor old ≡ None) → ⊥)
OpenRefused queries query cursor old _ = ⊥

-- Why a pull or a drop is refused: the cursor is not open.
abbrev pub CursorRefused : ℕ → SessionModel → Refusal → Type 0
CursorRefused cursor old (refusal.CursorNotOpen c) = (c ≡ cursor) × (cursor_place cursor old ≡ None)
CursorRefused cursor old _ = ⊥

-- Why an event is refused: time falls for a query.
abbrev pub EventRefused : Declared → List Query → Event → SessionModel → Refusal → Type 0
EventRefused schema queries event old (refusal.TimeBack query before now) = IsFirstToFall schema queries old.events event query before now
EventRefused schema queries event old _ = ⊥

-- Why a command is refused.
abbrev pub IsRefused : Declared → List Query → ScriptCommand → SessionModel → Refusal → Type 0
IsRefused schema queries (command.Event event) old f = EventRefused schema queries event old f
IsRefused schema queries (command.OpenAt query cursor) old f = OpenRefused queries query cursor old f
IsRefused schema queries (command.Pull cursor n) old f = CursorRefused cursor old f
IsRefused schema queries (command.Drop cursor) old f = CursorRefused cursor old f
IsRefused schema queries command.Compact old f = ⊥
