-- The stream that a history tells, event by event: a blank one stands at each position that no event has.
use Rattle.std.specs.Prelude.{◌≡◌, ℕ, ◌+◌, ◌≤◌, ◌↔◌, false, List, [], ◌∷◌, ◌++◌, map, length, All, Some, slice_get}
use Rattle.std.specs.List.{AllByRecursion}
use Rattle.stream_schema.specs.Types.{Declared, IsWellDeclared}
use Rattle.stream_schema.specs.Events.{IsOfSchema}
use Rattle.stream_schema.specs.declared.Event.{Event}
use Rattle.cel_terms.specs.declared.Query.{Query}
use Rattle.cel_terms.specs.Checked.{IsChecked}
use Rattle.cel_terms.specs.Answers.{Answer, IsAnswer}
use Rattle.query_engine.specs.Clocks.{NeverFalls, NoneFallsBack, IsFirstToFall}
use Rattle.query_engine.specs.Skipping.{AreBlanks}
use Rattle.checkpoint_text.specs.declared.history.EventAt.{EventAt}
use Rattle.checkpoint_text.specs.declared.history.History.{History}
use Rattle.checkpoint_text.specs.declared.clocks.Fall.{Fall}
use Rattle.checkpoint_text.specs.QueryClocks.{NoneFalls}
use Rattle.checkpoint_text.specs.LastClocks.{any_back, first_back}
use Rattle.checkpoint_text.specs.Keeping.{next_event}
use Rattle.checkpoint_text.specs.KeepLaws.{keeping, placed_lines, events_of, kept_lines, IsLineOf, told_stream}

-- these from one position up to another: blank ones before each event, and after the last
abbrev pub AreEventsFrom : Declared → ℕ → ℕ → List EventAt → List Event → Type 0
AreEventsFrom schema from to [] events = AreBlanks schema from to events
AreEventsFrom schema from to (e ∷ later) events = (blanks : List Event) × (rest : List Event) × (events ≡ blanks ++ e.event ∷ rest)
    × AreBlanks schema from e.position blanks × AreEventsFrom schema (e.position + 1) to later rest

-- The events are those of the history.
abbrev pub IsStreamOf : Declared → History → List Event → Type 0
IsStreamOf schema history events = AreEventsFrom schema 0 history.positions history.events events

-- the events that came, each with the text of its line
abbrev pub stream_of : List (Event × List ℕ) → List Event
stream_of came = map (λ e. e.0) came

-- From the end of the events that came on, a query has the same answers whether all of them stand before, or those alone that some window still needs.
abbrev pub RestartingChangesNoAnswer : Type 0
RestartingChangesNoAnswer = (schema : Declared) (queries : List Query) (came : List (Event × List ℕ)) (kept more : List Event) (k : ℕ) (q : Query) (end : ℕ) (answer : Answer) →
    IsWellDeclared schema → slice_get queries k ≡ Some q → IsChecked schema q → All (IsOfSchema schema) (stream_of came) →
    NeverFalls schema q (stream_of came ++ more) → IsStreamOf schema (told_stream (length came) (kept_lines schema queries (placed_lines came))) kept →
    length came ≤ end → (IsAnswer schema q (stream_of came ++ more) end answer) ↔ (IsAnswer schema q (kept ++ more) end answer)

-- With the next event after those that came, the clock falls that a keeper finds to fall first, and none does where it finds none.
abbrev pub KeepersTellFalls : Type 0
KeepersTellFalls = (schema : Declared) (queries : List Query) (came : List (Event × List ℕ)) (next : Event) → IsWellDeclared schema → All (IsChecked schema) queries →
    NoneFalls schema queries (events_of (placed_lines came)) → AllByRecursion (IsLineOf schema) (placed_lines came) →
    let keeper = keeping schema queries came in
    (any_back keeper.schema keeper.queries keeper.lasts (next_event keeper next) ≡ false → NoneFallsBack schema queries (stream_of came) next)
    × ((fall : Fall) → first_back keeper.schema 1 keeper.queries keeper.lasts (next_event keeper next) ≡ Some fall → IsFirstToFall schema queries (stream_of came) next fall.query fall.before fall.now)
