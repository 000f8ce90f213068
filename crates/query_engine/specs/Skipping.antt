-- Blank positions: what an engine is after them, and what does not change.
use Rattle.std.specs.Prelude.{◌≡◌, ℕ, ◌+◌, ◌≤◌, List, [], ◌∷◌, ◌++◌, length, All}
use Rattle.stream_schema.specs.Types.{Declared, IsWellDeclared}
use Rattle.stream_schema.specs.declared.Event.{Event}
use Rattle.cel_terms.specs.declared.Query.{Query}
use Rattle.query_engine.specs.Clocks.{Reads}
use Rattle.query_engine.specs.Engine.{EngineState, Open, StandsFor, KeepsCursors, SameQueries, found_of, len_of, peak_of}
use Rattle.query_engine.specs.Windows.{later_of, IsDense, FollowsWindowSince}
use Rattle.query_engine.specs.EngineModel.{EngineModel, Take, Done, with_event, IsStep, IsEngineModel}

-- A blank event: its type is not declared.
abbrev pub IsBlank : Declared → Event → Type 0
IsBlank schema event = length schema.types ≤ event.ty

-- As many blank events as there are positions more.
pub record AreBlanks (schema : Declared) (before after : ℕ) (blanks : List Event) : Type 0 where
  pub blank : All (IsBlank schema) blanks
  pub count : before + length blanks ≡ after

-- What was found and is kept stays: states, nodes with their greatest starts, and the most nodes that there were.
pub record KeepsAll (old new : EngineState) : Type 0 where
  pub found : (query : ℕ) → found_of new query ≡ found_of old query
  pub nodes : (query : ℕ) → len_of new query ≡ len_of old query
  pub later : (query position : ℕ) → later_of new query position ≡ later_of old query position
  pub peak : (query : ℕ) → peak_of new query ≡ peak_of old query

-- No query reads a blank event.
abbrev pub BlanksAreUnread : Type 0
BlanksAreUnread = (schema : Declared) (q : Query) (event : Event) → IsWellDeclared schema → IsBlank schema event → Reads schema q event → ⊥

-- Over events that are put after, what bounds the nodes stays, where nothing is kept of them.
abbrev pub SkippingKeepsDense : Type 0
SkippingKeepsDense = (old new : EngineState) (events more : List Event) →
    SameQueries old new → KeepsAll old new → IsDense old events → IsDense new (events ++ more)

abbrev pub SkippingKeepsWindow : Type 0
SkippingKeepsWindow = (old new : EngineState) (events more : List Event) (first : ℕ) → first ≤ length events →
    SameQueries old new → KeepsAll old new → FollowsWindowSince first old events → FollowsWindowSince first new (events ++ more)

-- The model takes these events, one after the other.
abbrev pub TakesAll : Declared → List Query → EngineModel → List Event → EngineModel → Type 0
TakesAll schema queries m [] after = after ≡ m
TakesAll schema queries m (event ∷ events) after = IsStep schema queries m (Take event) Done (with_event m event) × TakesAll schema queries (with_event m event) events after

-- Where positions are skipped, the model takes a blank event for each, and its cursors stay.
abbrev pub SkippingIsSteps : Type 0
SkippingIsSteps = (old new : EngineState) (held : List Open) (m : EngineModel) (blanks : List Event) → IsWellDeclared old.schema → IsEngineModel old held m →
    All (IsBlank old.schema) blanks → StandsFor new (m.events ++ blanks) → KeepsCursors old new →
    TakesAll old.schema old.queries m blanks (record m { events = m.events ++ blanks }) × IsEngineModel new held (record m { events = m.events ++ blanks })
