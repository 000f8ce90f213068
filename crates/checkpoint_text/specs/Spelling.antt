-- How a checkpoint is spelled, apart from how it is read; the laws say that the two agree.
use Rattle.std.specs.Prelude.{◌≡◌, ◌↔◌, ℕ, ◌≤◌, List, [], ◌∷◌, ◌++◌, length, Some, None, Ok, codes, decimal}
use Rattle.stream_schema.specs.Types.{Declared}
use Rattle.cel_terms.specs.declared.Query.{Query}
use Rattle.event_reader.specs.Events.{event_of_line}
use Rattle.event_reader.specs.Lines.{FileLines}
use Rattle.event_reader.specs.declared.words.TheConstants.{BLANK}
use Rattle.checkpoint_text.specs.declared.numbers.TheConstants.{MOST_POSITIONS}
use Rattle.checkpoint_text.specs.declared.history.EventAt.{EventAt}
use Rattle.checkpoint_text.specs.declared.history.History.{History}
use Rattle.checkpoint_text.specs.QueryClocks.{NoneFalls}
use Rattle.checkpoint_text.specs.Histories.{ArePlaced}
use Rattle.checkpoint_text.specs.Checkpoints.{history_in}

-- events 3 2
abbrev pub counts_text : ℕ → ℕ → List ℕ
counts_text positions count = codes "events " ++ decimal positions ++ BLANK ∷ decimal count

-- at 1
abbrev pub position_text : ℕ → List ℕ
position_text position = codes "at " ++ decimal position

-- two lines for each event: its position, and a text that gives it
abbrev pub AreEventLines : Declared → List EventAt → List (List ℕ) → Type 0
AreEventLines schema [] lines = lines ≡ []
AreEventLines schema (e ∷ events) lines = (text : List ℕ) × (rest : List (List ℕ)) × (lines ≡ position_text e.position ∷ text ∷ rest)
    × (event_of_line schema text ≡ Ok (Some e.event)) × AreEventLines schema events rest

-- A stream that a checkpoint may tell.
pub record IsHistory (schema : Declared) (queries : List Query) (history : History) : Type 0 where
  pub few : history.positions ≤ MOST_POSITIONS
  pub counted : length history.events ≤ history.positions
  pub placed : ArePlaced history.positions history.events
  pub level : NoneFalls schema queries history.events

-- The lines are those of the history.
pub record Spells (schema : Declared) (queries : List Query) (lines : List (List ℕ)) (history : History) : Type 0 where
  pub is : IsHistory schema queries history
  pub later : List (List ℕ)
  pub first : lines ≡ codes "core checkpoint 1" ∷ counts_text history.positions (length history.events) ∷ later
  pub events : AreEventLines schema history.events later

-- A text is read as a history exactly where it ends and its lines are those of the history.
abbrev pub HistoriesAreSpelled : Type 0
HistoriesAreSpelled = (schema : Declared) (queries : List Query) (file : FileLines) (history : History) →
    (history_in schema queries file ≡ Ok history) ↔ ((file.fault ≡ None) × Spells schema queries file.texts history)
