-- Laws of keepers, and of what they write.
use Rattle.std.specs.Prelude.{◌≡◌, ℕ, ◌+◌, ◌<◌, ◌≤◌, List, [], ◌∷◌, map, filter, fold, length, Some, Ok}
use Rattle.std.specs.List.{AllByRecursion}
use Rattle.std.specs.Str.Lines.{strip_carriage_return}
use Rattle.stream_schema.specs.Types.{Declared}
use Rattle.stream_schema.specs.declared.Event.{Event}
use Rattle.cel_terms.specs.declared.Query.{Query}
use Rattle.event_reader.specs.Events.{event_of_line}
use Rattle.event_reader.specs.LineBuffers.{IsShort}
use Rattle.checkpoint_text.specs.declared.numbers.TheConstants.{MOST_POSITIONS}
use Rattle.cer_base.specs.declared.limits.TheConstants.{MOST_BYTES}
use Rattle.checkpoint_text.specs.declared.history.EventAt.{EventAt}
use Rattle.checkpoint_text.specs.declared.history.History.{History}
use Rattle.checkpoint_text.specs.declared.keeping.KeptLine.{KeptLine}
use Rattle.checkpoint_text.specs.QueryClocks.{NoneFalls}
use Rattle.checkpoint_text.specs.LastClocks.{last_clocks}
use Rattle.checkpoint_text.specs.Checkpoints.{checkpoint_of}
use Rattle.checkpoint_text.specs.Spelling.{IsHistory}
use Rattle.checkpoint_text.specs.Keeping.{Keeper, is_needed, with_event, checkpoint_text}

-- of no event yet
abbrev pub empty_keeper : Declared → List Query → Keeper
empty_keeper schema queries = record { schema = schema; queries = queries; positions = 0; lines = []; lasts = last_clocks schema queries [] }

-- the keeper once these events have come, each with the text of its line
abbrev pub keeping : Declared → List Query → List (Event × List ℕ) → Keeper
keeping schema queries came = fold (λ keeper e. with_event keeper e.0 e.1) (empty_keeper schema queries) came

-- their lines, of which the first has this position
abbrev pub placed_lines_from : ℕ → List (Event × List ℕ) → List KeptLine
placed_lines_from n [] = []
placed_lines_from n (e ∷ came) = record { at = record { position = n; event = e.0 }; text = e.1 } ∷ placed_lines_from (n + 1) came

abbrev pub placed_lines : List (Event × List ℕ) → List KeptLine
placed_lines came = placed_lines_from 0 came

abbrev pub events_of : List KeptLine → List EventAt
events_of lines = map (λ line. line.at) lines

-- those that some window still needs once all have come
abbrev pub kept_lines : Declared → List Query → List KeptLine → List KeptLine
kept_lines schema queries lines = filter (λ line. is_needed schema queries (events_of lines) line.at) lines

-- A keeper has of the events that came exactly those that some window still needs.
abbrev pub KeepersKeep : Type 0
KeepersKeep = (schema : Declared) (queries : List Query) (came : List (Event × List ℕ)) → NoneFalls schema queries (events_of (placed_lines came)) →
    ((keeping schema queries came).lines ≡ kept_lines schema queries (placed_lines came)) × ((keeping schema queries came).positions ≡ length came)

-- The text that is kept of a line gives the event that the line gave.
abbrev pub KeptTextGives : Type 0
KeptTextGives = (schema : Declared) (text : List ℕ) (event : Event) → event_of_line schema text ≡ Ok (Some event) → event_of_line schema (strip_carriage_return text) ≡ Ok (Some event)

-- The text of a line gives its event, and is one line's.
pub record IsLineOf (schema : Declared) (line : KeptLine) : Type 0 where
  pub gives : event_of_line schema line.text ≡ Ok (Some line.at.event)
  pub short : IsShort line.text

-- the stream that lines tell
abbrev pub told_stream : ℕ → List KeptLine → History
told_stream positions lines = record { positions = positions; events = events_of lines }

-- What is written of lines is read as their stream.
abbrev pub WrittenIsRead : Type 0
WrittenIsRead = (schema : Declared) (queries : List Query) (positions : ℕ) (lines : List KeptLine) → IsHistory schema queries (told_stream positions lines) → AllByRecursion (IsLineOf schema) lines →
    length (checkpoint_text positions lines) < MOST_BYTES → checkpoint_of schema queries (checkpoint_text positions lines) ≡ Ok (told_stream positions lines)

-- What is saved of the events that came is read as the stream of those that some window still needs.
abbrev pub SavedIsRead : Type 0
SavedIsRead = (schema : Declared) (queries : List Query) (came : List (Event × List ℕ)) → NoneFalls schema queries (events_of (placed_lines came)) → length came ≤ MOST_POSITIONS → AllByRecursion (IsLineOf schema) (placed_lines came) →
    length (checkpoint_text (keeping schema queries came).positions (keeping schema queries came).lines) < MOST_BYTES →
    checkpoint_of schema queries (checkpoint_text (keeping schema queries came).positions (keeping schema queries came).lines) ≡ Ok (told_stream (length came) (kept_lines schema queries (placed_lines came)))
