-- How one line changes what is kept of a stream, and what is kept of the lines so far. Private clauses alone cite these.
use Rattle.std.specs.Prelude.{◌≡◌, ℕ, ◌⊎◌, false, List, Option, Some, None, Ok, Err}
use Rattle.std.specs.List.{AllByRecursion}
use Rattle.std.specs.Str.Lines.{strip_carriage_return}
use Rattle.stream_schema.specs.Types.{Declared}
use Rattle.stream_schema.specs.declared.Event.{Event}
use Rattle.cel_terms.specs.declared.Query.{Query}
use Rattle.event_reader.specs.declared.EventFault.{EventFault}
use Rattle.event_reader.specs.declared.EventFault.TheVariants.{TimeBack}
use Rattle.event_reader.specs.Events.{event_of_line}
use Rattle.event_reader.specs.LineBuffers.{IsShort}
use Rattle.event_reader.specs.Lines.{file_lines}
use Rattle.event_reader.specs.LineReaders.{LineReader, HasGiven}
use Rattle.event_run.specs.Runs.{RunsTo, AreEventsOf}
use Rattle.event_run.specs.Runs as stop
use Rattle.checkpoint_text.specs.declared.clocks.Fall.{Fall}
use Rattle.checkpoint_text.specs.QueryClocks.{NoneFalls}
use Rattle.checkpoint_text.specs.LastClocks.{any_back, first_back}
use Rattle.checkpoint_text.specs.Keeping.{Keeper, next_event, with_event}
use Rattle.checkpoint_text.specs.KeepLaws.{keeping, placed_lines, events_of, IsLineOf}
use Rattle.checkpoint_text.specs.Streams.{stream_of}
use Rattle.command_checkpoint.specs.Saved.{came_in}

-- the event came next, of a line with this text, and no clock falls with it
abbrev pub AddsEvent : Keeper → Keeper → Event → List ℕ → Type 0
AddsEvent old new next text =
    (any_back old.schema old.queries old.lasts (next_event old next) ≡ false) × (new ≡ with_event old next (strip_carriage_return text))

-- with the event as the next one a clock falls, and this is the fault
abbrev pub FallsWith : Keeper → Event → EventFault → Type 0
FallsWith keeper next refusal =
    (fall : Fall) × (first_back keeper.schema 1 keeper.queries keeper.lasts (next_event keeper next) ≡ Some fall) × (refusal ≡ TimeBack fall.query fall.before fall.now)

-- the line is no event, or its event came next
abbrev pub AddsLine : Declared → List ℕ → Keeper → Keeper → Type 0
AddsLine schema text old new =
    ((event_of_line schema text ≡ Ok None) × (new ≡ old))
    ⊎ ((next : Event) × (event_of_line schema text ≡ Ok (Some next)) × IsShort text × AddsEvent old new next text)

-- the line is refused, or with its event a clock falls
abbrev pub StopsLine : Declared → List ℕ → Keeper → EventFault → Type 0
StopsLine schema text keeper refusal =
    (event_of_line schema text ≡ Err refusal) ⊎ ((next : Event) × (event_of_line schema text ≡ Ok (Some next)) × FallsWith keeper next refusal)

-- The reader has given lines of a file of these bytes, all of them good, and this is what is kept of their events.
pub record HasKept (schema : Declared) (queries : List Query) (reader : LineReader) (bytes : List ℕ) (left : Option (List ℕ)) (keeper : Keeper) : Type 0 where
  pub texts : List (List ℕ)
  pub given : HasGiven reader bytes left texts
  pub good : AreEventsOf schema queries texts (stream_of (came_in schema texts))
  pub is : keeper ≡ keeping schema queries (came_in schema texts)
  pub level : NoneFalls schema queries (events_of (placed_lines (came_in schema texts)))
  pub lines : AllByRecursion (IsLineOf schema) (placed_lines (came_in schema texts))

-- This is what is kept of all events of a file of these bytes, which ends well.
pub record HasKeptAll (schema : Declared) (queries : List Query) (most_bytes : ℕ) (bytes : List ℕ) (keeper : Keeper) : Type 0 where
  pub runs : RunsTo schema queries most_bytes bytes (stream_of (came_in schema (file_lines most_bytes bytes).texts)) stop.End
  pub is : keeper ≡ keeping schema queries (came_in schema (file_lines most_bytes bytes).texts)
  pub level : NoneFalls schema queries (events_of (placed_lines (came_in schema (file_lines most_bytes bytes).texts)))
