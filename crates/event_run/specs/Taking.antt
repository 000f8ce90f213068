-- What a reader of lines and an engine have taken of a file together, and what one more event adds.
use Rattle.std.specs.Prelude.{◌≡◌, ℕ, ◌+◌, ◌<◌, ◌≤◌, ◌⊎◌, Bool, true, List, [], ◌∷◌, ◌++◌, Option, Some, None, Result, Ok, Err, false}
use Rattle.cer_base.specs.declared.OrMemory.{OrMemory}
use Rattle.cer_base.specs.declared.OrMemory.TheVariants.{Fault, Memory}
use Rattle.cer_outside.specs.Causes.{Rose}
use Rattle.stream_schema.specs.Types.{Declared}
use Rattle.stream_schema.specs.declared.Event.{Event}
use Rattle.cel_terms.specs.declared.Query.{Query}
use Rattle.event_reader.specs.declared.EventFault.{EventFault}
use Rattle.event_reader.specs.declared.EventFault.TheVariants as event
use Rattle.event_reader.specs.declared.LineFault.{LineFault}
use Rattle.event_reader.specs.declared.LineFault.TheVariants as line
use Rattle.event_reader.specs.Events.{event_of_line}
use Rattle.event_reader.specs.LineReaders.{LineReader, HasGiven, IsCutOff}
use Rattle.query_engine.specs.Clocks.{NoneFallsBack}
use Rattle.query_engine.specs.Engine.{EngineState, StandsFor}
use Rattle.query_engine.specs.Keys.{HasAddedKeys}
use Rattle.query_engine.specs.Windows.{HasAdded}
use Rattle.event_run.specs.declared.NextEvent.{NextEvent}
use Rattle.event_run.specs.declared.NextEvent.TheVariants as taken
use Rattle.event_run.specs.declared.RunFault.{RunFault}
use Rattle.event_run.specs.declared.RunFault.TheVariants as fault
use Rattle.event_run.specs.Runs.{RunStop, StopsInTime, RunsAfter, AreEventsAfter}
use Rattle.event_run.specs.Runs as stop

-- The reader has given lines of a file of these bytes, all of them good, and with their events after those before these are all; its source has the bytes left.
pub record HasTakenAfter (before : List Event) (schema : Declared) (queries : List Query) (reader : LineReader) (bytes : List ℕ) (left : Option (List ℕ)) (events : List Event) : Type 0 where
  pub texts : List (List ℕ)
  pub given : HasGiven reader bytes left texts
  pub good : AreEventsAfter schema queries before texts events

-- with no event before
abbrev pub HasTaken : Declared → List Query → LineReader → List ℕ → Option (List ℕ) → List Event → Type 0
HasTaken schema queries reader bytes left events = HasTakenAfter [] schema queries reader bytes left events

-- The run over a file of these bytes, after the events before, begins with these events, those before among them.
pub record BeginsRunAfter (before : List Event) (schema : Declared) (queries : List Query) (most_bytes : ℕ) (bytes : List ℕ) (events : List Event) : Type 0 where
  pub more : List Event
  pub stop : RunStop
  pub runs : RunsAfter before schema queries most_bytes bytes (events ++ more) stop

-- The run over a file of these bytes begins with these events.
abbrev pub BeginsRun : Declared → List Query → ℕ → List ℕ → List Event → Type 0
BeginsRun schema queries most_bytes bytes events = BeginsRunAfter [] schema queries most_bytes bytes events

-- After the events before come those of all lines that end among the bytes that are no longer left, and these are all; each of these lines is good,
-- and they are first lines of the file, none too long and none past the bytes that it may have.
pub record AreEventsBeforeRest (before : List Event) (schema : Declared) (queries : List Query) (most_bytes : ℕ) (bytes rest : List ℕ) (events : List Event) : Type 0 where
  pub texts : List (List ℕ)
  pub cut : IsCutOff most_bytes bytes rest texts
  pub good : AreEventsAfter schema queries before texts events

-- these are the events of the lines that a source, which tells what it has left, no longer has
abbrev pub AreEventsReadAfter : List Event → Declared → List Query → ℕ → List ℕ → Option (List ℕ) → List Event → Type 0
AreEventsReadAfter before schema queries most_bytes bytes None events = ⊥
AreEventsReadAfter before schema queries most_bytes bytes (Some rest) events = AreEventsBeforeRest before schema queries most_bytes bytes rest events

-- These are the events of all lines that end among the bytes that are no longer left; each of these lines is good.
abbrev pub AreEventsBefore : Declared → List Query → ℕ → List ℕ → List ℕ → List Event → Type 0
AreEventsBefore schema queries most_bytes bytes rest events = AreEventsBeforeRest [] schema queries most_bytes bytes rest events

abbrev pub AreEventsRead : Declared → List Query → ℕ → List ℕ → Option (List ℕ) → List Event → Type 0
AreEventsRead schema queries most_bytes bytes None events = ⊥
AreEventsRead schema queries most_bytes bytes (Some rest) events = AreEventsBefore schema queries most_bytes bytes rest events

-- What one call has made of an engine that stood for these events: it stands for one more, which added what an event adds, or for the same.
-- Given `Had`, what the reader had taken before of a file of these bytes, this is what is known of the file, where these events came before all of its own.
abbrev pub AfterCall : List Event → Declared → List Query → LineReader → EngineState → EngineState → (List ℕ → Type 0) → Option (List ℕ) → List Event → Result NextEvent (OrMemory RunFault) → Type 0
AfterCall before schema queries reader old engine Had left events (Ok taken.Event) =
    (next : Event) × StandsFor engine (events ++ next ∷ []) × ((bytes : List ℕ) → Had bytes → HasTakenAfter before schema queries reader bytes left (events ++ next ∷ [])) × HasAdded old engine next × HasAddedKeys old engine next
AfterCall before schema queries reader old engine Had left events (Ok taken.End) =
    StandsFor engine events × ((bytes : List ℕ) → Had bytes → RunsAfter before schema queries reader.budget bytes events stop.End)
AfterCall before schema queries reader old engine Had left events (Err (Fault (fault.Event line refusal))) =
    StandsFor engine events × ((bytes : List ℕ) → Had bytes → RunsAfter before schema queries reader.budget bytes events (stop.Event line refusal))
AfterCall before schema queries reader old engine Had left events (Err (Fault (fault.InputTooLong most))) =
    StandsFor engine events × ((bytes : List ℕ) → Had bytes → RunsAfter before schema queries reader.budget bytes events (stop.InputTooLong most))
AfterCall before schema queries reader old engine Had left events (Err (Fault fault.ReadFault)) =
    StandsFor engine events × ((bytes : List ℕ) → Had bytes → AreEventsReadAfter before schema queries reader.budget bytes left events)
AfterCall before schema queries reader old engine Had left events (Err Memory) =
    StandsFor engine events × ((bytes : List ℕ) → Had bytes → BeginsRunAfter before schema queries reader.budget bytes events)

-- the source's count of faults rose where it failed, and else stays
abbrev pub HasSourceCause : {T : Type 0} → ℕ → ℕ → Result T (OrMemory RunFault) → Type 0
HasSourceCause before now (Err (Fault fault.ReadFault)) = Rose before now
HasSourceCause before now _ = now ≡ before

-- an event took at most so many steps; the end and a fault took none, and nothing is said where memory ran out
abbrev pub TakesSteps : ℕ → ℕ → ℕ → Result NextEvent (OrMemory RunFault) → Type 0
TakesSteps most before now (Ok taken.Event) = now ≤ before + most
TakesSteps most before now (Ok taken.End) = now ≡ before
TakesSteps most before now (Err (Fault stop)) = now ≡ before
TakesSteps most before now (Err Memory) = Unit {0}

-- an event took room of the reader, which is still open
abbrev pub TakesRoom : LineReader → LineReader → Result NextEvent (OrMemory RunFault) → Type 0
TakesRoom old new (Ok taken.Event) = (new.room < old.room) × (new.closed ≡ false)
TakesRoom old new _ = Unit {0}

-- The line of this number stops the run: it is refused, or with its event the clock of a query falls.
abbrev pub StopsHere : Declared → List Query → List ℕ → ℕ → List Event → EventFault → Type 0
StopsHere schema queries text number events refusal =
    (event_of_line schema text ≡ Err refusal)
    ⊎ ((next : Event) × (event_of_line schema text ≡ Ok (Some next)) × StopsInTime schema queries events next number (stop.Event number refusal))

-- What became of one event, of the line of this number, that was given to an engine that stood for these events.
abbrev pub AfterEvent : Declared → List Query → ℕ → EngineState → Event → List Event → {T : Type 0} → Result T (OrMemory EventFault) → Type 0
AfterEvent schema queries number engine next events (Ok done) = StandsFor engine (events ++ next ∷ []) × NoneFallsBack schema queries events next
AfterEvent schema queries number engine next events (Err (Fault refusal)) =
    StandsFor engine events × StopsInTime schema queries events next number (stop.Event number refusal)
AfterEvent schema queries number engine next events (Err Memory) = StandsFor engine events

-- What became of one line: an event that was taken, none, or a stop. Private clauses alone cite it.
abbrev pub AfterText : Declared → List Query → ℕ → EngineState → EngineState → List ℕ → List Event → Result Bool (OrMemory EventFault) → Type 0
AfterText schema queries number old engine text events (Ok true) =
    (next : Event) × (event_of_line schema text ≡ Ok (Some next)) × StandsFor engine (events ++ next ∷ []) × NoneFallsBack schema queries events next × HasAdded old engine next × HasAddedKeys old engine next
AfterText schema queries number old engine text events (Ok false) = (event_of_line schema text ≡ Ok None) × StandsFor engine events
AfterText schema queries number old engine text events (Err (Fault refusal)) =
    StandsFor engine events × StopsHere schema queries text number events refusal
AfterText schema queries number old engine text events (Err Memory) = StandsFor engine events

-- why there is no further line, as a run's fault
abbrev pub run_fault : LineFault → RunFault
run_fault line.ReadFault = fault.ReadFault
run_fault (line.LineTooLong number) = fault.Event number event.LineTooLong
run_fault (line.InputTooLong most) = fault.InputTooLong most
