-- Which events a run takes of a file, and why it takes no more.
use Rattle.std.specs.Prelude.{◌≡◌, ℕ, ◌+◌, ℤ, ◌⊎◌, List, [], ◌∷◌, ◌++◌, Option, Some, None, Result, Ok, Err}
use Rattle.stream_schema.specs.Types.{Declared}
use Rattle.stream_schema.specs.declared.Event.{Event as StreamEvent}
use Rattle.cel_terms.specs.declared.Query.{Query}
use Rattle.event_reader.specs.declared.EventFault.{EventFault}
use Rattle.event_reader.specs.declared.EventFault.TheVariants as event
use Rattle.event_reader.specs.declared.LineFault.{LineFault}
use Rattle.event_reader.specs.declared.LineFault.TheVariants as line
use Rattle.event_reader.specs.Events.{event_of_line}
use Rattle.event_reader.specs.Lines.{file_lines}
use Rattle.query_engine.specs.Clocks.{NoneFallsBack, IsFirstToFall}

-- the end of the file; a fault at the line of this number, from 1; or that so many bytes were taken, which are too many
pub data RunStop : Type 0 where
  End : RunStop
  Event : (line : ℕ) (fault : EventFault) → RunStop
  InputTooLong : (taken : ℕ) → RunStop

-- why there is no further line; no file has a fault of reading
abbrev pub stop_of : Option LineFault → RunStop
stop_of None = End
stop_of (Some (line.LineTooLong number)) = Event number event.LineTooLong
stop_of (Some (line.InputTooLong taken)) = InputTooLong taken
stop_of (Some line.ReadFault) = End

-- With the event of the line of this number the clock of a query falls: of the least such query.
pub record StopsInTime (schema : Declared) (queries : List Query) (before : List StreamEvent) (next : StreamEvent) (number : ℕ) (stop : RunStop) : Type 0 where
  pub query : ℕ
  pub from : ℤ
  pub now : ℤ
  pub falls : IsFirstToFall schema queries before next query from now
  pub stops : stop ≡ Event number (event.TimeBack query from now)

-- What follows from a line with this event, none, or a refusal: an empty line is skipped; an event is taken where no clock falls.
abbrev pub AfterLine : Declared → List Query → ℕ → List StreamEvent → List StreamEvent → RunStop → Type 0 → (StreamEvent → Type 0) → Result (Option StreamEvent) EventFault → Type 0
AfterLine schema queries number before events stop skip take (Ok None) = skip
AfterLine schema queries number before events stop skip take (Ok (Some next)) =
    (NoneFallsBack schema queries before next × take next) ⊎ ((events ≡ before) × StopsInTime schema queries before next number stop)
AfterLine schema queries number before events stop skip take (Err refusal) = (events ≡ before) × (stop ≡ Event number refusal)

-- After these events come these lines, the first of which has this number, and then this fault: the run has those events in all and stops so.
abbrev pub RunsOn : Declared → List Query → ℕ → List StreamEvent → List (List ℕ) → Option LineFault → List StreamEvent → RunStop → Type 0
RunsOn schema queries number before [] fault events stop = (events ≡ before) × (stop ≡ stop_of fault)
RunsOn schema queries number before (text ∷ texts) fault events stop =
    AfterLine schema queries number before events stop (RunsOn schema queries (number + 1) before texts fault events stop)
    (λ next. RunsOn schema queries (number + 1) (before ++ next ∷ []) texts fault events stop) (event_of_line schema text)

-- After the events before come those that the queries take of a file of these bytes, of which so many are too many; these are all events, and the run stops so.
abbrev pub RunsAfter : List StreamEvent → Declared → List Query → ℕ → List ℕ → List StreamEvent → RunStop → Type 0
RunsAfter before schema queries most_bytes bytes events stop =
    RunsOn schema queries 1 before (file_lines most_bytes bytes).texts (file_lines most_bytes bytes).fault events stop

-- The queries take these events of a file of these bytes, of which so many are too many, and stop so.
abbrev pub RunsTo : Declared → List Query → ℕ → List ℕ → List StreamEvent → RunStop → Type 0
RunsTo schema queries most_bytes bytes events stop = RunsAfter [] schema queries most_bytes bytes events stop

-- What follows from a line that is good: it is no event, or one with which no clock falls.
abbrev pub AfterGood : Declared → List Query → List StreamEvent → Type 0 → (StreamEvent → Type 0) → Result (Option StreamEvent) EventFault → Type 0
AfterGood schema queries before skip take (Ok None) = skip
AfterGood schema queries before skip take (Ok (Some next)) = NoneFallsBack schema queries before next × take next
AfterGood schema queries before skip take (Err refusal) = ⊥

-- All of these lines are good: after the events before they make these in all.
abbrev pub AreEventsAfter : Declared → List Query → List StreamEvent → List (List ℕ) → List StreamEvent → Type 0
AreEventsAfter schema queries before [] events = events ≡ before
AreEventsAfter schema queries before (text ∷ texts) events =
    AfterGood schema queries before (AreEventsAfter schema queries before texts events)
    (λ next. AreEventsAfter schema queries (before ++ next ∷ []) texts events) (event_of_line schema text)

abbrev pub AreEventsOf : Declared → List Query → List (List ℕ) → List StreamEvent → Type 0
AreEventsOf schema queries texts events = AreEventsAfter schema queries [] texts events
