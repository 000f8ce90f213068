-- Which events the queries take of a file whose events come late, and why they take no more.
use Rattle.std.specs.Prelude.{◌≡◌, ℕ, ◌+◌, ℤ, ◌⊎◌, List, [], ◌∷◌, ◌++◌, Option, Some, None, Result, Ok, Err}
use Rattle.stream_schema.specs.Types.{Declared}
use Rattle.stream_schema.specs.declared.Event.{Event as StreamEvent}
use Rattle.cel_terms.specs.declared.Query.{Query}
use Rattle.answer_text.specs.declared.Order.{Order}
use Rattle.event_reader.specs.declared.EventFault.{EventFault}
use Rattle.event_reader.specs.declared.EventFault.TheVariants as event
use Rattle.event_reader.specs.declared.LineFault.{LineFault}
use Rattle.event_reader.specs.Events.{event_of_line}
use Rattle.event_reader.specs.Lines.{file_lines}
use Rattle.query_engine.specs.Clocks.{NoneFallsBack}
use Rattle.event_run.specs.Runs.{RunStop, stop_of, StopsInTime}
use Rattle.event_run.specs.Runs as stop
use Rattle.reorder_gate.specs.declared.gate.TooLate.{TooLate}
use Rattle.reorder_gate.specs.AttributeClock.{attribute_clock}
use Rattle.reorder_gate.specs.Sorting.{sorted}
use Rattle.reorder_gate.specs.Releasing.{greatest, released}
use Rattle.reorder_gate.specs.Gates.{lateness}

-- an event with the number of its line
abbrev pub NumberedEvent : Type 0
NumberedEvent = ℕ × StreamEvent

-- What is asked of a late feed: the answers of these queries in this order, where this attribute is the clock, an event may come late by so much, and so many bytes are too many.
pub record LateRequest : Type 0 where
  pub order : Order
  pub schema : Declared
  pub queries : List Query
  pub clock : List ℕ
  pub late : ℕ
  pub most_bytes : ℕ

-- the clock of an event
abbrev pub when : LateRequest → NumberedEvent → ℤ
when a e = attribute_clock a.schema a.clock e.1

-- How a file is fed: what its lines are read by, the clock of an event, by how much one may come late, and how many bytes are too many.
pub record Feed : Type 0 where
  pub schema : Declared
  pub clock : NumberedEvent → ℤ
  pub late : ℕ
  pub most_bytes : ℕ

-- what is asked, but for the answers
abbrev pub feed_for : LateRequest → Feed
feed_for a = record { schema = a.schema; clock = when a; late = a.late; most_bytes = a.most_bytes }

-- The events that come in time, in the order of their lines, and why there are no more.
pub record LateEvents : Type 0 where
  pub put : List NumberedEvent
  pub stop : RunStop

-- the event is one more, unless it comes too late
abbrev pub unless_late : ℕ → List NumberedEvent → LateEvents → Option TooLate → LateEvents
unless_late number before more None = more
unless_late number before more (Some late) = record { put = before; stop = stop.Event number (event.TooLate late.high late.now) }

-- what follows from a line of this number with this event, none, or a refusal
abbrev pub fed_after_line : Feed → ℕ → List NumberedEvent → LateEvents → (NumberedEvent → LateEvents) → Result (Option StreamEvent) EventFault → LateEvents
fed_after_line f number before skip more (Ok None) = skip
fed_after_line f number before skip more (Ok (Some next)) =
    unless_late number before (more (number, next)) (lateness (greatest f.clock before) f.late (f.clock (number, next)))
fed_after_line f number before skip more (Err refusal) = record { put = before; stop = stop.Event number refusal }

-- after these events come these lines, the first of which has this number, and then this fault
abbrev pub fed_from : Feed → ℕ → List NumberedEvent → List (List ℕ) → Option LineFault → LateEvents
fed_from f number before [] fault = record { put = before; stop = stop_of fault }
fed_from f number before (text ∷ texts) fault =
    fed_after_line f number before (fed_from f (number + 1) before texts fault) (λ e. fed_from f (number + 1) (before ++ e ∷ []) texts fault) (event_of_line f.schema text)

-- what a file of these bytes feeds
abbrev pub fed : Feed → List ℕ → LateEvents
fed f bytes = fed_from f 1 [] (file_lines f.most_bytes bytes).texts (file_lines f.most_bytes bytes).fault

-- the events that may go, in the order in which they go: at the end of the file all by their clocks, else those before which no event can come that is not too late
abbrev pub let_go : Feed → List NumberedEvent → RunStop → List NumberedEvent
let_go f put stop.End = sorted f.clock put
let_go f put (stop.Event line refusal) = released f.clock f.late put
let_go f put (stop.InputTooLong taken) = released f.clock f.late put

-- After the events before, the queries take these in turn, up to the first with which the clock of a query falls, which stops the run at its own line; where none does, the run ends so.
abbrev pub TakesOn : Declared → List Query → List StreamEvent → List NumberedEvent → RunStop → List StreamEvent → RunStop → Type 0
TakesOn schema queries before [] end events halt = (events ≡ before) × (halt ≡ end)
TakesOn schema queries before (e ∷ later) end events halt =
    (NoneFallsBack schema queries before e.1 × TakesOn schema queries (before ++ e.1 ∷ []) later end events halt)
    ⊎ ((events ≡ before) × StopsInTime schema queries before e.1 e.0 halt)

-- The same of a file of these bytes: after the earlier events the queries take those of the file, these are all, and they stop so.
abbrev pub TakesFed : Feed → List Query → List StreamEvent → List ℕ → List StreamEvent → RunStop → Type 0
TakesFed f queries earlier bytes events halt = TakesOn f.schema queries earlier (let_go f (fed f bytes).put (fed f bytes).stop) (fed f bytes).stop events halt

-- The queries take these events of a file of these bytes, and stop so.
abbrev pub RunsLate : LateRequest → List ℕ → List StreamEvent → RunStop → Type 0
RunsLate a bytes events halt = TakesFed (feed_for a) a.queries [] bytes events halt

-- the lines are good, and these are their events: none is refused, and none comes too late
abbrev pub AreFed : Feed → List (List ℕ) → List NumberedEvent → Type 0
AreFed f texts put = fed_from f 1 [] texts None ≡ record { put = put; stop = stop.End }
