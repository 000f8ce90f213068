-- What a gate over the lines of a file has read of it, and what it has given.
use Rattle.std.specs.Prelude.{◌≡◌, ℕ, ◌+◌, ◌*◌, ◌<◌, ◌≤◌, ◌⊎◌, Bool, true, false, List, [], ◌∷◌, length, Option, Some, None, Result, Ok, Err}
use Rattle.std.specs.List.{AllByRecursion}
use Rattle.cer_base.specs.declared.OrMemory.{OrMemory}
use Rattle.cer_base.specs.declared.OrMemory.TheVariants.{Fault, Memory}
use Rattle.stream_schema.specs.Types.{Declared}
use Rattle.stream_schema.specs.Events.{IsOfSchema}
use Rattle.stream_schema.specs.declared.Event.{Event as StreamEvent}
use Rattle.cel_terms.specs.declared.Query.{Query}
use Rattle.event_reader.specs.declared.EventFault.{EventFault}
use Rattle.event_reader.specs.declared.LineFault.{LineFault}
use Rattle.event_reader.specs.Lines.{has_line_feed}
use Rattle.event_reader.specs.LineReaders.{LineReader, HasGiven, IsCutOff}
use Rattle.event_run.specs.declared.RunFault.{RunFault}
use Rattle.event_run.specs.declared.RunFault.TheVariants as fault
use Rattle.event_run.specs.Runs.{RunStop}
use Rattle.event_run.specs.Runs as stop
use Rattle.reorder_gate.specs.Gates as gates
use Rattle.reorder_gate.specs.Gates.{GateState, clock_at, any_due}
use Rattle.command_reorder.specs.declared.gated.GatedEvents.{GatedEvents}
use Rattle.command_reorder.specs.Late.{NumberedEvent, Feed, fed_from, fed, TakesOn, AreFed}

-- how lines feed their file through a gate, of events of this schema
abbrev pub feed_through : LineReader → GateState → Declared → Feed
feed_through lines gate schema = record { schema = schema; clock = clock_at gate.places; late = gate.late; most_bytes = lines.budget }

abbrev pub feed_at : GatedEvents → Declared → Feed
feed_at e schema = feed_through e.lines e.gate schema

-- The gate has the feed's clock and bound.
pub record IsGateOf (f : Feed) (g : GateState) : Type 0 where
  pub clock : clock_at g.places ≡ f.clock
  pub late : g.late ≡ f.late

-- Events of the schema are held.
abbrev pub AreOfSchema : Declared → GateState → Type 0
AreOfSchema schema g = AllByRecursion (λ e. IsOfSchema schema e.1) g.events

-- The reader has given lines of a file of these bytes, all of them good, and these are their events; its source has the bytes left.
pub record HasFed (f : Feed) (reader : LineReader) (bytes : List ℕ) (left : Option (List ℕ)) (put : List NumberedEvent) : Type 0 where
  pub texts : List (List ℕ)
  pub given : HasGiven reader bytes left texts
  pub good : AreFed f texts put

-- The same of a source that failed, and tells what it has left: these are the events of all lines that end among the bytes before, which are first lines of the file.
pub record AreFedBefore (f : Feed) (bytes rest : List ℕ) (put : List NumberedEvent) : Type 0 where
  pub texts : List (List ℕ)
  pub cut : IsCutOff f.most_bytes bytes rest texts
  pub good : AreFed f texts put

abbrev pub AreFedRead : Feed → Option (List ℕ) → List ℕ → List NumberedEvent → Type 0
AreFedRead f None bytes put = ⊥
AreFedRead f (Some rest) bytes put = AreFedBefore f bytes rest put

-- the file feeds these events and then stops so
abbrev pub Feeds : Feed → List ℕ → List NumberedEvent → RunStop → Type 0
Feeds f bytes put halt = fed f bytes ≡ record { put = put; stop = halt }

-- the events that were put are those of the lines so far; in a gate that is finished, those of the whole file
abbrev pub HasPut : Bool → Feed → LineReader → Option (List ℕ) → List ℕ → List NumberedEvent → Type 0
HasPut false f reader left bytes put = HasFed f reader bytes left put
HasPut true f reader left bytes put = Feeds f bytes put stop.End

-- The queries took the events that have gone, after the earlier ones, with none of which a clock falls.
pub record HasLetGo (f : Feed) (queries : List Query) (earlier : List StreamEvent) (e : GatedEvents) (left : Option (List ℕ)) (bytes : List ℕ) (events : List StreamEvent) : Type 0 where
  pub put : List NumberedEvent
  pub gone : List NumberedEvent
  pub stands : gates.StandsFor e.gate put gone
  pub read : HasPut e.gate.is_finished f e.lines left bytes put
  pub taken : TakesOn f.schema queries earlier gone stop.End events stop.End

-- A further line may be asked for, unless the gate is finished, and what waits is of the schema.
pub record MayGoOn (schema : Declared) (e : GatedEvents) : Type 0 where
  pub is_open : e.gate.is_finished ≡ false → e.lines.closed ≡ false
  pub of_schema : AreOfSchema schema e.gate

-- so many events may still come: those that wait, and one for each byte that may be read
abbrev pub room_of : GatedEvents → ℕ
room_of e = e.lines.room + length e.gate.events

-- a gate that is not finished may be
abbrev pub last_turn : Bool → ℕ
last_turn true = 0
last_turn false = 1

-- so many steps may still be made: each lets an event go, reads a line or finishes the gate
abbrev pub turns_of : GatedEvents → ℕ
turns_of e = 2 * e.lines.room + length e.gate.events + last_turn e.gate.is_finished

-- an event may go, all may, or a line is at hand
abbrev pub HasNext : GatedEvents → Type 0
HasNext e = (any_due e.gate ≡ true) ⊎ ((e.gate.is_finished ≡ true) ⊎ (has_line_feed e.lines.pending ≡ true))

-- ONE LINE

-- What is known after one line was read and put into a gate of which these events have gone: one event more was put, or none.
abbrev pub AfterPut : Feed → LineReader → Option (List ℕ) → GateState → List ℕ → List NumberedEvent → List NumberedEvent → Result Bool (OrMemory RunFault) → Type 0
AfterPut f reader left g bytes put gone (Ok true) = (now : List NumberedEvent) × gates.StandsFor g now gone × HasFed f reader bytes left now
AfterPut f reader left g bytes put gone (Ok false) = Feeds f bytes put stop.End
AfterPut f reader left g bytes put gone (Err (Fault (fault.Event line refusal))) = Feeds f bytes put (stop.Event line refusal)
AfterPut f reader left g bytes put gone (Err (Fault (fault.InputTooLong taken))) = Feeds f bytes put (stop.InputTooLong taken)
AfterPut f reader left g bytes put gone (Err (Fault fault.ReadFault)) = AreFedRead f left bytes put
AfterPut f reader left g bytes put gone (Err Memory) = Unit {0}

-- the same of the text of one line: it feeds one event more or none, or it stops the feed, whatever follows
abbrev pub AfterText : Feed → ℕ → List ℕ → GateState → List NumberedEvent → List NumberedEvent → {T : Type 0} → Result T (OrMemory EventFault) → Type 0
AfterText f number text g put gone (Ok done) =
    (now : List NumberedEvent) × gates.StandsFor g now gone × (fed_from f number put (text ∷ []) None ≡ record { put = now; stop = stop.End })
AfterText f number text g put gone (Err (Fault refusal)) =
    (later : List (List ℕ)) (why : Option LineFault) → fed_from f number put (text ∷ later) why ≡ record { put = put; stop = stop.Event number refusal }
AfterText f number text g put gone (Err Memory) = Unit {0}

-- a line took room of the reader, which is still open, and one event more is held at most; the end changed nothing of the gate
abbrev pub TakesRoom : LineReader → LineReader → GateState → GateState → {F : Type 0} → Result Bool F → Type 0
TakesRoom old new before now (Ok true) =
    (new.room < old.room) × (new.closed ≡ false) × (length now.events ≤ length before.events + 1)
TakesRoom old new before now (Ok false) = (now ≡ before) × (new.room ≤ old.room)
TakesRoom old new before now (Err why) = Unit {0}
