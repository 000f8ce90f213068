-- What reading a line's event answers.
use Rattle.std.specs.Prelude.{◌≡◌, ◌≢◌, ℕ, List, Bool, true, false, Option, Some, None, Result, Ok, Err}
use Rattle.cer_base.specs.declared.OrMemory.{OrMemory}
use Rattle.cer_base.specs.declared.OrMemory.TheVariants.{Fault, Memory}
use Rattle.stream_schema.specs.declared.Event.{Event}
use Rattle.stream_schema.specs.declared.Value.{Value}
use Rattle.event_reader.specs.declared.EventFault.{EventFault}

-- The answer tells what the line gives: the event that the buffer then holds, none, or the fault. Memory may run out where the line gives an event or a fault; none takes no memory.
abbrev pub TellsEvent : Event → Result Bool (OrMemory EventFault) → Result (Option Event) EventFault → Type 0
TellsEvent scratch (Ok true) given = given ≡ Ok (Some scratch)
TellsEvent scratch (Ok false) given = given ≡ Ok None
TellsEvent scratch (Err (Fault fault)) given = given ≡ Err fault
TellsEvent scratch (Err Memory) given = given ≢ Ok None

-- An answer that has the number of the event's type, where these are its values, tells what the line gives.
abbrev pub TellsType : List Value → Result (Option ℕ) (OrMemory EventFault) → Result (Option Event) EventFault → Type 0
TellsType values (Ok (Some ty)) given = given ≡ Ok (Some (record { ty = ty; values = values }))
TellsType values (Ok None) given = given ≡ Ok None
TellsType values (Err (Fault fault)) given = given ≡ Err fault
TellsType values (Err Memory) given = given ≢ Ok None

-- What is given is this fault, or memory ran out.
abbrev pub IsRefusal : {X : Type 0} → OrMemory EventFault → Result X EventFault → Type 0
IsRefusal (Fault fault) given = given ≡ Err fault
IsRefusal Memory given = Unit {0}
