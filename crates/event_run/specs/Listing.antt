-- The events of a file, kept as a list: how the list grows, and why it ends before the file does.
use Rattle.std.specs.Prelude.{◌≡◌, ℕ, ◌⊎◌, List, [], ◌∷◌, ◌++◌, Option, Some, None, Ok}
use Rattle.stream_schema.specs.Types.{Declared}
use Rattle.stream_schema.specs.declared.Event.{Event}
use Rattle.cel_terms.specs.declared.Query.{Query}
use Rattle.event_reader.specs.Events.{event_of_line}
use Rattle.query_engine.specs.Clocks.{NoneFallsBack}
use Rattle.query_engine.specs.Falls.{Fall}
use Rattle.event_run.specs.declared.RunFault.{RunFault}
use Rattle.event_run.specs.declared.RunFault.TheVariants as fault
use Rattle.event_run.specs.declared.clocks.Fallen.{Fallen}
use Rattle.event_run.specs.Runs.{RunsTo}
use Rattle.event_run.specs.Runs as stop
use Rattle.event_run.specs.Taking.{AreEventsRead}

-- how a clock falls
abbrev pub as_fall : Fallen → Fall
as_fall f = record { before = f.before; now = f.now }

-- Why the events of a file of these bytes stop before its end, and where its source failed, which were read before.
abbrev pub StopsBy : Declared → List Query → ℕ → List ℕ → Option (List ℕ) → RunFault → Type 0
StopsBy schema queries most_bytes bytes left (fault.Event line refusal) =
    (events : List Event) × RunsTo schema queries most_bytes bytes events (stop.Event line refusal)
StopsBy schema queries most_bytes bytes left (fault.InputTooLong taken) =
    (events : List Event) × RunsTo schema queries most_bytes bytes events (stop.InputTooLong taken)
StopsBy schema queries most_bytes bytes left fault.ReadFault =
    (events : List Event) × AreEventsRead schema queries most_bytes bytes left events

-- the event came after the others, and no clock falls with it
abbrev pub AddsThis : Declared → List Query → Event → List Event → List Event → Type 0
AddsThis schema queries next before after = NoneFallsBack schema queries before next × (after ≡ before ++ next ∷ [])

-- the line is no event, or its event came after the others
abbrev pub Adds : Declared → List Query → List ℕ → List Event → List Event → Type 0
Adds schema queries text before after =
    ((event_of_line schema text ≡ Ok None) × (after ≡ before))
    ⊎ ((next : Event) × (event_of_line schema text ≡ Ok (Some next)) × AddsThis schema queries next before after)
