-- What a source of events makes of a file and of an engine, step by step.
use Rattle.std.specs.Prelude.{◌≡◌, ℕ, ◌+◌, ◌≤◌, List, [], ◌∷◌, ◌++◌, Result, Ok, Err}
use Rattle.cer_base.specs.declared.OrMemory.{OrMemory}
use Rattle.cer_base.specs.declared.OrMemory.TheVariants.{Fault, Memory}
use Rattle.stream_schema.specs.declared.Event.{Event}
use Rattle.query_engine.specs.Engine.{EngineState, StandsFor}
use Rattle.query_engine.specs.Keys.{HasAddedKeys}
use Rattle.query_engine.specs.Windows.{HasAdded}
use Rattle.event_run.specs.Runs.{RunStop}
use Rattle.event_run.specs.Runs as stop
use Rattle.event_run.specs.declared.RunFault.{RunFault}
use Rattle.event_run.specs.declared.RunFault.TheVariants as fault
use Rattle.stream_answers.specs.declared.events.Step.{Step}
use Rattle.stream_answers.specs.declared.events.Step.TheVariants as step

-- `Takes bytes events halt`: where the queries take the events of a file of these bytes and stop so, these are all events.

-- The run over a file of these bytes begins with these events.
abbrev pub Begins : (List ℕ → List Event → RunStop → Type 0) → List ℕ → List Event → Type 0
Begins Takes bytes events = (more : List Event) × (halt : RunStop) × Takes bytes (events ++ more) halt

-- What a source of events takes of a file stays, once it has begun.
abbrev pub Lasts : (List ℕ → List Event → RunStop → Type 0) → (List ℕ → List Event → RunStop → Type 0) → Type 0
Lasts Took Takes = (bytes : List ℕ) (events : List Event) (halt : RunStop) → Takes bytes events halt → Took bytes events halt

-- the same of what is known of its events where its file fails
abbrev pub LastsRead : (List ℕ → List Event → Type 0) → (List ℕ → List Event → Type 0) → Type 0
LastsRead Had Has = (bytes : List ℕ) (events : List Event) → Has bytes events → Had bytes events

-- What one step has made of an engine that stood for these events: it stands for one more, which added what an event adds, or for the same.
-- Given `Had`, what was given before of a file of these bytes, this is what is known of the file: that one more was given, as `Has` tells; or why there is none.
abbrev pub AfterStep : (List ℕ → List Event → Type 0) → (List ℕ → List Event → Type 0) → (List ℕ → List Event → RunStop → Type 0) → (List ℕ → List Event → Type 0) → EngineState → EngineState → List Event → Result Step (OrMemory RunFault) → Type 0
AfterStep Had Has Takes Reads old engine events (Ok step.Event) =
    (next : Event) × StandsFor engine (events ++ next ∷ []) × ((bytes : List ℕ) → Had bytes events → Has bytes (events ++ next ∷ []) × Begins Takes bytes (events ++ next ∷ [])) × HasAdded old engine next × HasAddedKeys old engine next
AfterStep Had Has Takes Reads old engine events (Ok step.Line) = (bytes : List ℕ) → Had bytes events → Has bytes events
AfterStep Had Has Takes Reads old engine events (Ok step.End) = (bytes : List ℕ) → Had bytes events → Takes bytes events stop.End
AfterStep Had Has Takes Reads old engine events (Err (Fault (fault.Event line refusal))) = (bytes : List ℕ) → Had bytes events → Takes bytes events (stop.Event line refusal)
AfterStep Had Has Takes Reads old engine events (Err (Fault (fault.InputTooLong most))) = (bytes : List ℕ) → Had bytes events → Takes bytes events (stop.InputTooLong most)
AfterStep Had Has Takes Reads old engine events (Err (Fault fault.ReadFault)) = (bytes : List ℕ) → Had bytes events → Reads bytes events
AfterStep Had Has Takes Reads old engine events (Err Memory) = Unit {0}

-- what holds where a step does not end the events
abbrev pub OnStep : {E : Type 0} → Result Step E → Type 0 → Type 0
OnStep (Ok step.Event) P = P
OnStep (Ok step.Line) P = P
OnStep (Ok step.End) P = Unit {0}
OnStep (Err why) P = Unit {0}

-- what holds where it gave no event and did not fail
abbrev pub OnNoEvent : {E : Type 0} → Result Step E → Type 0 → Type 0
OnNoEvent (Ok step.Event) P = Unit {0}
OnNoEvent (Ok step.Line) P = P
OnNoEvent (Ok step.End) P = P
OnNoEvent (Err why) P = Unit {0}

-- an event took at most so many steps; what gave none took none, and nothing is said where memory ran out
abbrev pub TakesSteps : ℕ → ℕ → ℕ → Result Step (OrMemory RunFault) → Type 0
TakesSteps most before now (Ok step.Event) = now ≤ before + most
TakesSteps most before now (Ok step.Line) = now ≡ before
TakesSteps most before now (Ok step.End) = now ≡ before
TakesSteps most before now (Err (Fault why)) = now ≡ before
TakesSteps most before now (Err Memory) = Unit {0}
