-- A step over the lines of a file, by what taking an event tells.
use Rattle.std.proofs.Common.{◌≡◌, ℕ, inl, inr, List, [], ◌∷◌, ◌++◌, Option, Ok, Err, subst}
use Rattle.cer_base.specs.declared.OrMemory.{OrMemory}
use Rattle.cer_base.specs.declared.OrMemory.TheVariants.{Fault, Memory}
use Rattle.stream_schema.specs.Types.{Declared}
use Rattle.stream_schema.specs.declared.Event.{Event}
use Rattle.cel_terms.specs.declared.Query.{Query}
use Rattle.event_reader.specs.LineReaders.{LineReader}
use Rattle.query_engine.specs.Engine.{EngineState}
use Rattle.event_run.specs.declared.NextEvent.{NextEvent}
use Rattle.event_run.specs.declared.NextEvent.TheVariants as taken
use Rattle.event_run.specs.declared.RunFault.{RunFault}
use Rattle.event_run.specs.declared.RunFault.TheVariants as fault
use Rattle.event_run.specs.Runs.{RunStop, RunsAfter}
use Rattle.event_run.specs.Runs as stop
use Rattle.event_run.specs.Taking.{HasTakenAfter, BeginsRunAfter, AreEventsReadAfter, AfterCall}
use Rattle.event_run.specs.Wanting.{OnMemory, WantsSteps}
use Rattle.event_run.proofs.Given.{begins}
use Rattle.stream_answers.specs.declared.events.Step.{Step}
use Rattle.stream_answers.specs.declared.events.Step.TheVariants as step
use Rattle.stream_answers.specs.Events.{Begins, AfterStep}

-- where a run begins, with the bytes that are too many by another name
begins_as : (earlier : List Event) (schema : Declared) (queries : List Query) (most budget : ℕ) (bytes : List ℕ) (all : List Event) → most ≡ budget → BeginsRunAfter earlier schema queries most bytes all → Begins (RunsAfter earlier schema queries budget) bytes all
begins_as earlier schema queries most budget bytes all same b = (b.more, b.stop, subst (λ (n : ℕ). RunsAfter earlier schema queries n bytes (all ++ b.more) b.stop) same b.runs)

module _ (earlier : List Event) (schema : Declared) (queries : List Query) (old new : LineReader) (had left : Option (List ℕ)) (same : new.budget ≡ old.budget) (engine now : EngineState) (all : List Event) where
  abbrev Had : List ℕ → List Event → Type 0
  Had bytes es = HasTakenAfter earlier schema queries old bytes had es

  abbrev Has : List ℕ → List Event → Type 0
  Has bytes es = HasTakenAfter earlier schema queries new bytes left es

  abbrev Reads : List ℕ → List Event → Type 0
  Reads bytes es = AreEventsReadAfter earlier schema queries old.budget bytes left es

  -- an event was taken
  pub takes_one : AfterCall earlier schema queries new engine now (λ bytes. Had bytes all) left all (Ok taken.Event) → AfterStep Had Has (RunsAfter earlier schema queries old.budget) Reads engine now all (Ok step.Event)
  takes_one took = (took.0, took.1, λ bytes h. (took.2 bytes h, begins_as earlier schema queries new.budget old.budget bytes (all ++ took.0 ∷ []) same (begins earlier schema queries new bytes left (all ++ took.0 ∷ []) (took.2 bytes h))), took.3, took.4)

  -- the run over the file stops, with the bytes that are too many by their other name
  halts : (halt : RunStop) → ((bytes : List ℕ) → Had bytes all → RunsAfter earlier schema queries new.budget bytes all halt) → (bytes : List ℕ) → Had bytes all → RunsAfter earlier schema queries old.budget bytes all halt
  halts halt runs bytes h = subst (λ (n : ℕ). RunsAfter earlier schema queries n bytes all halt) same (runs bytes h)

  -- it was the end
  pub takes_none : AfterCall earlier schema queries new engine now (λ bytes. Had bytes all) left all (Ok taken.End) → AfterStep Had Has (RunsAfter earlier schema queries old.budget) Reads engine now all (Ok step.End)
  takes_none took = halts stop.End took.1

  -- none was taken
  pub fails : (why : OrMemory RunFault) → AfterCall earlier schema queries new engine now (λ bytes. Had bytes all) left all (Err why) → AfterStep Had Has (RunsAfter earlier schema queries old.budget) Reads engine now all (Err why)
  fails Memory took = tt
  fails (Fault (fault.Event line refusal)) took = halts (stop.Event line refusal) took.1
  fails (Fault (fault.InputTooLong most)) took = halts (stop.InputTooLong most) took.1
  fails (Fault fault.ReadFault) took = λ bytes h. subst (λ (n : ℕ). AreEventsReadAfter earlier schema queries n bytes left all) same (took.1 bytes h)

  -- memory ran out for one
  pub wants : (why : OrMemory RunFault) (before after : ℕ) → OnMemory {T = NextEvent} (Err why) (WantsSteps schema queries all (λ next. (bytes : List ℕ) → Had bytes all → BeginsRunAfter earlier schema queries new.budget bytes (all ++ next ∷ [])) before after) →
      OnMemory {T = Step} (Err why) (WantsSteps schema queries all (λ next. (bytes : List ℕ) → Had bytes all → Begins (RunsAfter earlier schema queries old.budget) bytes (all ++ next ∷ [])) before after)
  wants Memory before after (inl none) = inl none
  wants Memory before after (inr some) = inr (some.0, (λ bytes h. begins_as earlier schema queries new.budget old.budget bytes (all ++ some.0 ∷ []) same (some.1 bytes h)), some.2)
  wants (Fault why) before after w = tt
