-- Lines that are gathered before they are written, and how a run stands meanwhile. Private clauses alone cite this file.
use Rattle.std.specs.Prelude.{◌≡◌, ℕ, ◌≤◌, ◌⊎◌, List, [], ◌++◌, length, Option, Some, Result, Ok, Err}
use Rattle.cer_base.specs.declared.OrMemory.{OrMemory}
use Rattle.cer_base.specs.declared.OrMemory.TheVariants.{Fault, Memory}
use Rattle.cer_outside.specs.Causes.{Rose}
use Rattle.cer_outside.specs.Bytes.{TookAll, TookPart}
use Rattle.stream_schema.specs.declared.Event.{Event}
use Rattle.answer_text.specs.declared.Order.{Order}
use Rattle.output_laws.specs.After.{IsOutputAfter}
use Rattle.query_engine.specs.Engine.{EngineState, StandsFor}
use Rattle.event_run.specs.declared.RunFault.{RunFault}
use Rattle.event_run.specs.declared.RunFault.TheVariants as run
use Rattle.event_run.specs.Runs.{RunStop}
use Rattle.stream_answers.specs.declared.StreamFault.{StreamFault}
use Rattle.stream_answers.specs.declared.StreamFault.TheVariants as fault
use Rattle.stream_answers.specs.Events.{Begins}
use Rattle.stream_answers.specs.Streams.{RunRequest}

-- what is gathered, and how the lines of one position are ordered
pub record OutputState : Type 0 where
  pub order : Order
  pub buffer : List ℕ

-- Of the bytes that were held and those that came, the sink took a first part, what is held follows, and then the rest.
pub record PassesOn (before after : Option (List ℕ)) (buffer came now rest : List ℕ) : Type 0 where
  pub written : List ℕ
  pub took : TookAll before after written
  pub whole : buffer ++ came ≡ written ++ (now ++ rest)

-- what became of the bytes that were held and those that came, by how the call ended
abbrev pub Passed : {T F : Type 0} → Option (List ℕ) → Option (List ℕ) → List ℕ → List ℕ → List ℕ → Result T (OrMemory F) → Type 0
Passed before after buffer came now (Ok done) = PassesOn before after buffer came now []
Passed before after buffer came now (Err (Fault f)) = TookPart before after (buffer ++ came)
Passed before after buffer came now (Err Memory) = (rest : List ℕ) × PassesOn before after buffer came now rest

-- Nothing is held, or the next event is at hand: the source is asked nothing for it.
abbrev pub MayWait : List ℕ → Type 0 → Type 0
MayWait buffer IsAtHand = (buffer ≡ []) ⊎ IsAtHand

-- The engine stands for events, of which those after the earlier ones have their answers written or held; of the source, where it tells its bytes, these were given, and its run begins with them.
pub record Running (Takes : List ℕ → List Event → RunStop → Type 0) (Has : List ℕ → List Event → Type 0) (earlier : List Event) (a : RunRequest) (source before after : Option (List ℕ)) (buffer : List ℕ) (engine : EngineState) : Type 0 where
  pub events : List Event
  pub stands : StandsFor engine events
  pub written : List ℕ
  pub took : TookAll before after written
  pub behind : length earlier ≤ length events
  pub output : IsOutputAfter (length earlier) a.order a.schema a.queries events (written ++ buffer)
  pub given : (lines : List ℕ) → source ≡ Some lines → Has lines events
  pub begins : (lines : List ℕ) → source ≡ Some lines → Begins Takes lines events

-- What was held was written, and the answer is the one that was to come; or a write failed, and that is the answer.
pub record Finished {T : Type 0} (before after : Option (List ℕ)) (old new : ℕ) (buffer : List ℕ) (end result : Result T (OrMemory StreamFault)) : Type 0 where
  pub way : ((result ≡ end) × TookAll before after buffer × (new ≡ old))
      ⊎ ((result ≡ Err (Fault fault.WriteFault)) × TookPart before after buffer × Rose old new)

-- why no further event was taken
abbrev pub stream_fault : OrMemory RunFault → OrMemory StreamFault
stream_fault Memory = Memory
stream_fault (Fault run.ReadFault) = Fault fault.ReadFault
stream_fault (Fault (run.Event line refusal)) = Fault (fault.Event line refusal)
stream_fault (Fault (run.InputTooLong taken)) = Fault (fault.InputTooLong taken)
