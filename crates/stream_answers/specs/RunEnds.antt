-- How the reading of a source's events ended, and what is said by it.
use Rattle.std.specs.Prelude.{◌≡◌, ℕ, ◌⊎◌, List, Option, None, Result, Ok, Err}
use Rattle.cer_base.specs.declared.OrMemory.{OrMemory}
use Rattle.cer_base.specs.declared.OrMemory.TheVariants.{Fault, Memory}
use Rattle.cer_outside.specs.Causes.{Rose}
use Rattle.event_run.specs.Runs.{RunStop}
use Rattle.event_run.specs.Runs as stop
use Rattle.stream_answers.specs.declared.StreamFault.{StreamFault}
use Rattle.stream_answers.specs.declared.StreamFault.TheVariants as fault

-- What is said with each stop of the events, where the source failed, which has this left, where the sink failed, and where memory ran out.
pub record EndClaims : Type 1 where
  pub stops : RunStop → Type 0
  pub unread : Option (List ℕ) → Type 0
  pub unwritten : Type 0
  pub wants : Type 0

-- what is said of the end that it came to
abbrev pub ByEnd : EndClaims → Option (List ℕ) → {T : Type 0} → Result T (OrMemory StreamFault) → Type 0
ByEnd said left (Ok done) = said.stops stop.End
ByEnd said left (Err (Fault (fault.Event line refusal))) = said.stops (stop.Event line refusal)
ByEnd said left (Err (Fault (fault.InputTooLong taken))) = said.stops (stop.InputTooLong taken)
ByEnd said left (Err (Fault fault.ReadFault)) = said.unread left
ByEnd said left (Err (Fault fault.WriteFault)) = said.unwritten
ByEnd said left (Err Memory) = said.wants

-- the source's count of faults rose where it failed, and else stays; where the sink failed the source may have failed before
abbrev pub HasReadCause : {T : Type 0} → ℕ → ℕ → Result T (OrMemory StreamFault) → Type 0
HasReadCause before now result =
    ByEnd (record { stops = λ halt. now ≡ before; unread = λ left. Rose before now; unwritten = (now ≡ before) ⊎ Rose before now; wants = now ≡ before }) None result

-- the sink's count rose where it failed, and else stays
abbrev pub HasWriteCause : {T : Type 0} → ℕ → ℕ → Result T (OrMemory StreamFault) → Type 0
HasWriteCause before now result = ByEnd (record { stops = λ halt. now ≡ before; unread = λ left. now ≡ before; unwritten = Rose before now; wants = now ≡ before }) None result
