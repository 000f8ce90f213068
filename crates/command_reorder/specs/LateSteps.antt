-- How many steps a late feed takes: those of a run, over the events that the queries take of it.
use Rattle.std.specs.Prelude.{ℕ, List, Option, Result}
use Rattle.cer_base.specs.declared.OrMemory.{OrMemory}
use Rattle.stream_answers.specs.declared.StreamFault.{StreamFault}
use Rattle.stream_answers.specs.Steps.{StepsTaken}
use Rattle.command_reorder.specs.Late.{LateRequest, RunsLate}
use Rattle.command_reorder.specs.LateOutput.{asked}

-- the steps of a feed over a file of these bytes, by how it ended
abbrev pub LateStepsOver : Option ℕ → LateRequest → List ℕ → Option (List ℕ) → Option (List ℕ) → ℕ → ℕ → {T : Type 0} → Result T (OrMemory StreamFault) → Type 0
LateStepsOver every a lines before after old now result = StepsTaken (RunsLate a) (record { every = every; first = 0 }) 0 (asked a) lines before after old now result
