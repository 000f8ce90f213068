-- What is said by how what ran over a source ended is what is said by the cause. For commands.
use Rattle.std.proofs.Common.{◌≡◌, ℕ, inr, List, Option, Some, None, Result, Ok, Err, refl, sym, ◌∙◌, ap, subst}
use Rattle.std.specs.Prelude.{OnOk}
use Rattle.cer_base.specs.declared.OrMemory.{OrMemory}
use Rattle.cer_base.specs.declared.OrMemory.TheVariants.{Fault, Memory}
use Rattle.cer_outside.specs.Causes.{Rose, AllStay}
use Rattle.cer_outside.specs.Content.{HasOpened}
use Rattle.stream_answers.specs.declared.StreamFault.{StreamFault}
use Rattle.stream_answers.specs.declared.StreamFault.TheVariants as fault
use Rattle.stream_answers.specs.RunEnds.{EndClaims, ByEnd, HasReadCause, HasWriteCause}
use Rattle.stream_answers.specs.Steps.{counts_said}
use Rattle.command_base.specs.declared.Cause.{Cause}
use Rattle.command_base.specs.declared.Cause.TheVariants as cause
use Rattle.command_base.specs.Causes.{CountsWrites}
use Rattle.command_base.specs.Sources.{Sources}
use Rattle.command_base.specs.Ending.{Outside, FileStop, SourceStop, cause_of, failed_by}
use Rattle.command_base.specs.StepCounts.{Counts, StepsBy, counts_where}
use Rattle.command_base.proofs.Ends.{file_opened}

-- what was written, with the source that failed
source_stops : {S T : Type 0} (sources : Sources S) (said : EndClaims) (source : S) (first out_old out_new : ℕ) (end : Result T (OrMemory StreamFault)) → first ≡ 0 → ByEnd said (sources.left source) end →
    HasReadCause first (sources.faults source) end → HasWriteCause out_old out_new end → SourceStop sources said out_old out_new (cause_of end out_old out_new (sources.faults source)) (failed_by end source)
source_stops sources said source first out_old out_new (Ok done) none is read wrote = (refl, is)
source_stops sources said source first out_old out_new (Err (Fault (fault.Event line refusal))) none is read wrote = (refl, is)
source_stops sources said source first out_old out_new (Err (Fault (fault.InputTooLong taken))) none is read wrote = (refl, is)
source_stops sources said source first out_old out_new (Err (Fault fault.ReadFault)) none is read wrote = (refl, (refl, subst (λ n. Rose n (sources.faults source)) none read), is)
source_stops sources said source first out_old out_new (Err (Fault fault.WriteFault)) none is read wrote = (refl, refl, refl, wrote, is)
source_stops sources said source first out_old out_new (Err Memory) none is read wrote = (refl, is)

-- the output's count of faults
source_writes : {T : Type 0} (old new reads : ℕ) (end : Result T (OrMemory StreamFault)) → HasWriteCause old new end → CountsWrites (cause_of end old new reads) old new
source_writes old new reads (Ok done) wrote = wrote
source_writes old new reads (Err (Fault (fault.Event line refusal))) wrote = wrote
source_writes old new reads (Err (Fault (fault.InputTooLong taken))) wrote = wrote
source_writes old new reads (Err (Fault fault.ReadFault)) wrote = wrote
source_writes old new reads (Err (Fault fault.WriteFault)) wrote = wrote
source_writes old new reads (Err Memory) wrote = wrote

-- how a command ended over a file that was opened, with what it ran over it
pub file_ran : {S T : Type 0} (sources : Sources S) (said : Option (List ℕ) → EndClaims) (name : List ℕ) (o : Outside) (source now : S) (end : Result T (OrMemory StreamFault)) (given : Cause) (failed : Option S) (before : ℕ) → HasOpened (o.content name) (sources.left source) → AllStay o.old o.new → sources.faults source ≡ 0 →
    ByEnd (said (sources.left source)) (sources.left now) end → HasReadCause (sources.faults source) (sources.faults now) end → HasWriteCause o.out_old o.out_new end → before ≡ o.out_old → given ≡ cause_of end before o.out_new (sources.faults now) → failed ≡ failed_by end now → FileStop sources said name o given failed
file_ran {S} sources said name o source now end given failed before opened stay fresh wrote reads writes was is lost =
    let causes : ℕ → Cause = λ n. cause_of end n o.out_new (sources.faults now) in
    let P : Cause → Type 0 = λ k. FileStop sources said name o k failed in
    let F : Option S → Type 0 = λ f. FileStop sources said name o (causes o.out_old) f in
    let stops = source_stops sources (said (sources.left source)) now (sources.faults source) o.out_old o.out_new end fresh wrote reads writes in
    subst P (sym (is ∙ ap causes was)) (subst F (sym lost) (file_opened sources said (sources.left source) name o (causes o.out_old) (failed_by end now) opened stay stops (source_writes o.out_old o.out_new (sources.faults now) end writes)))

-- the steps
pub source_steps : {T : Type 0} (counts : List ℕ → Counts) (source before after : Option (List ℕ)) (old now from to reads : ℕ) (end : Result T (OrMemory StreamFault)) →
    ((lines : List ℕ) → source ≡ Some lines → ByEnd (counts_said (λ Stops Took. (counts lines).all Stops Took old now) ((counts lines).at_fault before after old now) before after) None end) →
    StepsBy (cause_of end from to reads) (counts_where (λ lines. source ≡ Some lines) counts) before after old now
source_steps counts source before after old now from to reads (Ok done) steps = steps
source_steps counts source before after old now from to reads (Err (Fault (fault.Event line refusal))) steps = steps
source_steps counts source before after old now from to reads (Err (Fault (fault.InputTooLong taken))) steps = steps
source_steps counts source before after old now from to reads (Err (Fault fault.ReadFault)) steps = steps
source_steps counts source before after old now from to reads (Err (Fault fault.WriteFault)) steps = steps
source_steps counts source before after old now from to reads (Err Memory) steps = inr steps

-- where all is well, it ended well
pub ended_well : {T Says : Type 0} (from to reads : ℕ) (end : Result T (OrMemory StreamFault)) → cause_of end from to reads ≡ cause.Fine → OnOk end Says → Says
ended_well from to reads (Ok done) fine says = says
ended_well from to reads (Err (Fault (fault.Event line refusal))) fine says = absurd (let wrong = fine in cc)
ended_well from to reads (Err (Fault (fault.InputTooLong taken))) fine says = absurd (let wrong = fine in cc)
ended_well from to reads (Err (Fault fault.ReadFault)) fine says = absurd (let wrong = fine in cc)
ended_well from to reads (Err (Fault fault.WriteFault)) fine says = absurd (let wrong = fine in cc)
ended_well from to reads (Err Memory) fine says = absurd (let wrong = fine in cc)
