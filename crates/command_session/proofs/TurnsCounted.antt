-- The steps of a script, as those of a task are counted.
use Rattle.std.proofs.Common.{ℕ, ◌⊎◌, inl, inr, List, Option, None, Result, Ok, Err}
use Rattle.cer_base.specs.declared.OrMemory.{OrMemory}
use Rattle.cer_base.specs.declared.OrMemory.TheVariants.{Fault, Memory}
use Rattle.cer_outside.specs.Bytes.{TookAll}
use Rattle.stream_schema.specs.Types.{Declared}
use Rattle.cel_terms.specs.declared.Query.{Query}
use Rattle.stream_answers.specs.declared.StreamFault.{StreamFault}
use Rattle.stream_answers.specs.declared.StreamFault.TheVariants as fault
use Rattle.stream_answers.specs.RunEnds.{ByEnd}
use Rattle.stream_answers.specs.Steps.{counts_said}
use Rattle.stream_answers.specs.Streams.{EventsRequest}
use Rattle.command_session.specs.Turns.{CountsTurns, CountsBegun, TookFirst, turns_said}
use Rattle.command_session.specs.StepCounts.{script_asked, script_counts}

-- what was taken is forgotten
pub forget_took : (a : EventsRequest) (script : List ℕ) (Took Other : List ℕ → Type 0) (old now : ℕ) → CountsTurns a script Took old now ⊎ CountsBegun a script Other old now →
    CountsTurns a script (λ bytes. Unit {0}) old now ⊎ CountsBegun a script (λ bytes. Unit {0}) old now
forget_took a script Took Other old now (inl c) = inl (record { texts = c.texts; later = c.later; first = c.first; turns = c.turns; machine = c.machine; bytes = c.bytes; are = c.are; took = tt; bounded = c.bounded })
forget_took a script Took Other old now (inr c) = inr (record { texts = c.texts; text = c.text; later = c.later; first = c.first; turns = c.turns; machine = c.machine; bytes = c.bytes; are = c.are; took = tt; bounded = c.bounded })

-- by how the script ended
pub turns_counted : {T : Type 0} (schema : Declared) (queries : List Query) (script : List ℕ) (before after : Option (List ℕ)) (old now : ℕ) (end : Result T (OrMemory StreamFault)) → ByEnd (turns_said (script_asked schema queries) script before after old now) None end →
    ByEnd (counts_said (λ Stops Took. (script_counts schema queries script).all Stops Took old now) ((script_counts schema queries script).at_fault before after old now) before after) None end
turns_counted schema queries script before after old now (Ok done) steps = inl steps
turns_counted schema queries script before after old now (Err (Fault (fault.Event line refusal))) steps = inl steps
turns_counted schema queries script before after old now (Err (Fault (fault.InputTooLong taken))) steps = inl steps
turns_counted schema queries script before after old now (Err (Fault fault.ReadFault)) steps = forget_took (script_asked schema queries) script (TookAll before after) (TookFirst before) old now (inl steps)
turns_counted schema queries script before after old now (Err (Fault fault.WriteFault)) steps = steps
turns_counted schema queries script before after old now (Err Memory) steps = forget_took (script_asked schema queries) script (TookAll before after) (TookFirst before) old now steps
