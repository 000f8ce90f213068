-- How many steps a task takes, by how it ended.
use Rattle.std.specs.Prelude.{◌≡◌, ℕ, ◌⊎◌, List, Option}
use Rattle.cer_outside.specs.Bytes.{TookAll}
use Rattle.cer_outside.specs.Content.{Content, Holds}
use Rattle.stream_schema.specs.Types.{Declared}
use Rattle.cel_terms.specs.declared.Query.{Query}
use Rattle.event_run.specs.Runs.{RunStop, End, Event, InputTooLong}
use Rattle.fault_notes.specs.declared.File.TheVariants as file
use Rattle.command_base.specs.declared.Cause.{Cause}
use Rattle.command_base.specs.declared.Cause.TheVariants as cause
use Rattle.command_base.specs.Accepted.{SaysOf}

-- How steps are counted over files: by which stops pass and what was taken of the output, and where a write failed, by what the output had taken before and after.
pub record Counts : Type 1 where
  pub all : (RunStop → Type 0) → (List ℕ → Type 0) → ℕ → ℕ → Type 0
  pub at_fault : Option (List ℕ) → Option (List ℕ) → ℕ → ℕ → Type 0

-- The steps from old to now, by the cause. No step is taken before all files are opened; after that they are counted over the whole file, whatever ended the task.
-- Where it ended by itself, the output is what was written; after a write that failed, what it had taken before and after is told.
abbrev pub StepsBy : Cause → Counts → Option (List ℕ) → Option (List ℕ) → ℕ → ℕ → Type 0
StepsBy cause.Fine counts before after old now = counts.all (λ halt. halt ≡ End) (TookAll before after) old now
StepsBy (cause.Event line fault) counts before after old now = counts.all (λ halt. halt ≡ Event line fault) (TookAll before after) old now
StepsBy (cause.InputTooLong taken) counts before after old now = counts.all (λ halt. halt ≡ InputTooLong taken) (TookAll before after) old now
StepsBy (cause.ReadFault file.Events to) counts before after old now = counts.all (λ halt. Unit {0}) (λ bytes. Unit {0}) old now
StepsBy (cause.WriteFault from to) counts before after old now = counts.at_fault before after old now
StepsBy cause.Memory counts before after old now = (now ≡ old) ⊎ counts.all (λ halt. Unit {0}) (λ bytes. Unit {0}) old now
StepsBy _ counts before after old now = now ≡ old

-- no step is taken
abbrev pub none_counted : Counts
none_counted = record { all = λ Stops Took old now. now ≡ old; at_fault = λ before after old now. now ≡ old }

-- those over all bytes that are such
abbrev pub counts_where : (List ℕ → Type 0) → (List ℕ → Counts) → Counts
counts_where Are counts = record {
  all = λ Stops Took old now. (bytes : List ℕ) → Are bytes → (counts bytes).all Stops Took old now;
  at_fault = λ before after old now. (bytes : List ℕ) → Are bytes → (counts bytes).at_fault before after old now;
}

-- those over the bytes of the last file, for the schema and the queries of the query text, where the host tells both
abbrev pub counts_of_files : (List ℕ → Content) → List ℕ → List ℕ → (Declared → List Query → List ℕ → Counts) → Counts
counts_of_files content queries events counts = record {
  all = λ Stops Took old now. (text lines : List ℕ) → content queries ≡ Holds text → content events ≡ Holds lines → SaysOf text (λ s qs. (counts s qs lines).all Stops Took old now);
  at_fault = λ before after old now. (text lines : List ℕ) → content queries ≡ Holds text → content events ≡ Holds lines → SaysOf text (λ s qs. (counts s qs lines).at_fault before after old now);
}
