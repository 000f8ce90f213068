-- Why there is no history to go on from, and the steps after one, as the parts of the command tell them to each other. Private clauses alone cite this file.
use Rattle.std.specs.Prelude.{◌≡◌, ℕ, ◌⊎◌, List, Option, Some, None, Err, IsSomeAnd}
use Rattle.cer_outside.specs.Causes.{Rose}
use Rattle.cer_outside.specs.Content.{Content, HasOpened}
use Rattle.stream_schema.specs.Types.{Declared}
use Rattle.cel_terms.specs.declared.Query.{Query}
use Rattle.checkpoint_text.specs.declared.history.History.{History}
use Rattle.checkpoint_text.specs.Checkpoints.{checkpoint_of}
use Rattle.checkpoint_text.specs.ReaderAnswers.{AreGoodRead}
use Rattle.stream_answers.specs.Streams.{RunRequest}
use Rattle.fault_notes.specs.declared.File.TheVariants as file
use Rattle.command_base.specs.declared.Cause.{Cause}
use Rattle.command_base.specs.declared.Cause.TheVariants as cause
use Rattle.command_base.specs.StepCounts.{Counts}
use Rattle.command_base.specs.Sources.{Sources, left_by}
use Rattle.command_base.specs.Ending.{ReadingStops, IsOpening}
use Rattle.command_checkpoint.specs.Resumed.{AfterEach}
use Rattle.command_checkpoint.specs.StepCounts.{counts_after}

-- why a source has no history, of which these bytes were left, where they are told
abbrev pub NoHistory : {S : Type 0} → Sources S → Declared → List Query → Option (List ℕ) → Cause → Option S → Type 0
NoHistory sources schema queries source (cause.Checkpoint line fault) failed =
    (failed ≡ None) × ((kept : List ℕ) → source ≡ Some kept → checkpoint_of schema queries kept ≡ Err (record { line = line; fault = fault }))
NoHistory sources schema queries source (cause.ReadFault read to) failed =
    (read ≡ file.Checkpoint) × IsSomeAnd failed (λ s. (sources.faults s ≡ to) × Rose 0 to) × ((kept : List ℕ) → source ≡ Some kept → AreGoodRead schema queries kept (left_by sources failed))
NoHistory sources schema queries source cause.Memory failed = failed ≡ None
NoHistory sources schema queries source _ failed = ⊥

-- Why a file has none: it was not opened, or there is none in what was left in it.
pub record HistoryStop {S : Type 0} (sources : Sources S) (schema : Declared) (queries : List Query) (whole : Content) (old new : ℕ) (given : Cause) (failed : Option S) : Type 0 where
  pub way : (ReadingStops sources file.Checkpoint whole old new given failed × IsOpening given)
      ⊎ ((source : Option (List ℕ)) × HasOpened whole source × NoHistory sources schema queries source given failed)

-- the steps after every stream of the history
abbrev pub resumed_counts : Option ℕ → History → RunRequest → List ℕ → Counts
resumed_counts every history a lines = record {
  all = λ Stops Took old now. AfterEach a.schema history (λ earlier. (counts_after every earlier a lines).all Stops Took old now);
  at_fault = λ before after old now. AfterEach a.schema history (λ earlier. (counts_after every earlier a lines).at_fault before after old now);
}
