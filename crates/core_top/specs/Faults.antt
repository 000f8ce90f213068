-- What a fault of the outside says of the job that the words ask for.
use Rattle.std.specs.Prelude.{◌≡◌, ℕ, List, Option}
use Rattle.cer_outside.specs.Causes.{Rose}
use Rattle.cer_outside.specs.Content.{Content}
use Rattle.fault_notes.specs.declared.File.{File}
use Rattle.fault_notes.specs.declared.File.TheVariants as file
use Rattle.command_base.specs.declared.files.TheConstants.{MOST_READ}
use Rattle.command_base.specs.SourceBytes.{IsRestOf, TookAtMostOf}
use Rattle.command_base.specs.Tasks.{ComesInTurn, name_of}
use Rattle.core_top.specs.Jobs.{Job, AsksJob, task_of}

-- The host's count for the file's name rose in the call, from before to after.
pub record HasOpenFault (words : List (List ℕ)) (content : List ℕ → Content) (old new : List ℕ → ℕ) (opened : File) (before after : ℕ) : Type 0 where
  pub job : Job
  pub asked : AsksJob words job
  pub turn : ComesInTurn (task_of job) opened content
  pub from : before ≡ old (name_of opened (task_of job))
  pub to : after ≡ new (name_of opened (task_of job))
  pub rose : Rose before after

-- The count of the source that failed rose from 0 to after, and it has left the last part of the host's bytes under the file's name. Of a query file it gave no more than are read of one.
pub record HasReadFault (words : List (List ℕ)) (content : List ℕ → Content) (read : File) (after : ℕ) (faults : ℕ) (left : Option (List ℕ)) : Type 0 where
  pub job : Job
  pub asked : AsksJob words job
  pub turn : ComesInTurn (task_of job) read content
  pub told : faults ≡ after
  pub rose : Rose 0 after
  pub rest : IsRestOf (content (name_of read (task_of job))) left
  pub within : read ≡ file.Queries → TookAtMostOf MOST_READ (content (task_of job).queries) left

-- The output's count of faults rose in the call, from before to after.
pub record HasWriteFault (old new before after : ℕ) : Type 0 where
  pub from : before ≡ old
  pub to : after ≡ new
  pub rose : Rose before after
