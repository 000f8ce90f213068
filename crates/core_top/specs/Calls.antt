-- How a call of the program ended, by what its words ask for. Private clauses alone cite this file.
use Rattle.std.specs.Prelude.{◌≡◌, ℕ, List, Option, None}
use Rattle.command_words.specs.CommandLine.{AskNothing}
use Rattle.command_words.specs.declared.SampleWords.{SampleWords}
use Rattle.command_base.specs.declared.Cause.{Cause}
use Rattle.command_base.specs.declared.Cause.TheVariants as cause
use Rattle.command_base.specs.Sources.{Sources}
use Rattle.command_base.specs.Ending.{Outside, TaskEnded}
use Rattle.command_sample.specs.Ending.{SampleStop}
use Rattle.core_top.specs.Jobs.{Job, AsksJob, AsksSample, task_of}

-- The sample ended by this cause, and no file was touched.
pub record SampleEnded {S H : Type 0} (o : Outside) (sample : SampleWords) (first last : H) (given : Cause) (failed : Option S) : Type 0 where
  pub stop : SampleStop sample o.out_old o.out_new o.before o.after given failed
  pub unopened : last ≡ first

-- Nothing was done, since the words ask for nothing, or memory ran out while they were read.
pub record UnaskedEnded {S H : Type 0} (o : Outside) (first last : H) (failed : Option S) : Type 0 where
  pub none : failed ≡ None
  pub wrote : o.after ≡ o.before
  pub counts_writes : o.out_new ≡ o.out_old
  pub unopened : last ≡ first

-- how a call ended, by what its words ask for
pub data CallEnded {S H : Type 0} (sources : Sources S) (call : H → List ℕ → H → Type 0) (words : List (List ℕ)) (o : Outside) (first last : H) : Cause → Option S → Type 0 where
  ran : {given : Cause} {failed : Option S} (job : Job) → AsksJob words job → TaskEnded sources call o (task_of job) first last given failed → CallEnded sources call words o first last given failed
  sampled : {given : Cause} {failed : Option S} (sample : SampleWords) → AsksSample words sample → SampleEnded o sample first last given failed → CallEnded sources call words o first last given failed
  refused : {given : Cause} {failed : Option S} → AskNothing words → given ≡ cause.Usage → UnaskedEnded o first last failed → CallEnded sources call words o first last given failed
  unread : {given : Cause} {failed : Option S} → given ≡ cause.Memory → UnaskedEnded o first last failed → CallEnded sources call words o first last given failed
