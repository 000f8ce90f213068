-- What the words of the command line ask the program for, and what that is to the program.
use Rattle.std.specs.Prelude.{ℕ, List}
use Rattle.command_words.specs.declared.Command.{Command}
use Rattle.command_words.specs.declared.Command.TheVariants.{Run, Sample, Session, Reorder, Explain, Save, Resume}
use Rattle.command_words.specs.declared.RunWords.{RunWords}
use Rattle.command_words.specs.declared.ReorderWords.{ReorderWords}
use Rattle.command_words.specs.declared.ExplainWords.{ExplainWords}
use Rattle.command_words.specs.declared.SessionWords.{SessionWords}
use Rattle.command_words.specs.declared.ResumeWords.{ResumeWords}
use Rattle.command_words.specs.declared.SaveWords.{SaveWords}
use Rattle.command_words.specs.declared.SampleWords.{SampleWords}
use Rattle.command_words.specs.CommandLine.{AsksFor}
use Rattle.command_base.specs.Tasks.{Task}
use Rattle.command_run.specs.Runs.{run_task}
use Rattle.command_reorder.specs.Reordered.{reorder_task}
use Rattle.command_explain.specs.Explained.{explain_task}
use Rattle.command_session.specs.Played.{session_task}
use Rattle.command_checkpoint.specs.Saving.{save_task}
use Rattle.command_checkpoint.specs.GoingOn.{resume_task}

-- what is to be done with a query file and an event file, with a script of commands in its place, or with a checkpoint before it
pub data Job : Type 0 where
  running : RunWords → Job
  reordering : ReorderWords → Job
  explaining : ExplainWords → Job
  playing : SessionWords → Job
  resuming : ResumeWords → Job
  saving : SaveWords → Job

-- the command that it is
abbrev pub command_of : Job → Command
command_of (running r) = Run r
command_of (reordering w) = Reorder w
command_of (explaining x) = Explain x
command_of (playing s) = Session s
command_of (resuming r) = Resume r
command_of (saving s) = Save s

-- what it is to the program
abbrev pub task_of : Job → Task
task_of (running r) = run_task r
task_of (reordering w) = reorder_task w
task_of (explaining x) = explain_task x
task_of (playing s) = session_task s
task_of (resuming r) = resume_task r
task_of (saving s) = save_task s

-- the words ask for this job
abbrev pub AsksJob : List (List ℕ) → Job → Type 0
AsksJob words job = AsksFor words (command_of job)

-- they ask for this sample
abbrev pub AsksSample : List (List ℕ) → SampleWords → Type 0
AsksSample words sample = AsksFor words (Sample sample)
