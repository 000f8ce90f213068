-- What the words ask for is one thing, and each job is lawful.
use Rattle.std.proofs.Common.{◌≡◌, ℕ, List, [], refl, sym, ◌∙◌, ap, subst}
use Rattle.command_words.specs.declared.Command.{Command}
use Rattle.command_words.specs.declared.Command.TheVariants.{Run, Sample, Session, Reorder, Explain, Save, Resume}
use Rattle.command_words.specs.declared.SampleWords.{SampleWords}
use Rattle.command_words.specs.CommandLine.{AskNothing}
use Rattle.command_words.proofs.ForCallers.{one_command}
use Rattle.cer_outside.specs.Content.{Content}
use Rattle.command_base.proofs.Lawful.{IsLawful}
use Rattle.command_base.proofs.StepClauses.{Forgets}
use Rattle.command_base.proofs.TextEnds.{reporting_is_lawful}
use Rattle.command_base.proofs.Answering.{answering_is_lawful, answering_forgets}
use Rattle.command_run.specs.Runs as run
use Rattle.command_run.proofs.Lawful.{run_gives}
use Rattle.command_reorder.specs.Reordered as late
use Rattle.command_reorder.proofs.Lawful.{reorder_gives}
use Rattle.command_explain.specs.Explained as explained
use Rattle.command_session.proofs.Lawful.{session_is_lawful, session_forgets}
use Rattle.command_checkpoint.specs.Saving as saved
use Rattle.command_checkpoint.proofs.Lawful.{resume_is_lawful, resume_forgets}
use Rattle.core_top.specs.StepCounts.{steps_of}
use Rattle.core_top.specs.Jobs.{Job, running, reordering, explaining, playing, resuming, saving, command_of, task_of, AsksJob, AsksSample}

-- the job that a command is, or any other
abbrev job_of : Command → Job
job_of (Run r) = running r
job_of (Reorder w) = reordering w
job_of (Explain x) = explaining x
job_of (Session s) = playing s
job_of (Resume r) = resuming r
job_of (Save s) = saving s
job_of (Sample sample) = saving (record { queries = []; events = [] })

job_again : (job : Job) → job_of (command_of job) ≡ job
job_again (running r) = refl
job_again (reordering w) = refl
job_again (explaining x) = refl
job_again (playing s) = refl
job_again (resuming r) = refl
job_again (saving s) = refl

-- the job is one
pub one_job : (words : List (List ℕ)) (job other : Job) → AsksJob words job → AsksJob words other → job ≡ other
one_job words job other one two = sym (job_again job) ∙ ap job_of (one_command words (command_of job) (command_of other) one two) ∙ job_again other

-- and so is a sample,
pub one_sample : (words : List (List ℕ)) (one other : SampleWords) → AsksSample words one → AsksSample words other → one ≡ other
one_sample words one other first second = (let same = one_command words (Sample one) (Sample other) first second in cc)

-- which is no job
no_sample : (job : Job) (sample : SampleWords) → command_of job ≡ Sample sample → ⊥
no_sample (running r) sample same = let wrong : Run r ≡ Sample sample = same in cc
no_sample (reordering w) sample same = let wrong : Reorder w ≡ Sample sample = same in cc
no_sample (explaining x) sample same = let wrong : Explain x ≡ Sample sample = same in cc
no_sample (playing s) sample same = let wrong : Session s ≡ Sample sample = same in cc
no_sample (resuming r) sample same = let wrong : Resume r ≡ Sample sample = same in cc
no_sample (saving s) sample same = let wrong : Save s ≡ Sample sample = same in cc

pub no_job_and_sample : (words : List (List ℕ)) (job : Job) (sample : SampleWords) → AsksJob words job → AsksSample words sample → ⊥
no_job_and_sample words job sample one other = no_sample job sample (one_command words (command_of job) (Sample sample) one other)

-- words that ask for a job ask for something
pub asks_something : (words : List (List ℕ)) (job : Job) → AskNothing words → AsksJob words job → ⊥
asks_something words job ask asked = ask (command_of job) asked

-- each job is lawful
pub lawful : (job : Job) → IsLawful (task_of job)
lawful (running r) = answering_is_lawful (run.answers_of r) (run_gives r)
lawful (reordering w) = answering_is_lawful (late.answers_of w) (reorder_gives w)
lawful (explaining x) = reporting_is_lawful (explained.report_of x)
lawful (playing s) = session_is_lawful s
lawful (resuming r) = resume_is_lawful r
lawful (saving s) = reporting_is_lawful (saved.report_of s)

-- and its steps are counted whatever stop and output they are told with
pub forgets : (job : Job) (content : List ℕ → Content) → Forgets (steps_of job content)
forgets (running r) content = answering_forgets (run.answers_of r) content
forgets (reordering w) content = answering_forgets (late.answers_of w) content
forgets (explaining x) content = record { all = λ Stops Took old now h. h }
forgets (playing s) content = session_forgets s content
forgets (resuming r) content = resume_forgets r content
forgets (saving s) content = record { all = λ Stops Took old now h. h }

-- and by another name of the words
pub job_as : (words others : List (List ℕ)) (job : Job) → others ≡ words → AsksJob words job → AsksJob others job
job_as words others job same asked = let P : List (List ℕ) → Type 0 = λ w. AsksJob w job in subst P (sym same) asked
