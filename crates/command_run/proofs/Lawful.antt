-- What holds of a run as a task. For `core_top`.
use Rattle.std.proofs.Common.{[]}
use Rattle.event_run.proofs.ForCallers.{one_run_of_trees}
use Rattle.command_words.specs.declared.RunWords.{RunWords}
use Rattle.command_base.proofs.Answering.{GivesEvents}
use Rattle.command_base.proofs.Told.{left_behind}
use Rattle.command_run.specs.Runs.{answers_of}

pub run_gives : (r : RunWords) → GivesEvents (answers_of r)
run_gives r = record {
  one = λ schema p q lines events others halt other same one two. (one_run_of_trees schema p q r.most_bytes lines events others halt other same one two).1;
  rest = λ schema queries left lines events read. left_behind [] schema queries r.most_bytes left lines events read;
}
