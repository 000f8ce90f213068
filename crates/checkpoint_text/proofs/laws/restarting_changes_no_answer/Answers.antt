use Rattle.checkpoint_text.proofs.Restarting.{restarting}
use Rattle.checkpoint_text.proofs.laws.restarting_changes_no_answer.Goals as goal

pub returns : goal.returns
returns c = λ schema queries came kept more k q end answer well query checked of level stream behind. restarting schema queries came kept more k q well query checked of level stream end answer behind
