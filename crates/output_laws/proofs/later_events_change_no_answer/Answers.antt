use Rattle.output_laws.proofs.EarlierAnswers.{no_change}
use Rattle.output_laws.proofs.later_events_change_no_answer.Goals as goal

pub returns : goal.returns
returns c = no_change
