use Rattle.checkpoint_text.proofs.KeptTexts.{gives_again}
use Rattle.checkpoint_text.proofs.laws.kept_text_gives.Goals as goal

pub returns : goal.returns
returns c = gives_again
