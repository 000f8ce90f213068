use Rattle.scaling_laws.proofs.Sharded.{shards_answer}
use Rattle.scaling_laws.proofs.shards_answer_for_their_keys.Goals as goal

pub returns : goal.returns
returns c = shards_answer
