use Rattle.query_standing.proofs.Link.{no_answer}
use Rattle.query_standing.proofs.laws.no_key_no_answer.Goals as goal

pub returns : goal.returns
returns c schema q events end last answer last_is none is = no_answer schema q events end last last_is none answer is
