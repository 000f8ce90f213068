use Rattle.query_index.proofs.Opened.{asks_joined}
use Rattle.query_index.proofs.text_prefilters.asked_joined.Goals as goal

pub returns-in-All : goal.returns-in-All
returns-in-All c = asks_joined c.asked_by_all.result c.args.test.now c.in-All.joined c.as_slice.result.now c.in-All.is c.as_slice.ensures.value c.asked_by_all.ensures
