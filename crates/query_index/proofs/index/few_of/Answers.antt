use Rattle.query_index.proofs.Indexed.{suffice_all}
use Rattle.query_index.proofs.index.few_of.Goals as goal

pub returns-in-None : goal.returns-in-None
returns-in-None c = λ leaves is. suffice_all leaves c.args.index.now.rows.items c.as_slice.result.now c.args.event.now c.as_slice.ensures.value
