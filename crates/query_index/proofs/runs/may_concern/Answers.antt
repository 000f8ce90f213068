use Rattle.query_index.proofs.Indexed.{apart_from}
use Rattle.query_index.proofs.runs.may_concern.Goals as goal

pub returns-in-Some : goal.returns-in-Some
returns-in-Some c = λ none event at leaf there. apart_from c.args.leaves.now c.args.row.now.leaf c.in-Some.leaf.now leaf c.as_slice.result.now event c.in-Some.ensures c.as_slice.ensures.value (c.may_hold_over.ensures none event at) there
