use Rattle.query_state.proofs.NoOp.{nothing_of}
use Rattle.query_state.proofs.own.is_nothing.Goals as goal

pub returns-then-begins_none : goal.returns-then-begins_none
returns-then-begins_none c told = nothing_of c.args.matches.now c.args.key.now c.args.first.now c.args.bits.now (c.begins_none.ensures c.if-begins_none.true) (c.has_none_of.ensures told)
