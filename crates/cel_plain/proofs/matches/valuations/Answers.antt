use Rattle.cel_lists.proofs.Exact.{if_ok, are_matches}
use Rattle.cel_plain.proofs.matches.valuations.Goals as goal

pub returns : goal.returns
returns c = if_ok _ _ c.matches.result (λ found is. are_matches c.args.schema.now c.args.events.now c.args.positions.now c.args.formula.now found.items is) c.matches.ensures
