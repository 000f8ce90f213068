use Rattle.query_state.proofs.AtFirst.{matcher_made, first_made, skip_insensitive_made}
use Rattle.query_state.proofs.matcher.Matcher.of.Goals as goal

pub returns-clause-matcher : goal.returns-clause-matcher
returns-clause-matcher c = matcher_made c.args.schema.now c.args.query.now c.in_ok-leaves.leaves c.matcher_of.result c.in_ok-leaves.ensures.shape c.in_ok-leaves.ensures.list c.in_ok-leaves.ensures.strict c.matcher_of.ensures.empty c.matcher_of.ensures.room c.matcher_of.ensures.matches

pub returns-clause-skip_insensitive : goal.returns-clause-skip_insensitive
returns-clause-skip_insensitive c = skip_insensitive_made c.args.schema.now c.args.query.now c.in_ok-leaves.leaves c.matcher_of.result c.in_ok-leaves.ensures.shape c.in_ok-leaves.ensures.list c.in_ok-leaves.ensures.strict c.matcher_of.ensures.skip_insensitive

pub returns-clause-first : goal.returns-clause-first
returns-clause-first c = first_made c.args.schema.now c.args.query.now c.in_ok-leaves.leaves c.matcher_of.result c.in_ok-leaves.ensures.shape c.in_ok-leaves.ensures.list c.matcher_of.ensures.first c.matcher_of.ensures.first_room
