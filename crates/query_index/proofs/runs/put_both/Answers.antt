use Rattle.query_index.proofs.Covered.{joined_keeps}
use Rattle.query_index.proofs.runs.put_both.Goals as goal

pub returns-then-are_near : goal.returns-then-are_near
returns-then-are_near c = joined_keeps c.args.runs.now.items c.push.new.self.items c.args.first c.args.second c.joined.result c.in_ok-push.ensures.items c.joined.ensures.first c.joined.ensures.second
