use Rattle.query_index.proofs.Indexed.{rest_some, nothing_told}
use Rattle.query_index.proofs.index.with_rest.Goals as goal

pub returns : goal.returns
returns c = rest_some c.args.indexes.items c.push.new.self.items c.args.left.items c.without_buckets.result c.in_ok-push.ensures.items c.without_buckets.ensures.rows (λ leaves. c.without_buckets.ensures.index leaves (nothing_told leaves c.args.left.items c.nothing_shared.result c.nothing_shared.ensures.rows))
