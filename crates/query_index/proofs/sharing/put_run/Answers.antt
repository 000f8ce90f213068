use Rattle.std.proofs.Common.{◌∙◌, sym, subst}
use Rattle.query_index.specs.Index.{AreShared}
use Rattle.query_index.proofs.Indexed.{run_put, each_next}
use Rattle.query_index.proofs.sharing.put_run.Goals as goal

pub returns-clause-rows : goal.returns-clause-rows
returns-clause-rows c = run_put c.args.indexes.now.items c.push.new.self.items c.without_buckets.result c.args.rows.now c.in_ok-push.ensures.items (c.without_buckets.ensures.rows ∙ c.in_ok-rows.ensures.items)

pub returns-clause-each : goal.returns-clause-each
returns-clause-each c = λ leaves shared all. each_next leaves c.args.indexes.now.items c.push.new.self.items c.without_buckets.result c.in_ok-push.ensures.items (c.without_buckets.ensures.index leaves (subst (λ rs. AreShared leaves rs c.args.shared) (sym c.in_ok-rows.ensures.items) shared)) all
