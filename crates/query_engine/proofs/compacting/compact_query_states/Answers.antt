use Rattle.std.proofs.Common.{ℕ, subst}
use Rattle.query_engine.specs.Times.{clocks_in, with_clocks}
use Rattle.query_engine.specs.Compacting.{AreTrimmed}
use Rattle.query_engine.proofs.compacting.compact_query_states.Goals as goal

pub returns-clause-left : goal.returns-clause-left
returns-clause-left g c = subst (λ (n : ℕ). AreTrimmed c.args.chosen.now n c.compact_all.new.held (with_clocks c.compact_all.new.query_states (clocks_in c.args.times.now))) c.settle_all.auto.query_states c.compact_all.ensures.left
