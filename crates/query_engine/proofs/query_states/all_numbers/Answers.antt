use Rattle.std.proofs.Common.{subst, arith}
use Rattle.all_or_none.specs.Phases.{Phase}
use Rattle.query_engine.specs.Running.{AreNamed}
use Rattle.query_engine.proofs.Named.{named_none, named_one_more}
use Rattle.query_engine.proofs.query_states.all_numbers.Goals as goal

pub loop-k-init : goal.loop-k-init
loop-k-init c = named_none (λ (p : Phase). ⊥) c.args.query_states.now c.new-numbers.result.items c.new-numbers.ensures.items

pub loop-k-preserved : goal.loop-k-preserved
loop-k-preserved c = named_one_more (λ (p : Phase). ⊥) c.loop-k.k c.args.query_states.now c.loop-k.numbers.items c.loop-k.invariant c.push.new.self.items c.in_ok-push.ensures.items

pub returns : goal.returns
returns c = subst (λ n. AreNamed (λ (p : Phase). ⊥) n c.args.query_states.now c.loop-k.numbers.items) (omega arith) c.loop-k.invariant
