use Rattle.std.proofs.Common.{take}
use Rattle.query_engine.specs.Dispatch.{AreLeafSets}
use Rattle.query_engine.proofs.dispatch.leaf_sets.Given as goal

abbrev pub invariant-loop-query : goal.invariant-loop-query
invariant-loop-query l = AreLeafSets (take l.query-index l.queries) l.sets.items
