use Rattle.std.proofs.Common.{map, All}
use Rattle.query_engine.specs.Times.{AreGroups, IsBlankGroup}
use Rattle.query_engine.proofs.times.Times.of.Given as goal

abbrev pub invariant-loop-k : goal.invariant-loop-k
invariant-loop-k l = record {
  groups : AreGroups l.schema (map (λ p. p.query) l.query_states) l.k l.groups.items l.numbers.items;
  blank : All IsBlankGroup l.groups.items;
}
