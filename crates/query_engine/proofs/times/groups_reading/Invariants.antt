use Rattle.std.proofs.Common.{map}
use Rattle.query_engine.specs.Times.{AreThose, group_reads}
use Rattle.query_engine.proofs.times.groups_reading.Given as goal

abbrev pub invariant-loop-g : goal.invariant-loop-g
invariant-loop-g l = AreThose (group_reads l.schema (map (λ p. p.query) l.query_states) l.ty) l.g l.groups l.numbers.items
