use Rattle.std.proofs.Common.{map}
use Rattle.query_engine.specs.Times.{AreByType}
use Rattle.query_engine.proofs.times.groups_by_type.Given as goal

abbrev pub invariant-loop-ty : goal.invariant-loop-ty
invariant-loop-ty l = AreByType l.schema (map (λ p. p.query) l.query_states) l.groups l.ty l.rows.items
