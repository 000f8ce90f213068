use Rattle.std.proofs.Common.{◌≡◌, length, All}
use Rattle.cea_determinise.specs.Cea.{IsSet}
use Rattle.set_tests.proofs.patterns.rows_of.Given as goal

abbrev pub invariant-loop-k : goal.invariant-loop-k
invariant-loop-k l = record { count : length l.rows.items ≡ l.k; sets : All (IsSet l.size) l.rows.items }
