use Rattle.std.proofs.Common.{◌≡◌, ℕ, ◌||◌, ◌&&◌, length}
use Rattle.cer_base.specs.Bits.{has}
use Rattle.cea_determinise.specs.Runs.{some_below}
use Rattle.cea_determinise.specs.Cea.{row}
use Rattle.cea_determinise.proofs.sets.unite_rows.Given as goal

abbrev pub invariant-loop-j : goal.invariant-loop-j
invariant-loop-j l = record {
  room : length l.into ≡ length l.fn.into;
  members : (k : ℕ) → has l.into k ≡ has l.fn.into k || some_below l.j (λ j. has l.from j && row l.rows j k);
}
