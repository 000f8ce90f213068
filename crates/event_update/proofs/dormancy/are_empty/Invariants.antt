use Rattle.std.proofs.Common.{◌≡◌, ℕ, ◌<◌, false, [], slice_index_or}
use Rattle.cer_base.specs.Bits.{has}
use Rattle.event_update.proofs.dormancy.are_empty.Given as goal

-- the first j are
abbrev pub invariant-loop-j : goal.invariant-loop-j
invariant-loop-j l = (i k : ℕ) → i < l.j → has (slice_index_or l.sets i []) k ≡ false
