use Rattle.std.proofs.Common.{◌≡◌, ℕ, ◌<◌, ◌≤◌, false, length, slice_get}
use Rattle.cer_base.specs.Bits.{has, room_for}
use Rattle.cea_compile.specs.LeafAutomaton.{is_marked_leaf}
use Rattle.cea_compile.proofs.building.marked.Given as goal

abbrev pub invariant-loop-k : goal.invariant-loop-k
invariant-loop-k l =
    record {
      room : length l.marked ≡ room_for (length l.fn.list);
      before : (j : ℕ) → j < l.k → has l.marked j ≡ is_marked_leaf (slice_get l.fn.list j);
      from_there : (j : ℕ) → l.k ≤ j → has l.marked j ≡ false;
    }
