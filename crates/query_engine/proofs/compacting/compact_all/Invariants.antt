use Rattle.std.proofs.Common.{◌≡◌, ◌+◌, ◌≤◌, ℕ, ℤ, Bool, List, Option, length, map, take, drop}
use Rattle.std.specs.List.{AllZip}
use Rattle.tecs_enumerate.specs.Remaining.{CursorState}
use Rattle.all_or_none.specs.Phases.{Phase}
use Rattle.query_engine.specs.Times.{clocks_in, with_clocks}
use Rattle.query_engine.specs.Compacting.{IsCompacted, AreTrimmed, AreOnce, OthersStay, AreCarried, cost_of}
use Rattle.query_engine.proofs.compacting.compact_all.Given as goal

-- Of the first k query states, with their clocks, those that are chosen are compacted, and the cursors carried over.
pub record Compacts (chosen : List Bool) (clocks : List (Option ℤ)) (old cur : List Phase) (ws vs : List CursorState) (k room now_room before now : ℕ) : Type 0 where
  pub done : AllZip IsCompacted (map (λ p. p) (take k (with_clocks old clocks))) (map (λ p. p) (take k (with_clocks cur clocks)))
  pub left : drop k cur ≡ drop k old
  pub held : AreCarried k (with_clocks old clocks) (with_clocks cur clocks) ws vs
  pub same_room : now_room ≡ room
  pub trimmed : AreTrimmed chosen k vs (with_clocks cur clocks)
  pub once : AreOnce chosen k (with_clocks old clocks)
  pub others : OthersStay chosen k (with_clocks old clocks) (with_clocks cur clocks)
  pub few : k ≤ length old
  pub paid : now ≤ before + cost_of chosen (take k (with_clocks old clocks))

abbrev pub invariant-loop-k : goal.invariant-loop-k
invariant-loop-k g l = Compacts l.chosen (clocks_in l.times) l.fn.query_states l.query_states l.fn.held l.held l.k l.fn.room l.room l.fn.steps l.steps
