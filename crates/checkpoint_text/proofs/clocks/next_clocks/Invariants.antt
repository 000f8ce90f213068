use Rattle.std.proofs.Common.{◌≡◌, ◌++◌, drop}
use Rattle.checkpoint_text.specs.LastClocks.{next_clocks}
use Rattle.checkpoint_text.proofs.clocks.next_clocks.Given as goal

-- the clocks of the queries so far
abbrev pub invariant-loop-k : goal.invariant-loop-k
invariant-loop-k l =
    l.clocks.items ++ next_clocks l.schema (drop l.k l.queries) (drop l.k l.lasts) (record { position = l.position; event = l.event })
    ≡ next_clocks l.schema l.queries l.lasts (record { position = l.position; event = l.event })
