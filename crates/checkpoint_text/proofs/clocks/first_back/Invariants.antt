use Rattle.std.proofs.Common.{◌≡◌, ◌+◌, drop}
use Rattle.checkpoint_text.specs.LastClocks.{any_back, first_back}
use Rattle.checkpoint_text.proofs.clocks.first_back.Given as goal

-- of the queries so far none falls
abbrev pub invariant-loop-k : goal.invariant-loop-k
invariant-loop-k l = record {
  first : first_back l.schema 1 l.queries l.lasts (record { position = l.position; event = l.event }) ≡ first_back l.schema (l.k + 1) (drop l.k l.queries) (drop l.k l.lasts) (record { position = l.position; event = l.event });
  none : any_back l.schema l.queries l.lasts (record { position = l.position; event = l.event }) ≡ any_back l.schema (drop l.k l.queries) (drop l.k l.lasts) (record { position = l.position; event = l.event });
}
