use Rattle.std.proofs.Common.{◌≡◌, drop}
use Rattle.checkpoint_text.specs.Keeping.{any_needs}
use Rattle.checkpoint_text.proofs.clocks.any_needs.Given as goal

-- of the queries so far none needs it
abbrev pub invariant-loop-k : goal.invariant-loop-k
invariant-loop-k l = any_needs l.schema l.queries l.lasts l.at ≡ any_needs l.schema (drop l.k l.queries) (drop l.k l.lasts) l.at
