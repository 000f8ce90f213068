use Rattle.std.proofs.Common.{◌≡◌, take}
use Rattle.cea_compile.specs.DeterminisedRuns.{from_to}
use Rattle.match_explain.proofs.spans.from_to.Given as goal

abbrev pub invariant-loop-position : goal.invariant-loop-position
invariant-loop-position l = l.span.items ≡ from_to l.start l.end (take l.position-index l.positions)
