use Rattle.std.proofs.Common.{◌≡◌, take}
use Rattle.match_explain.specs.Bindings.{positions_of}
use Rattle.match_explain.proofs.bindings.positions_of.Given as goal

abbrev pub invariant-loop-step : goal.invariant-loop-step
invariant-loop-step l = l.positions.items ≡ positions_of l.leaves (take l.step-index l.steps) l.name
