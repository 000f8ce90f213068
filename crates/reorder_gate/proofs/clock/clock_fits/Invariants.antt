use Rattle.std.proofs.Common.{◌≡◌, true, take}
use Rattle.std.specs.List.{list_all}
use Rattle.reorder_gate.specs.AttributeClock.{has_clock}
use Rattle.reorder_gate.proofs.clock.clock_fits.Given as goal

abbrev pub invariant-loop-ty : goal.invariant-loop-ty
invariant-loop-ty l = list_all (has_clock l.name) (take l.ty l.schema.types) ≡ true
