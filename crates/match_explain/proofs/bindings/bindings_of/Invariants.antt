use Rattle.std.proofs.Common.{◌≡◌, take}
use Rattle.std.specs.List.{filter_map}
use Rattle.match_explain.specs.Bindings.{binding_if, positions_of}
use Rattle.match_explain.proofs.bindings.bindings_of.Given as goal

abbrev pub invariant-loop-name : goal.invariant-loop-name
invariant-loop-name l = l.bindings.items ≡ filter_map (λ name. binding_if name (positions_of l.leaves l.steps name)) (take l.name-index l.name-items)
