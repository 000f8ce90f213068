use Rattle.std.proofs.Common.{◌≡◌, ◌++◌, take, drop}
use Rattle.match_explain.specs.Bindings.{with_one}
use Rattle.match_explain.proofs.bindings.place_of.Given as goal

abbrev pub invariant-loop-k : goal.invariant-loop-k
invariant-loop-k l = with_one l.names l.name ≡ take l.k l.names ++ with_one (drop l.k l.names) l.name
