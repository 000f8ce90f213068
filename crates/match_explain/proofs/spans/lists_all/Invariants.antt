use Rattle.std.proofs.Common.{◌≡◌, true, take}
use Rattle.std.specs.List.{list_all}
use Rattle.cea_determinise.specs.Runs.{has_mark}
use Rattle.match_explain.proofs.spans.lists_all.Given as goal

abbrev pub invariant-loop-other : goal.invariant-loop-other
invariant-loop-other l = list_all (has_mark l.positions) (take l.other-index l.others) ≡ true
