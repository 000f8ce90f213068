use Rattle.std.proofs.Common.{◌≡◌, ◌||◌, not, true, take}
use Rattle.std.specs.List.{list_all}
use Rattle.cea_determinise.specs.Runs.{has_mark}
use Rattle.match_explain.specs.Spans.{lies_between}
use Rattle.match_explain.proofs.spans.is_contiguous.Given as goal

abbrev pub invariant-loop-position : goal.invariant-loop-position
invariant-loop-position l = list_all (λ p. not (lies_between l.marks p) || has_mark l.marks p) (take l.position-index l.span) ≡ true
