use Rattle.std.proofs.Common.{◌≡◌, take}
use Rattle.std.specs.Prelude.{fold}
use Rattle.match_explain.specs.LeafNames.{copies}
use Rattle.match_explain.proofs.leaf_names.under_all.Given as goal

abbrev pub invariant-loop-filter : goal.invariant-loop-filter
invariant-loop-filter l = l.after.items ≡ fold (λ ls c. copies c ls) l.initial.after.items (take l.filter-index l.filters)
