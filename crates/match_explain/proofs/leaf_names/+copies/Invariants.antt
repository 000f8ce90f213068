use Rattle.std.proofs.Common.{◌≡◌, take}
use Rattle.std.specs.Prelude.{fold}
use Rattle.std.specs.List.{flat_map}
use Rattle.match_explain.specs.LeafNames.{copies}
use Rattle.match_explain.proofs.leaf_names.+copies.Given as goal

abbrev pub invariant-copies_of_all-loop-filter : goal.invariant-copies_of_all-loop-filter
invariant-copies_of_all-loop-filter l = l.after.items ≡ fold (λ ls c. copies c ls) l.leaves (take l.filter-index l.filters)

abbrev pub invariant-copies_of_any-loop-filter : goal.invariant-copies_of_any-loop-filter
invariant-copies_of_any-loop-filter l = l.after.items ≡ flat_map (λ c. copies c l.leaves) (take l.filter-index l.filters)
