use Rattle.std.proofs.Common.{◌≡◌, true, false, take}
use Rattle.std.specs.List.{list_all, list_any}
use Rattle.cel_lists.specs.Lists.{meets}
use Rattle.cel_plain.proofs.filter.+meets.Given as goal

abbrev pub invariant-meets_all-loop-filter : goal.invariant-meets_all-loop-filter
invariant-meets_all-loop-filter l = list_all (λ c. meets l.schema l.events c l.bounds) (take l.filter-index l.filters) ≡ true

abbrev pub invariant-meets_any-loop-filter : goal.invariant-meets_any-loop-filter
invariant-meets_any-loop-filter l = list_any (λ c. meets l.schema l.events c l.bounds) (take l.filter-index l.filters) ≡ false
