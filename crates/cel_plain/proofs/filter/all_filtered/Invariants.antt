use Rattle.std.proofs.Common.{◌≡◌, take}
use Rattle.std.specs.Prelude.{fold}
use Rattle.cel_lists.specs.Lists.{filtered}
use Rattle.cel_plain.proofs.filter.all_filtered.Given as goal

abbrev pub invariant-loop-filter : goal.invariant-loop-filter
invariant-loop-filter l = l.after.items ≡ fold (filtered l.schema l.events) l.initial.after.items (take l.filter-index l.filters)
