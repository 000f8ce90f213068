use Rattle.std.proofs.Common.{◌≡◌, map, take}
use Rattle.cel_terms.specs.Meaning.{only_names}
use Rattle.query_leaves.proofs.occurrence.only_names.Given as goal

abbrev pub invariant-loop-name : goal.invariant-loop-name
invariant-loop-name l = map (λ n. n.now) l.after.items ≡ only_names l.listed (map (λ n. n.now) (take l.name-index l.names))
