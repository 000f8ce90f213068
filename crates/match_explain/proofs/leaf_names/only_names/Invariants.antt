use Rattle.std.proofs.Common.{◌≡◌, take}
use Rattle.cel_terms.specs.Meaning.{only_names}
use Rattle.match_explain.proofs.leaf_names.only_names.Given as goal

abbrev pub invariant-loop-name : goal.invariant-loop-name
invariant-loop-name l = l.after.items ≡ only_names l.listed (take l.name-index l.names)
