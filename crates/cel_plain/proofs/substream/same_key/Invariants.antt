use Rattle.std.proofs.Common.{◌≡◌, true, take}
use Rattle.std.specs.List.{list_all}
use Rattle.cel_lists.specs.Below.{same_attr}
use Rattle.cel_plain.proofs.substream.same_key.Given as goal

abbrev pub invariant-loop-name : goal.invariant-loop-name
invariant-loop-name l = list_all (same_attr l.schema l.a l.b) (take l.name-index l.names) ≡ true
