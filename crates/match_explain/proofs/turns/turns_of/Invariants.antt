use Rattle.std.proofs.Common.{length, take}
use Rattle.std.specs.List.{AllZip}
use Rattle.cer_base.specs.Bits.{has}
use Rattle.match_explain.specs.Searching.{IsTurnAt}
use Rattle.match_explain.proofs.turns.turns_of.Given as goal

abbrev pub invariant-loop-position : goal.invariant-loop-position
invariant-loop-position l = AllZip (IsTurnAt l.conditions (has l.marked_leaves) (length l.conditions) l.events l.marks) (take l.position-index l.span) l.turns.items
