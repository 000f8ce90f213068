use Rattle.std.proofs.Common.{◌≡◌, take}
use Rattle.std.specs.Prelude.{fold}
use Rattle.cel_lists.specs.Lists.{after_postfix}
use Rattle.cel_plain.proofs.postfix.after_postfixes.Given as goal

abbrev pub invariant-loop-postfix : goal.invariant-loop-postfix
invariant-loop-postfix l = l.after.items ≡ fold (after_postfix l.events l.positions) l.initial.after.items (take l.postfix-index l.postfixes)
