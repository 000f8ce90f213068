use Rattle.std.proofs.Common.{◌≡◌, take}
use Rattle.cel_lists.specs.Below.{answers_from}
use Rattle.cel_plain.proofs.answers.answers_from.Given as goal

abbrev pub invariant-loop-one : goal.invariant-loop-one
invariant-loop-one l = l.answers.items ≡ answers_from l.schema l.query l.events l.positions l.end (take l.one-index l.found)
