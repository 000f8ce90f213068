use Rattle.std.proofs.Common.{◌≡◌, take}
use Rattle.command_explain.specs.Explanations.{told}
use Rattle.command_explain.proofs.explanation.told.Given as goal

-- the lines of the names so far
abbrev pub invariant-loop-binding : goal.invariant-loop-binding
invariant-loop-binding l = l.text.items ≡ told l.question l.marks (take l.binding-index l.bindings)
