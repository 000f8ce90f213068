use Rattle.std.proofs.Common.{rules}
use Rattle.std.specs.Int.{w64}
use mir.Val.{SFits}
use Rattle.std.proofs.lemmas.Int.{to_z-of_z}
use Rattle.reorder_gate.proofs.Views.{due_seen}
use Rattle.reorder_gate.proofs.gate.Gate.has_due.Goals as goal

pub returns-else-self : goal.returns-else-self
returns-else-self c =
    let fits : SFits w64 c.in-Some.turn.now.clock = search rules in
    let due = simp to_z-of_z at c.is_due.ensures in
    due_seen c.self.inside.places.items c.self.inside.late c.self.inside.high c.self.inside.is_finished c.self.inside.arrivals c.self.inside.waiting.entries c.in-Some.turn.now c.in-Some.field-0-1.now c.is_due.result c.args.self.now c.self.view_is c.self.invariant c.in-Some.ensures.first c.if-self.false due
