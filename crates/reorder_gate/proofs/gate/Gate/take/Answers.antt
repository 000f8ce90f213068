use Rattle.std.proofs.Common.{sym, ◌∙◌}
use Rattle.reorder_gate.proofs.Standing.{all_gone}
use Rattle.reorder_gate.proofs.Views.{take_keeps, none_seen}
use Rattle.reorder_gate.proofs.gate.Gate.take.Goals as goal
use Rattle.reorder_gate.proofs.gate.Gate.take.Goals.{in-Some, in-None}

pub returns-then-not-has_due-clause-none : goal.returns-then-not-has_due-clause-none
returns-then-not-has_due-clause-none c = none_seen c.self.inside.places.items c.self.inside.late c.self.inside.high c.self.inside.is_finished c.self.inside.arrivals c.self.inside.waiting.entries c.args.self.now c.self.view_is c.self.invariant (sym c.has_due.ensures ∙ c.if-not-has_due.true)

pub returns-then-not-has_due-clause-all : goal.returns-then-not-has_due-clause-all
returns-then-not-has_due-clause-all c = λ put gone stands. all_gone c.args.self.now put gone
    (none_seen c.self.inside.places.items c.self.inside.late c.self.inside.high c.self.inside.is_finished c.self.inside.arrivals c.self.inside.waiting.entries c.args.self.now c.self.view_is c.self.invariant (sym c.has_due.ensures ∙ c.if-not-has_due.true)) stands

pub returns-clause-history : goal.returns-clause-history
returns-clause-history c = λ put gone stands. elim c.match-pop_first.branch [
  | in-Some w ↦ rw w.result-is (take_keeps c.self.inside.places.items c.self.inside.late c.self.inside.high c.self.inside.is_finished c.self.inside.waiting.entries c.pop_first.new.self.entries (w.in-Some.field-0-0, w.in-Some.event) c.args.self.now
      c.self.view_is w.in-Some.ensures.removal (sym c.has_due.ensures ∙ c.if-not-has_due.false) put gone stands)
  | in-None w ↦ rw w.result-is tt
]
