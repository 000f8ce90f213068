-- The cursor is held, at the last position.
use Rattle.std.proofs.Common.{ℕ, ◌-◌, ap}
use Rattle.core_service.proofs.HeldServices.{opens_held}
use Rattle.core_service.proofs.service.Service.open_held.Goals as goal

pub returns-clause-opened : goal.returns-clause-opened
returns-clause-opened g c =
    let s = c.self.inside in
    opens_held s.engine s.lines s.answers s.held c.args.self.now c.self.view_is c.args.query c.in_ok-number.number (c.events-end.result - 1) c.in_ok-cursor.cursor c.add.new.self c.requires.can
    (c.in_ok-number.ensures.added s.engine) c.in_ok-cursor.ensures.query (λ events stands. ap (λ (n : ℕ). n - 1) (c.events-end.ensures.length events stands)) c.in_ok-cursor.ensures.answers
