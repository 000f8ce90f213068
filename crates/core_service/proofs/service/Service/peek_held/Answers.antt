-- The cursor has no more, or its next answer is shown.
use Rattle.std.proofs.Common.{sym}
use Rattle.core_service.proofs.HeldServices.{stays_held, over_held, shows_held}
use Rattle.core_service.proofs.service.Service.peek_held.Goals as goal
use Rattle.core_service.proofs.service.Service.peek_held.Goals.{in-Ok, in-Err}

pub returns-after-show_other : goal.returns-after-show_other
returns-after-show_other g c =
    let s = c.self.inside in
    let d = c.in-Some-draw.ensures.drawn c.args.cursor c.in-Some.ensures.found in
    elim c.match-show_other.branch [
      | in-Ok w ↦ rw w.result-is (shows_held s.engine s.lines s.answers s.held c.args.self.now c.self.view_is c.args.cursor c.in-Some.place c.show_other.new.self c.draw.new.self c.in-Some-draw.numbers c.positions.result.now
          d (sym (c.positions.ensures d.cursor d.cursor_is)) c.show_other.ensures.same w.in-Ok.ensures.shown)
      | in-Err w ↦ rw w.result-is (stays_held s.engine s.lines s.answers s.held c.args.self.now c.self.view_is c.args.cursor c.in-Some.place c.show_other.new.self c.draw.new.self _ d c.show_other.ensures.same)
    ]

pub returns-in-None-draw : goal.returns-in-None-draw
returns-in-None-draw g c =
    let s = c.self.inside in
    over_held s.engine s.lines s.answers s.held c.args.self.now c.self.view_is c.args.cursor c.in-Some.place c.draw.new.self (c.in-None-draw.ensures.drawn c.args.cursor c.in-Some.ensures.found)
