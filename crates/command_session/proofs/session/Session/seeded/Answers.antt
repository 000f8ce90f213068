-- The engine is new, no cursor is open, and what is kept of each query is noted.
use Rattle.std.proofs.Common.{List, refl, sym, ap}
use Rattle.query_engine.proofs.SmallSizes.{nothing_is_put_by}
use Rattle.command_session.specs.declared.opened.CursorNumber.{CursorNumber}
use Rattle.command_session.specs.Sessions.{cursors_seen}
use Rattle.command_session.proofs.session.Session.seeded.Goals as goal

pub returns : goal.returns
returns c = record {
  given = c.in_ok-engine.ensures.given;
  stands = record { events = c.in_ok-engine.ensures.stands; cursors = sym (ap (λ (os : List CursorNumber). cursors_seen c.in_ok-engine.engine os c.new-2.result.items) c.new.ensures.items) };
  count = c.in_ok-engine.ensures.count;
  going = refl;
  nothing_put_by = nothing_is_put_by c.in_ok-engine.engine c.note.new.self.bases c.note.ensures.sizes;
}
