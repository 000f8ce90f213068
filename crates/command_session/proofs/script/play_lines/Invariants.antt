use Rattle.std.proofs.Common.{◌≡◌, ◌≤◌, false}
use Rattle.query_engine.specs.Engine.{count_of, SameQueries}
use Rattle.command_session.specs.Playing.{Counting}
use Rattle.command_session.proofs.script.play_lines.Given as goal

-- the lines so far were carried out, the sink took what they write, and the steps are bounded by their turns
abbrev pub invariant-loop-fault : goal.invariant-loop-fault
invariant-loop-fault g l = record {
  counting : Counting l.fn.session.engine.schema l.fn.session.engine.queries (g.Q.Source.left l.fn.source) l.lines (g.Q.Source.left l.source) (g.K.Sink.taken l.fn.out) (g.K.Sink.taken l.out) l.session l.fn.steps l.steps;
  going : l.session.closed ≡ false;
  open_is : l.lines.closed ≡ false;
  counted : count_of l.session.engine ≤ l.lines.number;
  same : SameQueries l.fn.session.engine l.session.engine;
  budget : l.lines.budget ≡ l.fn.lines.budget;
  read_faults : g.Q.Source.faults l.source ≡ g.Q.Source.faults l.fn.source;
  write_faults : g.K.Sink.faults l.out ≡ g.K.Sink.faults l.fn.out;
}

abbrev pub decreases-loop-fault : goal.decreases-loop-fault
decreases-loop-fault g l = l.lines.room
